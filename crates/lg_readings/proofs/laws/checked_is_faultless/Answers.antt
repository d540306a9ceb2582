use Rattle.lg_readings.proofs.Checks.{checked_is_faultless}
use Rattle.lg_readings.proofs.laws.checked_is_faultless.Goals as goal

pub returns : goal.returns
returns c = checked_is_faultless
