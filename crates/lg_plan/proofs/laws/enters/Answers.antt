use Rattle.lg_plan.proofs.Entering.{faultless-enters}
use Rattle.lg_plan.proofs.laws.enters.Goals as goal

pub returns : goal.returns
returns c = faultless-enters
