use Rattle.lg_views.proofs.Within.{volumes_within_limit}
use Rattle.lg_views.proofs.laws.volumes_within_limit.Goals as goal

pub returns : goal.returns
returns c = volumes_within_limit
