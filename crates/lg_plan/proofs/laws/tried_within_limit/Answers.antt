use Rattle.lg_plan.proofs.Entering.{tried-within}
use Rattle.lg_plan.proofs.laws.tried_within_limit.Goals as goal

pub returns : goal.returns
returns c = tried-within
