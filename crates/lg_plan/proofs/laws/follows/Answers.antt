use Rattle.lg_plan.proofs.Entering.{entry-follows, made-follows}
use Rattle.lg_plan.proofs.laws.follows.Goals as goal

pub returns : goal.returns
returns c = record { entry = entry-follows; made = made-follows }
