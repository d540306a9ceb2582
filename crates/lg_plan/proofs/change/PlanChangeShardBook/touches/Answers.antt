use Rattle.lg_plan.proofs.EventLemmas.{untouched-all}
use Rattle.lg_plan.proofs.change.PlanChangeShardBook.touches.Goals as goal

pub returns-clause-all : goal.returns-clause-all
returns-clause-all c = λ k lt none. untouched-all k c.args.self.now.events none
