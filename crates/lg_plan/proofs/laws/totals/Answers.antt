use Rattle.lg_plan.proofs.Entering.{part-totals, totals-stay-within}
use Rattle.lg_plan.proofs.laws.totals.Goals as goal

pub returns : goal.returns
returns c = record { part = part-totals; within = totals-stay-within }
