use Rattle.std.proofs.Common.{◌≡◌}
use Rattle.lg_bulk.proofs.PlanLemmas.{plan_of}
use Rattle.lg_bulk.proofs.planning.plan_gathered.Given as goal

abbrev pub invariant-loop-entry : goal.invariant-loop-entry
invariant-loop-entry l = l.plan ≡ plan_of l.fn.place l.ledger l.fn.gathered.results l.yielded
