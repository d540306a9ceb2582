use Rattle.lg_moves.specs.Line.{IsSearchingBefore}
use Rattle.lg_moves.proofs.transactions.count_before.Given as goal

abbrev pub invariant-loop-size : goal.invariant-loop-size
invariant-loop-size g l = IsSearchingBefore l.id l.entries.items l.low l.size l.initial.steps l.steps

abbrev pub decreases-loop-size : goal.decreases-loop-size
decreases-loop-size g l = l.size
