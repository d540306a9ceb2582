use Rattle.lg_moves.specs.Line.{IsSearching}
use Rattle.lg_moves.proofs.line.place_of.Given as goal

abbrev pub invariant-loop-size : goal.invariant-loop-size
invariant-loop-size g l = IsSearching l.bound l.marks.items l.low l.size l.initial.steps l.steps

abbrev pub decreases-loop-size : goal.decreases-loop-size
decreases-loop-size g l = l.size
