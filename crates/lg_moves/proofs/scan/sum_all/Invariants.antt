use Rattle.std.proofs.Common.{◌≡◌, ◌+◌, take}
use Rattle.std.specs.List.{sum_by}
use Rattle.lg_types.specs.Tally.{if_passing}
use Rattle.lg_moves.specs.Bounds.{passes}
use Rattle.lg_moves.specs.Sums.{AreSums}
use Rattle.lg_moves.proofs.scan.sum_all.Given as goal

abbrev pub invariant-loop-i : goal.invariant-loop-i
invariant-loop-i g l = AreSums l.sums (λ part. sum_by (if_passing (passes l.bound) part) (take l.i l.moves.items)) × (l.steps ≡ l.initial.steps + l.i)
