use Rattle.std.proofs.Common.{◌≡◌, ◌+◌, ◌-◌, ◌*◌, take, drop}
use Rattle.std.specs.List.{sum_by}
use Rattle.lg_moves.specs.Sums.{AreSums}
use Rattle.lg_moves.proofs.block.move_upper.Given as goal

abbrev pub invariant-loop-i : goal.invariant-loop-i
invariant-loop-i g l = (l.into.items ≡ take (l.i - 16) (drop 16 l.from.items)) × (l.into.spare + l.i ≡ 48) × AreSums l.sums (λ part. sum_by part l.into.items) × (l.steps + 32 ≡ l.initial.steps + 2 * l.i)
