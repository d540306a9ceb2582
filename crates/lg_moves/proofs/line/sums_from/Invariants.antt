use Rattle.std.proofs.Common.{◌≡◌, ◌+◌, ◌-◌, take}
use Rattle.std.specs.List.{sum_by}
use Rattle.lg_moves.specs.Sums.{AreSums}
use Rattle.lg_moves.specs.Entries.{hit_part}
use Rattle.lg_moves.proofs.line.sums_from.Given as goal

abbrev pub invariant-loop-i : goal.invariant-loop-i
invariant-loop-i g l = AreSums l.sums (λ part. sum_by (hit_part l.bound part) (take l.i l.entries.items)) × (l.steps ≡ l.initial.steps + (l.i - l.from))
