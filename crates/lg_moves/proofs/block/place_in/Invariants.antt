use Rattle.std.proofs.Common.{◌≡◌, ◌+◌, ◌-◌, ◌≤◌, length, take}
use Rattle.lg_moves.specs.Ranks.{IsUpToMove, Each}
use Rattle.lg_moves.proofs.block.place_in.Given as goal

abbrev pub invariant-loop-place : goal.invariant-loop-place
invariant-loop-place g l = (l.place ≤ length l.moves.items) × Each (λ x. IsUpToMove x l.item) (take l.place l.moves.items) × (l.steps ≡ l.initial.steps + l.place)

abbrev pub decreases-loop-place : goal.decreases-loop-place
decreases-loop-place g l = length l.moves.items - l.place
