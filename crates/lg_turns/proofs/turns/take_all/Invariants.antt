use Rattle.std.specs.Sync.Mutex.{mutex_guard_value}
use Rattle.std.proofs.Common.{◌≡◌, false, length}
use Rattle.lg_turns.specs.Stripes.{has}
use Rattle.lg_turns.specs.Rows.{AllHeld, HeldBelow}
use Rattle.lg_turns.proofs.turns.take_all.Given as goal

abbrev pub invariant-loop-place : goal.invariant-loop-place
invariant-loop-place g l =
    (length l.row ≡ 16)
    × HeldBelow (has l.set) l.place l.row
    × AllHeld l.row (λ k a. (g.P.Part.stripe_of (mutex_guard_value a).part ≡ k) × ((mutex_guard_value a).prepared ≡ false))
