use Rattle.std.specs.Prelude.{slice_index}
use Rattle.std.specs.Sync.Mutex.{mutex_guard_value}
use Rattle.std.proofs.Common.{◌≡◌, length}
use Rattle.lg_turns.specs.Rules.{IsPen}
use Rattle.lg_turns.specs.Rows.{AllHeld, mapped, Refreshing}
use Rattle.lg_turns.proofs.rows.refresh_all.Given as goal

abbrev pub invariant-loop-place : goal.invariant-loop-place
invariant-loop-place g l =
    (length l.row ≡ 16)
    × (l.pen.table_id ≡ g.N.Name.table)
    × IsPen l.pen.me.0
    × (l.pen.me.0.seen ≡ l.fn.pen.me.0.seen)
    × (l.pen.me.1 ≡ l.fn.pen.me.1)
    × AllHeld l.row (λ k a. Refreshing l.place l.fn.pen.me.0.seen k (g.P.Part.stripe_of (mutex_guard_value a).part) (mutex_guard_value a).prepared (slice_index l.stamps k) (mutex_guard_value a).known (g.P.Part.shares (mutex_guard_value a).part))
    × (mapped l.row (λ a. (mutex_guard_value a).part) ≡ mapped l.fn.row (λ a. (mutex_guard_value a).part))
