use Rattle.std.specs.Sync.Mutex.{mutex_guard_value}
use Rattle.std.proofs.Common.{◌≡◌}
use Rattle.lg_turns.specs.Rules.{IsPen}
use Rattle.lg_turns.specs.Rows.{AllHeld, SameHeld, Applying}
use Rattle.lg_turns.proofs.publish.apply_row.Given as goal

abbrev pub invariant-loop-place : goal.invariant-loop-place
invariant-loop-place g l =
    (l.pen.table_id ≡ g.N.Name.table)
    × IsPen l.pen.me.0
    × (l.pen.me.0.seen ≡ l.fn.pen.me.0.seen)
    × (l.pen.me.1 ≡ l.fn.pen.me.1)
    × AllHeld l.row (λ k a. Applying l.place (g.C.Change.touched l.change) (g.J.Journal.events l.before.value) (g.C.Change.added l.change) k (g.P.Part.stripe_of (mutex_guard_value a).part) (mutex_guard_value a).known (mutex_guard_value a).prepared (g.P.Part.shares (mutex_guard_value a).part) (g.C.Change.on_part l.change (mutex_guard_value a).part))
    × SameHeld l.row l.fn.row
