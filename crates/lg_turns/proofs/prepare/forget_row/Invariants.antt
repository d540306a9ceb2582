use Rattle.std.specs.Sync.Mutex.{mutex_guard_value}
use Rattle.lg_turns.specs.Rows.{AllHeld, SameHeld, Staged}
use Rattle.lg_turns.proofs.prepare.forget_row.Given as goal

abbrev pub invariant-loop-place : goal.invariant-loop-place
invariant-loop-place g l = AllHeld l.row (λ k a. Staged l.place l.end (g.C.Change.touched l.change) l.pen.me.0.seen k (g.P.Part.stripe_of (mutex_guard_value a).part) (mutex_guard_value a).known (mutex_guard_value a).prepared (g.P.Part.shares (mutex_guard_value a).part) (g.C.Change.on_part l.change (mutex_guard_value a).part))
    × SameHeld l.row l.fn.row
