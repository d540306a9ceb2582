use Rattle.std.specs.Sync.Mutex.{mutex_guard_value}
use Rattle.std.proofs.Common.{◌≡◌, List}
use Rattle.lg_types.specs.declared.records.Event.{Event}
use Rattle.lg_turns.specs.Rows.{AllHeld, SameHeld, Staged}
use Rattle.lg_turns.proofs.prepare.prepare_row.Given as goal

abbrev pub invariant-loop-place : goal.invariant-loop-place
invariant-loop-place g l =
    (g.C.Change.added l.change ≡ g.C.Change.added l.fn.change)
    × (g.C.Change.mark l.change ≡ g.C.Change.mark l.fn.change)
    × (g.C.Change.touched l.change ≡ g.C.Change.touched l.fn.change)
    × ((es : List Event) → g.C.Change.fits l.fn.change es → g.C.Change.fits l.change es)
    × AllHeld l.row (λ k a. Staged 0 l.place (g.C.Change.touched l.change) l.pen.me.0.seen k (g.P.Part.stripe_of (mutex_guard_value a).part) (mutex_guard_value a).known (mutex_guard_value a).prepared (g.P.Part.shares (mutex_guard_value a).part) (g.C.Change.on_part l.change (mutex_guard_value a).part))
    × SameHeld l.row l.fn.row
