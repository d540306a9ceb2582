-- Loops over the items of lists with their places.
use Rattle.std.proofs.Common.{◌≡◌, ℕ, ◌<◌, List, [], ◌∷◌, length, get_or, sym, ap, ◌∙◌, zero-add, arith}
use Rattle.std.specs.List.{enumerate_from}
use Rattle.std.specs.Prelude.{slice_get}
use Rattle.std.proofs.lemmas.List.{get_or_default}
use Rattle.std.proofs.lemmas.List.FromFn.{get_or-enumerate_from}
use Rattle.std.proofs.lemmas.Option.{slice_get-get_or}
use Rattle.lg_types.specs.declared.records.Event.{Event}
use Rattle.lg_views.specs.Output.{event_line}
use Rattle.lg_batch.specs.Runs.{line_at}

placed : {X : Type 0} (xs : List X) (i : ℕ) (x : X) → i < length xs → x ≡ get_or xs i x → (i, x) ≡ get_or (enumerate_from 0 xs) i (i, x)
placed xs i x h is = ap (λ y. (i, y)) is ∙ ap (λ n. (n, get_or xs i x)) (sym (zero-add i)) ∙ sym (get_or-enumerate_from 0 xs i (i, x) h)

-- the event at a place before the end
pub event_at : (events : List Event) (i : ℕ) → i < length events → (p : ℕ × Event) × (p ≡ get_or (enumerate_from 0 events) i p) × (line_at i (slice_get events i) ≡ event_line p)
event_at [] i h = absurd (omega arith)
event_at (e ∷ events) i h = (
  (i, get_or (e ∷ events) i e),
  placed (e ∷ events) i (get_or (e ∷ events) i e) h (get_or_default (e ∷ events) i e (get_or (e ∷ events) i e) h),
  ap (line_at i) (slice_get-get_or (e ∷ events) i e h),
)
