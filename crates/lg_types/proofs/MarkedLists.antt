-- Marked lists: their events, their lengths, and the number at their end.
use Rattle.std.proofs.Common.{◌≡◌, ℕ, List, [], ◌∷◌, ◌++◌, length, refl, ap, ◌∙◌, arith}
use Rattle.std.proofs.lemmas.List.{length-map, map-append}
use Rattle.lg_types.specs.declared.records.Event.{Event}
use Rattle.lg_types.specs.declared.marks.Mark.{Mark}
use Rattle.lg_types.specs.declared.marks.Marked.{Marked}
use Rattle.lg_types.specs.Lists.{IsPrefix}
use Rattle.lg_types.specs.Marked.{event_of, events_of, marks, opening, end_from, open_end}

pub events_length : (ms : List Marked) → length (events_of ms) ≡ length ms
events_length ms = length-map ms event_of

pub events_append : (ms ns : List Marked) → events_of (ms ++ ns) ≡ events_of ms ++ events_of ns
events_append ms ns = map-append event_of ms ns

pub events-prefix : (ms ns : List Marked) → IsPrefix ms ns → IsPrefix (events_of ms) (events_of ns)
events-prefix ms ns h = (events_of h.0, ap events_of h.1 ∙ events_append ms h.0)

pub marks_events : (mark : Mark) (events : List Event) → events_of (marks mark events) ≡ events
marks_events mark [] = refl
marks_events mark (event ∷ events) = ap (λ es. event ∷ es) (marks_events mark events)

pub marks_length : (mark : Mark) (events : List Event) → length (marks mark events) ≡ length events
marks_length mark [] = refl
marks_length mark (event ∷ events) = let rest = marks_length mark events in omega (arith, rest)

pub opening_events : (events : List Event) → events_of (opening events) ≡ events
opening_events [] = refl
opening_events (event ∷ events) = ap (λ es. event ∷ es) (opening_events events)

-- the number at the end of a list, and of one after another
pub end-append : (n : ℕ) (ms ns : List Marked) → end_from n (ms ++ ns) ≡ end_from (end_from n ms) ns
end-append n [] ns = refl
end-append n (m ∷ ms) ns = end-append m.following ms ns

pub marks-end : (n : ℕ) (mark : Mark) (events : List Event) → n ≡ length events → end_from n (marks mark events) ≡ 0
marks-end n mark [] h = h
marks-end n mark (event ∷ events) h = marks-end (length events) mark events refl

-- after whole calls the number is 0, and it stays so with one more call
pub open_end-marks : (ms : List Marked) (mark : Mark) (events : List Event) → open_end ms ≡ 0 → open_end (ms ++ marks mark events) ≡ 0
open_end-marks ms mark events h = end-append 0 ms (marks mark events) ∙ ap (λ n. end_from n (marks mark events)) h ∙ from_zero events
  where
    from_zero : (events : List Event) → end_from 0 (marks mark events) ≡ 0
    from_zero [] = refl
    from_zero (event ∷ events) = marks-end (length events) mark events refl

pub opening-end : (events : List Event) → open_end (opening events) ≡ 0
opening-end [] = refl
opening-end (event ∷ events) = opening-end events
