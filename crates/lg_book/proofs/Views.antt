-- The events that were added and those that are prepared, as parts of one list.
use Rattle.std.proofs.Common.{◌≡◌, ℕ, zero, suc, ◌+◌, ◌-◌, List, [], ◌∷◌, ◌++◌, length, take, drop, slice_get, Some, refl, sym, ap, ap₂, subst, ◌∙◌, add-one, arith, length-drop}
use Rattle.lg_types.specs.declared.records.Event.{Event}
use Rattle.lg_book.specs.Booked.{Booked}
use Rattle.lg_book.proofs.Lists.{take-snoc}
use Rattle.lg_book.proofs.BookSteps.{drop-next, take_all}
use Rattle.lg_book.proofs.ForgetSteps.{slice_get-drop}

pub next_event : (count : ℕ) (all prepared : List Event) (event : Event) → drop count all ≡ prepared → slice_get prepared 0 ≡ Some event → slice_get all count ≡ Some event
next_event count all prepared event p h =
    ap (slice_get all) (let e : count ≡ count + 0 = omega arith in e) ∙ sym (slice_get-drop count all 0) ∙ ap (λ l. slice_get l 0) p ∙ h

same_book : (a b c d : List Event) → a ≡ c → b ≡ d → ◌≡◌ {A = Booked} (record { events = a; prepared = b }) (record { events = c; prepared = d })
same_book a b c d p q = λ i. record { events = p i; prepared = q i }

pub moved_view : (count : ℕ) (all events prepared : List Event) (event : Event) → take count all ≡ events → drop count all ≡ prepared → slice_get prepared 0 ≡ Some event
    → ◌≡◌ {A = Booked} (record { events = take (count + 1) all; prepared = drop (count + 1) all }) (record { events = events ++ event ∷ []; prepared = drop 1 prepared })
moved_view count all events prepared event v p h =
    let next : slice_get all count ≡ Some event = next_event count all prepared event p h in
    same_book _ _ _ _
    (ap (λ n. take n all) (add-one count) ∙ take-snoc count all event next ∙ ap (λ l. l ++ event ∷ []) v)
    (ap (λ n. drop n all) (add-one count) ∙ ap (drop 1) (sym (drop-next count all event next)) ∙ ap (drop 1) p)

pub rest_slice : (n : ℕ) (xs : List Event) → take (length xs - n) (drop n xs) ≡ drop n xs
rest_slice n xs = ap (λ (m : ℕ). take m (drop n xs)) (sym (length-drop n xs)) ∙ take_all (drop n xs)
