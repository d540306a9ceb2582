-- A loop over the pairs of a map, place by place, that feeds a text for each pair.
use Rattle.std.proofs.Common.{◌≡◌, ℕ, zero, suc, ◌+◌, ◌≤◌, List, [], ◌∷◌, ◌++◌, length, drop, Option, Some, None, slice_get, Result, Ok, Err, IsErr, flat_map, refl, sym, ap, subst, ◌∙◌, arith}
use Rattle.std.proofs.lemmas.List.{append-nil, drop_all}
use Rattle.std.proofs.lemmas.Grind.{flat_map-append}
use Rattle.std.proofs.lemmas.Option.{get_or_from_slice_get}
use Rattle.std.specs.List.{join_by}
use Rattle.std.specs.Option.{option_to_list}
use Rattle.lg_base.specs.Growth.{Gives, Completes}
use Rattle.lg_base.proofs.Feeds.{Completes-more, Completes-stop, Completes-end}

-- what is left from a place on: the item there, and what is left behind it
left_at : {X : Type 0} (xs : List X) (i : ℕ) → drop i xs ≡ option_to_list (slice_get xs i) ++ drop (suc i) xs
left_at [] zero = refl
left_at [] (suc i) = refl
left_at (x ∷ xs) zero = refl
left_at (x ∷ xs) (suc i) = left_at xs i

-- the first item, and the others each after a separator
pub joined_first : {X : Type 0} (f : X → List ℕ) (separator : List ℕ) (xs : List X) (x : X) → slice_get xs 0 ≡ Some x → f x ++ flat_map (λ y. separator ++ f y) (drop 1 xs) ≡ join_by f separator xs
joined_first f separator [] x is = absurd (let none : None ≡ Some x = is in cc)
joined_first f separator (y ∷ ys) x is = ap (λ z. f z ++ flat_map (λ w. separator ++ f w) ys) (sym (get_or_from_slice_get (y ∷ ys) 0 x x is))

module _ {X : Type 0} (f : X → List ℕ) (xs : List X) where
  left_text : (i : ℕ) → flat_map f (drop i xs) ≡ flat_map f (option_to_list (slice_get xs i)) ++ flat_map f (drop (i + 1) xs)
  left_text i =
      let next : suc i ≡ i + 1 = omega arith in
      ap (flat_map f) (left_at xs i ∙ ap (λ n. option_to_list (slice_get xs i) ++ drop n xs) next)
      ∙ flat_map-append f (option_to_list (slice_get xs i)) (drop (i + 1) xs)

  -- the text of the item at the place
  pub text_there : (i : ℕ) (x : X) → slice_get xs i ≡ Some x → f x ≡ flat_map f (option_to_list (slice_get xs i))
  text_there i x is = sym (ap (λ o. flat_map f (option_to_list o)) is ∙ append-nil (f x))

  -- it was fed
  pub place-more : {F T E : Type 0} {fed : F → List ℕ → Type 0} {stops lent : F → ℕ} {first s t : F} {whole : List ℕ} {u : T} (i : ℕ)
      → Completes E fed stops lent first s whole (flat_map f (drop i xs)) → Gives {E = E} fed stops lent s t (flat_map f (option_to_list (slice_get xs i))) (Ok u)
      → Completes E fed stops lent first t whole (flat_map f (drop (i + 1) xs))
  place-more {E = E} {fed = fed} {stops = stops} {lent = lent} {first = first} {s = s} {whole = whole} i c g =
      Completes-more (subst (λ (l : List ℕ). Completes E fed stops lent first s whole l) (left_text i) c) g

  -- it stopped the feed
  pub place-stop : {F T E : Type 0} {fed : F → List ℕ → Type 0} {stops lent : F → ℕ} {first s t : F} {whole : List ℕ} {e : E} {r : Result (Unit {0}) E} (i : ℕ)
      → Completes E fed stops lent first s whole (flat_map f (drop i xs)) → IsErr r → Gives {T = T} fed stops lent s t (flat_map f (option_to_list (slice_get xs i))) (Err e)
      → Gives fed stops lent first t whole r
  place-stop {E = E} {fed = fed} {stops = stops} {lent = lent} {first = first} {s = s} {whole = whole} i c failed g =
      Completes-stop (flat_map f (drop (i + 1) xs)) failed (subst (λ (l : List ℕ). Completes E fed stops lent first s whole l) (left_text i) c) g

  -- all were fed
  pub place-end : {F E : Type 0} {fed : F → List ℕ → Type 0} {stops lent : F → ℕ} {first s : F} {whole : List ℕ} (i : ℕ)
      → Completes E fed stops lent first s whole (flat_map f (drop i xs)) → length xs ≤ i → Gives {T = Unit {0}} {E = E} fed stops lent first s whole (Ok (tt {0}))
  place-end {E = E} {fed = fed} {stops = stops} {lent = lent} {first = first} {s = s} {whole = whole} i c past =
      Completes-end (subst (λ (l : List ℕ). Completes E fed stops lent first s whole l) (ap (flat_map f) (drop_all i xs past)) c)
