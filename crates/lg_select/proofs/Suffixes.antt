-- Walking through a list in the order of its places.
use Rattle.std.proofs.Common.{◌≡◌, ◌<◌, Bool, true, false, cond, List, [], ◌∷◌, ◌++◌, length, Option, Some, None, refl, sym, ap, subst, ◌∙◌, append_assoc, arith}
use Rattle.std.specs.List.{filter}
use Rattle.lg_types.specs.declared.filters.After.{After}
use Rattle.lg_types.specs.Lists.{Each, Pairs}
use Rattle.lg_views.specs.PageLaws.{IsLater, IsInOrder}
use Rattle.lg_views.specs.Pages.{after_place}
use Rattle.lg_views.proofs.Walks.{cut_here}
use Rattle.lg_select.specs.Listing.{first_of, IsSuffix, from_item, IsTransitive}

module _ {A : Type 0} (is_after : After → A → Bool) (place : A → After) (whole : List A) (order : IsInOrder is_after place whole) where
  -- from the first item of a suffix on stands the suffix
  pub from_first : (rest : List A) → IsSuffix whole rest → from_item is_after place whole (first_of rest) ≡ rest
  from_first [] s = refl
  from_first (x ∷ xs) s = ap (λ l. x ∷ l) (cut_here is_after place whole s.0 xs x order s.1)

  -- behind an item stands the rest of what stands from it on
  pub behind : (x : A) (rest : List A) → IsSuffix whole (x ∷ rest) → IsSuffix whole rest
  behind x rest s = (s.0 ++ x ∷ [], s.1 ∙ sym (append_assoc s.0 (x ∷ []) rest))

  -- what stands from the next item on is what stands after an item's place
  pub from_next : (x : A) → IsSuffix whole (from_item is_after place whole (Some x)) → from_item is_after place whole (first_of (filter (is_after (place x)) whole)) ≡ filter (is_after (place x)) whole
  from_next x s = from_first (filter (is_after (place x)) whole) (behind x (filter (is_after (place x)) whole) s)

  pub next_suffix : (x : A) → IsSuffix whole (from_item is_after place whole (Some x)) → IsSuffix whole (from_item is_after place whole (first_of (filter (is_after (place x)) whole)))
  next_suffix x s = subst (IsSuffix whole) (sym (from_next x s)) (behind x (filter (is_after (place x)) whole) s)

  -- the walk comes to an end
  pub nearer : (x : A) → IsSuffix whole (from_item is_after place whole (Some x)) → length (from_item is_after place whole (first_of (filter (is_after (place x)) whole))) < length (from_item is_after place whole (Some x))
  nearer x s = let e = ap length (from_next x s) in omega (arith, e)

  -- an item that doesn't pass is skipped
  pub skipped : (passes : A → Bool) (x : A) → passes x ≡ false → IsSuffix whole (from_item is_after place whole (Some x)) → filter passes (from_item is_after place whole (first_of (filter (is_after (place x)) whole))) ≡ filter passes (from_item is_after place whole (Some x))
  skipped passes x h s =
      ap (filter passes) (from_next x s)
      ∙ sym (ap (λ b. cond b (x ∷ filter passes (filter (is_after (place x)) whole)) (filter passes (filter (is_after (place x)) whole))) h)

module _ {A : Type 0} (is_after : After → A → Bool) (place : A → After) (steps : IsTransitive is_after place) where
  later-all : (p : After) (x : A) (xs : List A) → is_after p x ≡ true → Each (IsLater is_after place x) xs → filter (is_after p) xs ≡ xs
  later-all p x [] h k = refl
  later-all p x (y ∷ ys) h k = ap (λ b. cond b (y ∷ filter (is_after p) ys) (filter (is_after p) ys)) (steps p x y h k.0.0) ∙ ap (λ l. y ∷ l) (later-all p x ys h k.1)

  -- what stands after a place is a suffix
  pub after_suffix : (p : After) (xs : List A) → Pairs (IsLater is_after place) xs → IsSuffix xs (filter (is_after p) xs)
  after_suffix p [] h = ([], refl)
  after_suffix p (x ∷ xs) h = by_test (is_after p x) refl (after_suffix p xs h.1)
    where
      by_test : (b : Bool) → is_after p x ≡ b → IsSuffix xs (filter (is_after p) xs) → IsSuffix (x ∷ xs) (cond b (x ∷ filter (is_after p) xs) (filter (is_after p) xs))
      by_test true t s = ([], ap (λ l. x ∷ l) (sym (later-all p x xs t h.0)))
      by_test false t s = (x ∷ s.0, ap (λ l. x ∷ l) s.1)

  pub place_suffix : (p : Option After) (xs : List A) → Pairs (IsLater is_after place) xs → IsSuffix xs (after_place is_after p xs)
  place_suffix None xs h = ([], refl)
  place_suffix (Some p) xs h = after_suffix p xs h

-- tests in turn are tests in any turn
pub filters_turned : {A : Type 0} (p q : A → Bool) (xs : List A) → filter p (filter q xs) ≡ filter q (filter p xs)
filters_turned p q [] = refl
filters_turned p q (x ∷ xs) = by_tests (p x) (q x) refl refl (filters_turned p q xs)
  where
    by_tests : (a b : Bool) → p x ≡ a → q x ≡ b → filter p (filter q xs) ≡ filter q (filter p xs) → filter p (cond b (x ∷ filter q xs) (filter q xs)) ≡ filter q (cond a (x ∷ filter p xs) (filter p xs))
    by_tests true true h k e =
        ap (λ b. cond b (x ∷ filter p (filter q xs)) (filter p (filter q xs))) h
        ∙ ap (λ l. x ∷ l) e
        ∙ sym (ap (λ b. cond b (x ∷ filter q (filter p xs)) (filter q (filter p xs))) k)
    by_tests true false h k e = e ∙ sym (ap (λ b. cond b (x ∷ filter q (filter p xs)) (filter q (filter p xs))) k)
    by_tests false true h k e = ap (λ b. cond b (x ∷ filter p (filter q xs)) (filter p (filter q xs))) h ∙ e
    by_tests false false h k e = e

-- what is left for a query is what passes of all that stands after its place
pub left_turned : {A : Type 0} (is_after : After → A → Bool) (passes : A → Bool) (after : Option After) (xs : List A) → after_place is_after after (filter passes xs) ≡ filter passes (after_place is_after after xs)
left_turned is_after passes None xs = refl
left_turned is_after passes (Some p) xs = filters_turned (is_after p) passes xs
