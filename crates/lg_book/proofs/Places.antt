-- Where items stand from which others are made.
use Rattle.std.proofs.Common.{◌≡◌, ℕ, zero, suc, ◌+◌, ◌<◌, ◌≤◌, List, [], ◌∷◌, ◌++◌, map, length, take, drop, slice_get, Option, Some, None, refl, sym, ap, subst, ◌∙◌, append_assoc, arith}
use Rattle.std.specs.Option.{option_map}
use Rattle.std.specs.List.{flat_map}
use Rattle.std.proofs.lemmas.List.{length-append, length-map, append-nil, take-append-drop}
use Rattle.std.proofs.lemmas.Grind.{flat_map-append}
use Rattle.lg_book.specs.Index.{by_id, places_of}
use Rattle.lg_book.proofs.Lists.{some_same, not_some, slice_get-append, slice_get-take, slice_get-taken, there_within, none_past}

module _ {A B : Type 0} (f : A → List B) where
  pub places-append : (k : ℕ) (xs ys : List A) → places_of f k (xs ++ ys) ≡ places_of f k xs ++ places_of f (k + length xs) ys
  places-append k [] ys = ap (λ n. places_of f n ys) (let e : k ≡ k + length {A = A} [] = omega arith in e)
  places-append k (x ∷ xs) ys =
      ap (λ l. map (λ _. k) (f x) ++ l) (places-append (suc k) xs ys)
      ∙ ap (λ n. map (λ _. k) (f x) ++ (places_of f (suc k) xs ++ places_of f n ys)) (let e : suc k + length xs ≡ k + length (x ∷ xs) = omega arith in e)
      ∙ sym (append_assoc (map (λ _. k) (f x)) (places_of f (suc k) xs) (places_of f (k + length (x ∷ xs)) ys))

  pub places-snoc : (xs : List A) (x : A) → places_of f 0 (xs ++ x ∷ []) ≡ places_of f 0 xs ++ map (λ _. length xs) (f x)
  places-snoc xs x =
      places-append 0 xs (x ∷ [])
      ∙ ap (λ l. places_of f 0 xs ++ l) (append-nil (map (λ _. 0 + length xs) (f x)))
      ∙ ap (λ n. places_of f 0 xs ++ map (λ _. n) (f x)) (let e : 0 + length xs ≡ length xs = omega arith in e)

  pub length-places : (k : ℕ) (xs : List A) → length (places_of f k xs) ≡ length (flat_map f xs)
  length-places k [] = refl
  length-places k (x ∷ xs) =
      length-append (map (λ _. k) (f x)) (places_of f (suc k) xs)
      ∙ ap (λ n. n + length (places_of f (suc k) xs)) (length-map (f x) (λ _. k))
      ∙ ap (λ n. length (f x) + n) (length-places (suc k) xs)
      ∙ sym (length-append (f x) (flat_map f xs))

  -- the item from which the i-th is made, and its place
  pub record Found (k : ℕ) (xs : List A) (i : ℕ) (y : B) : Type 0 where
    pub place : ℕ
    pub item : A
    pub at : slice_get (places_of f k xs) i ≡ Some (k + place)
    pub is : slice_get xs place ≡ Some item
    pub makes : f item ≡ y ∷ []

  further : (k : ℕ) (x : A) (xs : List A) (i j : ℕ) (y : B) → slice_get (places_of f k (x ∷ xs)) i ≡ slice_get (places_of f (suc k) xs) j → Found (suc k) xs j y → Found k (x ∷ xs) i y
  further k x xs i j y same r = record {
    place = suc r.place;
    item = r.item;
    at = same ∙ r.at ∙ ap Some (let e : suc k + r.place ≡ k + suc r.place = omega arith in e);
    is = r.is;
    makes = r.makes;
  }

  found_first : (k : ℕ) (x : A) (xs : List A) (i : ℕ) (y : B) (zs : List B) → length zs ≤ 1 → f x ≡ zs → ((j : ℕ) → slice_get (flat_map f xs) j ≡ Some y → Found (suc k) xs j y) → slice_get (zs ++ flat_map f xs) i ≡ Some y → Found k (x ∷ xs) i y
  found_first k x xs i y [] le e rest h = further k x xs i i y (ap (λ l. slice_get (map (λ _. k) l ++ places_of f (suc k) xs) i) e) (rest i h)
  found_first k x xs zero y (z ∷ []) le e rest h = record {
    place = zero;
    item = x;
    at = ap (λ l. slice_get (map (λ _. k) l ++ places_of f (suc k) xs) zero) e ∙ ap Some (let r : k ≡ k + zero = omega arith in r);
    is = refl;
    makes = e ∙ ap (λ v. v ∷ []) (some_same z y h);
  }
  found_first k x xs (suc i) y (z ∷ []) le e rest h = further k x xs (suc i) i y (ap (λ l. slice_get (map (λ _. k) l ++ places_of f (suc k) xs) (suc i)) e) (rest i h)
  found_first k x xs i y (z ∷ w ∷ zs) le e rest h = absurd (omega arith)

  module _ (one : (x : A) → length (f x) ≤ 1) where
    pub found : (k : ℕ) (xs : List A) (i : ℕ) (y : B) → slice_get (flat_map f xs) i ≡ Some y → Found k xs i y
    found k [] i y h = absurd (not_some y h)
    found k (x ∷ xs) i y h = found_first k x xs i y (f x) (one x) refl (λ j e. found (suc k) xs j y e) h
