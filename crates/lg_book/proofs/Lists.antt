-- Lists: items at places, by ids, and changed at a place.
use Rattle.std.proofs.Common.{◌≡◌, ℕ, zero, suc, ◌+◌, ◌<◌, ◌≤◌, Bool, true, false, cond, List, [], ◌∷◌, ◌++◌, map, length, take, get_or, set, slice_get, OnOk, Result, Ok, Err, Option, Some, None, refl, sym, ap, subst, ◌∙◌, inl, inr, arith}
use Rattle.std.specs.Prelude.{◌⊎◌, nat_eq}
use Rattle.std.specs.Option.{option_map}
use Rattle.std.specs.List.{find}
use Rattle.std.proofs.lemmas.Bool.{eq-eqb}
use Rattle.std.proofs.lemmas.Bool.Decides.{nat_tests}
use Rattle.lg_book.specs.Index.{by_id, changed_at}

pub some_same : {A : Type 0} (x y : A) → ◌≡◌ {A = Option A} (Some x) (Some y) → x ≡ y
some_same x y h = cc

pub on_ok : {T E : Type 0} {P Q : Type 0} (r : Result T E) → (P → Q) → OnOk r P → OnOk r Q
on_ok (Ok x) f h = f h
on_ok (Err e) f h = tt

pub not_some : {A : Type 0} (x : A) → ◌≡◌ {A = Option A} None (Some x) → ⊥
not_some x h = cc

pub slice_get-append : {A : Type 0} (xs ys : List A) (k : ℕ) → k < length xs → slice_get (xs ++ ys) k ≡ slice_get xs k
slice_get-append [] ys k h = absurd (omega arith)
slice_get-append (x ∷ xs) ys zero h = refl
slice_get-append (x ∷ xs) ys (suc k) h = slice_get-append xs ys k (omega arith)

pub slice_get_more : {A : Type 0} (xs ys : List A) (k : ℕ) (x : A) → slice_get xs k ≡ Some x → slice_get (xs ++ ys) k ≡ Some x
slice_get_more [] ys k x h = absurd (not_some x h)
slice_get_more (y ∷ xs) ys zero x h = h
slice_get_more (y ∷ xs) ys (suc k) x h = slice_get_more xs ys k x h

pub slice_get_seam : {A : Type 0} (xs : List A) (y : A) (ys : List A) → slice_get (xs ++ y ∷ ys) (length xs) ≡ Some y
slice_get_seam [] y ys = refl
slice_get_seam (x ∷ xs) y ys = slice_get_seam xs y ys

-- an item of a list with one more is one of the list, or the one
pub snoc_cases : {A : Type 0} (xs : List A) (x y : A) (k : ℕ) → slice_get (xs ++ x ∷ []) k ≡ Some y → (slice_get xs k ≡ Some y) ⊎ ((k ≡ length xs) × (x ≡ y))
snoc_cases [] x y zero h = inr (refl, some_same x y h)
snoc_cases [] x y (suc k) h = absurd (not_some y h)
snoc_cases (z ∷ xs) x y zero h = inl h
snoc_cases (z ∷ xs) x y (suc k) h = elim (snoc_cases xs x y k h) [ inl g ↦ inl g | inr g ↦ inr (ap suc g.0, g.1) ]

pub slice_get-take : {A : Type 0} (n : ℕ) (xs : List A) (k : ℕ) → k < n → slice_get (take n xs) k ≡ slice_get xs k
slice_get-take zero xs k h = absurd (omega arith)
slice_get-take (suc n) [] k h = refl
slice_get-take (suc n) (x ∷ xs) zero h = refl
slice_get-take (suc n) (x ∷ xs) (suc k) h = slice_get-take n xs k (omega arith)

pub slice_get-taken : {A : Type 0} (n : ℕ) (xs : List A) (k : ℕ) (x : A) → slice_get (take n xs) k ≡ Some x → slice_get xs k ≡ Some x
slice_get-taken zero xs k x h = absurd (not_some x h)
slice_get-taken (suc n) [] k x h = h
slice_get-taken (suc n) (y ∷ xs) zero x h = h
slice_get-taken (suc n) (y ∷ xs) (suc k) x h = slice_get-taken n xs k x h

pub take-snoc : {A : Type 0} (k : ℕ) (xs : List A) (x : A) → slice_get xs k ≡ Some x → take (suc k) xs ≡ take k xs ++ x ∷ []
take-snoc k [] x h = absurd (not_some x h)
take-snoc zero (y ∷ xs) x h = ap (λ v. v ∷ []) (some_same y x h)
take-snoc (suc k) (y ∷ xs) x h = ap (λ l. y ∷ l) (take-snoc k xs x h)

pub there_within : {A : Type 0} (k : ℕ) (xs : List A) → k < length xs → (x : A) × (slice_get xs k ≡ Some x)
there_within k [] h = absurd (omega arith)
there_within zero (x ∷ xs) h = (x, refl)
there_within (suc k) (x ∷ xs) h = there_within k xs (omega arith)

pub slice_get_within_length : {A : Type 0} (xs : List A) (k : ℕ) (x : A) → slice_get xs k ≡ Some x → k < length xs
slice_get_within_length [] k x h = absurd (not_some x h)
slice_get_within_length (y ∷ xs) zero x h = omega arith
slice_get_within_length (y ∷ xs) (suc k) x h = let r : k < length xs = slice_get_within_length xs k x h in omega (arith, r)

pub none_past : {A : Type 0} (k : ℕ) (xs : List A) → length xs ≤ k → slice_get xs k ≡ None
none_past k [] h = refl
none_past zero (x ∷ xs) h = absurd (omega arith)
none_past (suc k) (x ∷ xs) h = none_past k xs (omega arith)

-- ---- items that are numbered

module _ {A : Type 0} (number : A → ℕ) where
  abbrev pub IsNumbered : ℕ → List A → Type 0
  IsNumbered k xs = (j : ℕ) (x : A) → slice_get xs j ≡ Some x → number x ≡ suc (k + j)

  abbrev pub has_number : ℕ → A → Bool
  has_number id x = nat_eq (number x) id

  rest_numbered : (k : ℕ) (x : A) (xs : List A) → IsNumbered k (x ∷ xs) → IsNumbered (suc k) xs
  rest_numbered k x xs h j y e = h (suc j) y e ∙ ap suc (let r : k + suc j ≡ suc k + j = omega arith in r)

  different : (m n : ℕ) → (m ≡ n → ⊥) → nat_eq m n ≡ false
  different m n h = grind (arith, nat_tests, h)

  find-at : (k : ℕ) (xs : List A) → IsNumbered k xs → (j : ℕ) → find (has_number (suc (k + j))) xs ≡ slice_get xs j
  find-at k [] h j = refl
  find-at k (x ∷ xs) h zero = ap (λ b. cond b (Some x) (find (has_number (suc (k + zero))) xs)) (eq-eqb (number x) (suc (k + zero)) (h zero x refl))
  find-at k (x ∷ xs) h (suc j) =
      let is : number x ≡ suc (k + zero) = h zero x refl in
      ap (λ b. cond b (Some x) (find (has_number (suc (k + suc j))) xs)) (different (number x) (suc (k + suc j)) (λ e. omega (arith, is, e)))
      ∙ ap (λ n. find (has_number n) xs) (let r : suc (k + suc j) ≡ suc (suc k + j) = omega arith in r)
      ∙ find-at (suc k) xs (rest_numbered k x xs h) j

  find-none : (k : ℕ) (xs : List A) → IsNumbered k xs → find (has_number 0) xs ≡ None
  find-none k [] h = refl
  find-none k (x ∷ xs) h =
      let is : number x ≡ suc (k + zero) = h zero x refl in
      ap (λ b. cond b (Some x) (find (has_number 0) xs)) (different (number x) 0 (λ e. omega (arith, is, e)))
      ∙ find-none (suc k) xs (rest_numbered k x xs h)

  pub find-by_id : (xs : List A) → ((j : ℕ) (x : A) → slice_get xs j ≡ Some x → number x ≡ suc j) → (id : ℕ) → find (has_number id) xs ≡ by_id xs id
  find-by_id xs h zero = find-none 0 xs (λ j x e. h j x e ∙ ap suc (let r : j ≡ 0 + j = omega arith in r))
  find-by_id xs h (suc j) =
      ap (λ n. find (has_number (suc n)) xs) (let r : j ≡ 0 + j = omega arith in r)
      ∙ find-at 0 xs (λ i x e. h i x e ∙ ap suc (let r : i ≡ 0 + i = omega arith in r)) j

-- ---- items changed at a place

module _ {A : Type 0} (change : A → A) where
  pub changed_same : (k : ℕ) (xs : List A) → slice_get (changed_at change k xs) k ≡ option_map change (slice_get xs k)
  changed_same k [] = refl
  changed_same zero (x ∷ xs) = refl
  changed_same (suc k) (x ∷ xs) = changed_same k xs

  pub changed_other : (k : ℕ) (xs : List A) (j : ℕ) → (j ≡ k → ⊥) → slice_get (changed_at change k xs) j ≡ slice_get xs j
  changed_other k [] j h = refl
  changed_other zero (x ∷ xs) zero h = absurd (h refl)
  changed_other zero (x ∷ xs) (suc j) h = refl
  changed_other (suc k) (x ∷ xs) zero h = refl
  changed_other (suc k) (x ∷ xs) (suc j) h = changed_other k xs j (λ e. h (ap suc e))

  pub set-changed : (k : ℕ) (xs : List A) (x : A) → k < length xs → x ≡ get_or xs k x → set xs k (change x) ≡ changed_at change k xs
  set-changed k [] x h e = absurd (omega arith)
  set-changed zero (y ∷ xs) x h e = ap (λ v. change v ∷ xs) e
  set-changed (suc k) (y ∷ xs) x h e = ap (λ l. y ∷ l) (set-changed k xs x (omega arith) e)

  pub length-changed : (k : ℕ) (xs : List A) → length (changed_at change k xs) ≡ length xs
  length-changed k [] = refl
  length-changed zero (x ∷ xs) = refl
  length-changed (suc k) (x ∷ xs) = ap suc (length-changed k xs)

  pub past-changed : (k : ℕ) (xs : List A) → length xs ≤ k → xs ≡ changed_at change k xs
  past-changed k [] h = refl
  past-changed zero (x ∷ xs) h = absurd (omega arith)
  past-changed (suc k) (x ∷ xs) h = ap (λ l. x ∷ l) (past-changed k xs (omega arith))

  pub map-changed : {B : Type 0} (f : A → B) → ((x : A) → f (change x) ≡ f x) → (k : ℕ) (xs : List A) → map f (changed_at change k xs) ≡ map f xs
  map-changed f same k [] = refl
  map-changed f same zero (x ∷ xs) = ap (λ v. v ∷ map f xs) (same x)
  map-changed f same (suc k) (x ∷ xs) = ap (λ l. f x ∷ l) (map-changed f same k xs)

  -- an item of the changed list is an item of the list, changed or not
  pub changed_cases : (k : ℕ) (xs : List A) (j : ℕ) (y : A) → slice_get (changed_at change k xs) j ≡ Some y → (x : A) × (slice_get xs j ≡ Some x) × (((j ≡ k) × (y ≡ change x)) ⊎ ((j ≡ k → ⊥) × (y ≡ x)))
  changed_cases k [] j y h = absurd (not_some y h)
  changed_cases zero (x ∷ xs) zero y h = (x, refl, inl (refl, sym (some_same _ _ h)))
  changed_cases zero (x ∷ xs) (suc j) y h = (y, h, inr ((λ e. omega (arith, e)), refl))
  changed_cases (suc k) (x ∷ xs) zero y h = (x, refl, inr ((λ e. omega (arith, e)), sym (some_same _ _ h)))
  changed_cases (suc k) (x ∷ xs) (suc j) y h =
      let r = changed_cases k xs j y h in
      (r.0, r.1, elim r.2 [ inl g ↦ inl (ap suc g.0, g.1) | inr g ↦ inr ((λ e. g.0 (let f : j ≡ k = omega (arith, e) in f)), g.1) ])
