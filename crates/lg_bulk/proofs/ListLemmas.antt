-- Items of lists.
use Rattle.std.proofs.Common.{◌≡◌, ℕ, zero, suc, ◌-◌, ◌<◌, ◌≤◌, Bool, true, false, cond, ◌||◌, List, [], ◌∷◌, ◌++◌, length, slice_get, Option, Some, None, refl, sym, ap, inl, inr, ◌∙◌, arith}
use Rattle.std.specs.Prelude.{◌⊎◌}
use Rattle.std.specs.List.{find, list_any}

none_some : {A : Type 0} (x : A) → ◌≡◌ {A = Option A} None (Some x) → ⊥
none_some x h = cc

some_same : {A : Type 0} (x y : A) → ◌≡◌ {A = Option A} (Some x) (Some y) → x ≡ y
some_same x y h = cc

-- an item of a list with one more is one of the list, or the one
pub snoc_cases : {A : Type 0} (xs : List A) (x y : A) (k : ℕ) → slice_get (xs ++ x ∷ []) k ≡ Some y → (slice_get xs k ≡ Some y) ⊎ ((k ≡ length xs) × (x ≡ y))
snoc_cases [] x y zero h = inr (refl, some_same x y h)
snoc_cases [] x y (suc k) h = absurd (none_some y h)
snoc_cases (z ∷ xs) x y zero h = inl h
snoc_cases (z ∷ xs) x y (suc k) h = elim (snoc_cases xs x y k h) [ inl g ↦ inl g | inr g ↦ inr (ap suc g.0, g.1) ]

-- an item of two lists, one after the other, is one of the first or one of the second
pub append_cases : {A : Type 0} (xs ys : List A) (x : A) (k : ℕ) → slice_get (xs ++ ys) k ≡ Some x → ((k < length xs) × (slice_get xs k ≡ Some x)) ⊎ ((length xs ≤ k) × (slice_get ys (k - length xs) ≡ Some x))
append_cases [] ys x k h = inr (omega arith, ap (λ n. slice_get ys n) (let e : k - 0 ≡ k = omega arith in e) ∙ h)
append_cases (z ∷ xs) ys x zero h = inl (omega arith, h)
append_cases (z ∷ xs) ys x (suc k) h = elim (append_cases xs ys x k h) [
  | inl g ↦ (let less : k < length xs = g.0 in inl (omega (arith, less), g.1))
  | inr g ↦ (let most : length xs ≤ k = g.0 in inr (omega (arith, most), ap (λ n. slice_get ys n) (let e : suc k - suc (length xs) ≡ k - length xs = omega arith in e) ∙ g.1))
]

-- what is found passes the test
pub find_passes : {A : Type 0} (p : A → Bool) (xs : List A) (y : A) → find p xs ≡ Some y → p y ≡ true
find_passes p [] y h = absurd (none_some y h)
find_passes p (x ∷ xs) y h = by_test (p x) refl h (find_passes p xs y)
  where
    by_test : (b : Bool) → p x ≡ b → cond b (Some x) (find p xs) ≡ Some y → (find p xs ≡ Some y → p y ≡ true) → p y ≡ true
    by_test true is found rest = ap p (some_same y x (sym found)) ∙ is
    by_test false is found rest = rest found

-- where some item passes a test, a fact that each such item gives holds
pub any_gives : {A : Type 0} (p : A → Bool) (Q : Type 0) (xs : List A) → ((x : A) → p x ≡ true → Q) → list_any p xs ≡ true → Q
any_gives p Q [] h any = absurd (let f : false ≡ true = any in cc)
any_gives p Q (x ∷ xs) h any = by_test (p x) refl any (any_gives p Q xs h)
  where
    by_test : (b : Bool) → p x ≡ b → (b || list_any p xs) ≡ true → (list_any p xs ≡ true → Q) → Q
    by_test true is either rest = h x is
    by_test false is either rest = rest either
