-- Sums of a number of each item.
use Rattle.std.proofs.Common.{◌≡◌, ℕ, zero, suc, ◌+◌, ◌≤◌, ◌≢◌, List, [], ◌∷◌, ◌++◌, set, refl, sym, ap, arith}
use mathlib.Core.Option.{some, some-injective, some-ne-none}
use lib.ListN.{get_elem?}
use Rattle.lg_turns.specs.Rules.{total}

module _ {A : Type 0} (f : A → ℕ) where
  pub total_set : (xs : List A) (i : ℕ) (a b : A) → get_elem? xs i ≡ some a → total f (set xs i b) + f a ≡ total f xs + f b
  total_set [] i a b e = absurd (some-ne-none a (sym e))
  total_set (x ∷ xs) zero a b e = let same : f x ≡ f a = ap f (some-injective x a e) in omega arith
  total_set (x ∷ xs) (suc i) a b e = let rest : total f (set xs i b) + f a ≡ total f xs + f b = total_set xs i a b e in omega arith

  pub total_snoc : (xs : List A) (a : A) → total f (xs ++ a ∷ []) ≡ total f xs + f a
  total_snoc [] a = omega arith
  total_snoc (x ∷ xs) a = let rest : total f (xs ++ a ∷ []) ≡ total f xs + f a = total_snoc xs a in omega arith

  pub total_one : (xs : List A) (i : ℕ) (a : A) → get_elem? xs i ≡ some a → f a ≤ total f xs
  total_one [] i a e = absurd (some-ne-none a (sym e))
  total_one (x ∷ xs) zero a e = let same : f x ≡ f a = ap f (some-injective x a e) in omega arith
  total_one (x ∷ xs) (suc i) a e = let rest : f a ≤ total f xs = total_one xs i a e in omega arith

  pub total_two : (xs : List A) (i j : ℕ) (a b : A) → get_elem? xs i ≡ some a → get_elem? xs j ≡ some b → j ≢ i → f a + f b ≤ total f xs
  total_two [] i j a b e h n = absurd (some-ne-none a (sym e))
  total_two (x ∷ xs) zero zero a b e h n = absurd (n refl)
  total_two (x ∷ xs) zero (suc j) a b e h n = let same : f x ≡ f a = ap f (some-injective x a e) in let rest : f b ≤ total f xs = total_one xs j b h in omega arith
  total_two (x ∷ xs) (suc i) zero a b e h n = let same : f x ≡ f b = ap f (some-injective x b h) in let rest : f a ≤ total f xs = total_one xs i a e in omega arith
  total_two (x ∷ xs) (suc i) (suc j) a b e h n = let rest : f a + f b ≤ total f xs = total_two xs i j a b e h (λ q. n (ap suc q)) in omega arith

module _ {A : Type 0} (f g : A → ℕ) where
  -- where an item without the first number has no second one
  pub total_none : (xs : List A) → ((i : ℕ) (a : A) → get_elem? xs i ≡ some a → f a ≡ 0 → g a ≡ 0) → total f xs ≡ 0 → total g xs ≡ 0
  total_none [] idle none = refl
  total_none (x ∷ xs) idle none =
      let here : g x ≡ 0 = idle zero x refl (omega arith) in
      let rest : total g xs ≡ 0 = total_none xs (λ i a. idle (suc i) a) (omega arith) in
      omega arith

  pub total_all : (xs : List A) → ((i : ℕ) (a : A) → get_elem? xs i ≡ some a → f a ≡ 0 → g a ≡ 0) → (i : ℕ) (a : A) → get_elem? xs i ≡ some a → f a ≡ total f xs → total g xs ≡ g a
  total_all [] idle i a e all = absurd (some-ne-none a (sym e))
  total_all (x ∷ xs) idle zero a e all =
      let same : f x ≡ f a = ap f (some-injective x a e) in
      let same' : g x ≡ g a = ap g (some-injective x a e) in
      let rest : total g xs ≡ 0 = total_none xs (λ i a. idle (suc i) a) (omega arith) in
      omega arith
  total_all (x ∷ xs) idle (suc i) a e all =
      let le : f a ≤ total f xs = total_one f xs i a e in
      let here : g x ≡ 0 = idle zero x refl (omega arith) in
      let rest : total g xs ≡ g a = total_all xs (λ i a. idle (suc i) a) i a e (omega arith) in
      omega arith
