-- What is known of each held place of a row, as one place is taken out and put back.
use Rattle.std.specs.Prelude.{is_some, slice_get, option_map}
use Rattle.std.proofs.Common.{◌≡◌, ℕ, zero, suc, ◌<◌, ◌≤◌, ◌≢◌, List, [], ◌∷◌, Option, Some, None, length, get_or, set, refl, sym, ap, subst, ◌∙◌, arith}
use mathlib.Core.Logic.{dite}
use native.Mathlib.Decide.{ℕ_discrete}
use Rattle.lg_turns.specs.Rows.{mapped, AllHeld, SameHeld}

some_some : {A : Type 0} (a b : A) → Some a ≡ Some b → a ≡ b
some_some a b e = cc

module _ {A : Type 0} where
  held_else : (xs : List (Option A)) (i k : ℕ) (x : Option A) → k ≢ i → slice_get (set xs i x) k ≡ slice_get xs k
  held_else [] i k x n = refl
  held_else (y ∷ xs) zero zero x n = absurd (n refl)
  held_else (y ∷ xs) zero (suc k) x n = refl
  held_else (y ∷ xs) (suc i) zero x n = refl
  held_else (y ∷ xs) (suc i) (suc k) x n = held_else xs i k x (λ e. n (ap suc e))

  held_here : (xs : List (Option A)) (i : ℕ) (x y : Option A) → slice_get (set xs i x) i ≡ Some y → x ≡ y
  held_here [] i x y e = absurd (let q : None ≡ Some y = e in cc)
  held_here (z ∷ xs) zero x y e = some_some x y e
  held_here (z ∷ xs) (suc i) x y e = held_here xs i x y e

  -- the place was empty, or is emptied
  pub held-none : (xs : List (Option A)) (i : ℕ) (F G : ℕ → A → Type 0) → AllHeld xs F → ((k : ℕ) (a : A) → k ≢ i → F k a → G k a) → AllHeld (set xs i None) G
  held-none xs i F G h step k a e = dite (ℕ_discrete k i)
      (λ same. absurd (let q : None ≡ Some a = held_here xs i None (Some a) (subst (λ j. slice_get (set xs i None) j ≡ Some (Some a)) same e) in cc))
      (λ other. step k a other (h k a (sym (held_else xs i k None other) ∙ e)))

  -- the place is filled anew
  pub held-put : (xs : List (Option A)) (i : ℕ) (a : A) (F G : ℕ → A → Type 0) → AllHeld xs F → ((k : ℕ) (b : A) → k ≢ i → F k b → G k b) → G i a → AllHeld (set (set xs i None) i (Some a)) G
  held-put xs i a F G h step here k b e = dite (ℕ_discrete k i)
      (λ same. let q : Some a ≡ Some b = held_here (set xs i None) i (Some a) (Some b) (subst (λ j. slice_get (set (set xs i None) i (Some a)) j ≡ Some (Some b)) same e) in subst (λ j. G j b) (sym same) (subst (λ x. G i x) (some_some a b q) here))
      (λ other. step k b other (h k b (sym (held_else xs i k None other) ∙ (sym (held_else (set xs i None) i k (Some a) other) ∙ e))))

  pub within : (xs : List (Option A)) (k : ℕ) (a : A) → slice_get xs k ≡ Some (Some a) → k < length xs
  within [] k a e = absurd (let q : None ≡ Some (Some a) = e in cc)
  within (x ∷ xs) zero a e = omega arith
  within (x ∷ xs) (suc k) a e = let lt : k < length xs = within xs k a e in omega arith

  pub held-within : (xs : List (Option A)) (F : ℕ → A → Type 0) → AllHeld xs F → AllHeld xs (λ k a. (k < length xs) × F k a)
  held-within xs F h k a e = (within xs k a e, h k a e)

  pub held-more : (xs : List (Option A)) (F G : ℕ → A → Type 0) → AllHeld xs F → ((k : ℕ) (a : A) → k < length xs → F k a → G k a) → AllHeld xs G
  held-more xs F G h step k a e = step k a (within xs k a e) (h k a e)

  pub same-none : (xs : List (Option A)) (i : ℕ) → slice_get xs i ≡ Some None → SameHeld (set xs i None) xs
  same-none [] i e k = refl
  same-none (x ∷ xs) zero e zero = ap is_some (sym (some_some x None e))
  same-none (x ∷ xs) zero e (suc k) = refl
  same-none (x ∷ xs) (suc i) e zero = refl
  same-none (x ∷ xs) (suc i) e (suc k) = same-none xs i e k

  pub same-put : (xs : List (Option A)) (i : ℕ) (a b : A) → slice_get xs i ≡ Some (Some a) → SameHeld (set (set xs i None) i (Some b)) xs
  same-put [] i a b e k = refl
  same-put (x ∷ xs) zero a b e zero = ap is_some (sym (some_some x (Some a) e))
  same-put (x ∷ xs) zero a b e (suc k) = refl
  same-put (x ∷ xs) (suc i) a b e zero = refl
  same-put (x ∷ xs) (suc i) a b e (suc k) = same-put xs i a b e k

module _ {A B : Type 0} where
  pub same-mapped : (xs : List (Option A)) (f : A → B) → SameHeld (mapped xs f) xs
  same-mapped [] f k = refl
  same-mapped (None ∷ xs) f zero = refl
  same-mapped (Some a ∷ xs) f zero = refl
  same-mapped (x ∷ xs) f (suc k) = same-mapped xs f k

  -- the same places of two rows hold what a function makes of it
  pub same-both : (xs ys : List (Option A)) (f : A → B) → SameHeld xs ys → SameHeld (mapped xs f) (mapped ys f)
  same-both xs ys f h k = same-mapped xs f k ∙ h k ∙ sym (same-mapped ys f k)

  pub all-mapped : (xs : List (Option A)) (f : A → B) (F : ℕ → A → Type 0) (G : ℕ → B → Type 0) → AllHeld xs F → ((k : ℕ) (a : A) → F k a → G k (f a)) → AllHeld (mapped xs f) G
  all-mapped [] f F G h step k b e = absurd (let q : None ≡ Some (Some b) = e in cc)
  all-mapped (None ∷ xs) f F G h step zero b e = absurd (let q : Some None ≡ Some (Some b) = e in cc)
  all-mapped (Some a ∷ xs) f F G h step zero b e = subst (λ x. G zero x) (let q : Some (Some (f a)) ≡ Some (Some b) = e in cc) (step zero a (h zero a refl))
  all-mapped (x ∷ xs) f F G h step (suc k) b e = all-mapped xs f (λ k. F (suc k)) (λ k. G (suc k)) (λ k. h (suc k)) (λ k. step (suc k)) k b e

  get-mapped : (xs : List (Option A)) (f : A → B) (k : ℕ) (a : A) → slice_get xs k ≡ Some (Some a) → slice_get (mapped xs f) k ≡ Some (Some (f a))
  get-mapped [] f k a e = absurd (let q : None ≡ Some (Some a) = e in cc)
  get-mapped (x ∷ xs) f zero a e = ap Some (ap (option_map f) (some_some x (Some a) e))
  get-mapped (x ∷ xs) f (suc k) a e = get-mapped xs f k a e

  pub all-of_mapped : (xs : List (Option A)) (f : A → B) (G : ℕ → B → Type 0) → AllHeld (mapped xs f) G → AllHeld xs (λ k a. G k (f a))
  all-of_mapped xs f G h k a e = h k (f a) (get-mapped xs f k a e)

  pub mapped-none : (xs : List (Option A)) (f : A → B) (i : ℕ) → slice_get xs i ≡ Some None → mapped (set xs i None) f ≡ mapped xs f
  mapped-none [] f i e = refl
  mapped-none (x ∷ xs) f zero e = ap (λ y. y ∷ mapped xs f) (sym (ap (option_map f) (some_some x None e)))
  mapped-none (x ∷ xs) f (suc i) e = ap (λ ys. option_map f x ∷ ys) (mapped-none xs f i e)

  -- the place is filled with what is the same to the function
  pub mapped-put : (xs : List (Option A)) (f : A → B) (i : ℕ) (a b : A) → slice_get xs i ≡ Some (Some a) → f b ≡ f a → mapped (set (set xs i None) i (Some b)) f ≡ mapped xs f
  mapped-put [] f i a b e q = refl
  mapped-put (x ∷ xs) f zero a b e q = ap (λ y. y ∷ mapped xs f) (ap Some q ∙ sym (ap (option_map f) (some_some x (Some a) e)))
  mapped-put (x ∷ xs) f (suc i) a b e q = ap (λ ys. option_map f x ∷ ys) (mapped-put xs f i a b e q)

  pub mapped-get : (xs : List (Option A)) (f : A → B) (k : ℕ) (x : Option A) → slice_get xs k ≡ Some x → get_or (mapped xs f) k None ≡ option_map f x
  mapped-get [] f k x e = absurd (let q : None ≡ Some x = e in cc)
  mapped-get (y ∷ xs) f zero x e = ap (option_map f) (some_some y x e)
  mapped-get (y ∷ xs) f (suc k) x e = mapped-get xs f k x e

  pub mapped-past : (xs : List (Option A)) (f : A → B) (k : ℕ) → length xs ≤ k → get_or (mapped xs f) k None ≡ None
  mapped-past [] f k le = refl
  mapped-past (y ∷ xs) f zero le = absurd (omega arith)
  mapped-past (y ∷ xs) f (suc k) le = mapped-past xs f k (omega arith)
