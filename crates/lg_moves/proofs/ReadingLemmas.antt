-- Readings of a tree: what the first and the last move of a block say of the moves before and after it.
use Rattle.std.proofs.Common.{◌≡◌, ℕ, ◌+◌, ◌-◌, ◌<◌, true, false, List, [], ◌∷◌, ◌++◌, length, get_or, refl, arith, sym, subst, inl, inr, ◌∙◌}
use Rattle.std.specs.List.{sum_by}
use Rattle.std.proofs.lemmas.Bool.{false≢true}
use Rattle.std.proofs.lemmas.List.{get_or_default}
use Rattle.std.proofs.lemmas.List.Sums.{sum_by-append, sum_by-cons}
use Rattle.lg_runs.specs.Runs.{Kept}
use Rattle.lg_types.specs.declared.moves.Move.{Move}
use Rattle.lg_moves.specs.declared.sums.Sums.{Sums}
use Rattle.lg_moves.specs.declared.bounds.Bound.{Bound}
use Rattle.lg_types.specs.Tally.{if_passing}
use Rattle.lg_moves.specs.Bounds.{is_by_rank, passes}
use Rattle.lg_moves.specs.Sums.{AreSums}
use Rattle.lg_moves.specs.Ranks.{IsUpToMove, Each, IsRising}
use Rattle.lg_moves.specs.Seen.{Grown}
use Rattle.lg_moves.specs.Tree.{whole, AreInOrder}
use Rattle.lg_moves.proofs.SumLemmas.{true_or_false, same_total, FitTogether, fit_together, sum_passing_le}
use Rattle.lg_moves.proofs.RankLemmas.{same_move, rising_left, rising_right, each_before, each_last, each_until, each_after_last}

-- moves that aren't before one that fails, fail
each_fails : (b : Bound) (m : Move) (part : Move → ℕ) (xs : List Move) → is_by_rank b ≡ true → passes b m ≡ false → Each (IsUpToMove m) xs → sum_by (if_passing (passes b) part) xs ≡ 0
each_fails b m part [] r f a = refl
each_fails b m part (x ∷ xs) r f a =
    let no : passes b x ≡ false = elim (true_or_false (passes b x)) [ inl t ↦ absurd (false≢true (sym f ∙ a.0.on b r t)) | inr e ↦ e ] in
    let z : if_passing (passes b) part x ≡ 0 = rw no refl in
    omega (arith, sum_by-cons (if_passing (passes b) part) x xs, z, each_fails b m part xs r f a.1)

-- moves that aren't after one that passes, pass
each_passes : (b : Bound) (m : Move) (part : Move → ℕ) (xs : List Move) → is_by_rank b ≡ true → passes b m ≡ true → Each (λ x. IsUpToMove x m) xs → sum_by (if_passing (passes b) part) xs ≡ sum_by part xs
each_passes b m part [] r p a = refl
each_passes b m part (x ∷ xs) r p a =
    let yes : passes b x ≡ true = a.0.on b r p in
    let z : if_passing (passes b) part x ≡ part x = rw yes refl in
    omega (arith, sum_by-cons (if_passing (passes b) part) x xs, sum_by-cons part x xs, z, each_passes b m part xs r p a.1)

-- the first move of a block fails: its left side decides
far_sum : (b : Bound) (part : Move → ℕ) (l bs r : List Move) → is_by_rank b ≡ true → IsRising (l ++ (bs ++ r)) → 0 < length bs → ((d : Move) → passes b (get_or bs 0 d) ≡ false) →
    sum_by (if_passing (passes b) part) (l ++ (bs ++ r)) ≡ sum_by (if_passing (passes b) part) l
far_sum b part l [] r k rise some h = absurd (omega arith)
far_sum b part l (x ∷ bs) r k rise some h =
    let s = rising_right l ((x ∷ bs) ++ r) rise in
    omega (arith, sum_by-append (if_passing (passes b) part) l ((x ∷ bs) ++ r), each_fails b x part ((x ∷ bs) ++ r) k (h x) (same_move x, s.0))

-- the last move of a block passes: its right side decides
near_sum : (b : Bound) (part : Move → ℕ) (l bs r : List Move) → is_by_rank b ≡ true → IsRising (l ++ (bs ++ r)) → 0 < length bs → ((d : Move) → passes b (get_or bs (length bs - 1) d) ≡ true) →
    sum_by (if_passing (passes b) part) (l ++ (bs ++ r)) ≡ sum_by part l + (sum_by part bs + sum_by (if_passing (passes b) part) r)
near_sum b part l [] r k rise some h = absurd (omega arith)
near_sum b part l (x ∷ bs) r k rise some h =
    let m = get_or (x ∷ bs) (length (x ∷ bs) - 1) x in
    let s = rising_left (x ∷ bs) r (rising_right l ((x ∷ bs) ++ r) rise) in
    let a = each_last m (x ∷ bs) s some (λ d. subst (λ (z : Move). IsUpToMove z m) (get_or_default (x ∷ bs) (length (x ∷ bs) - 1) x d (omega arith)) (same_move m)) in
    let e = each_until m x l a.0 (each_before l x (bs ++ r) rise) in
    omega (
      arith,
      sum_by-append (if_passing (passes b) part) l ((x ∷ bs) ++ r),
      sum_by-append (if_passing (passes b) part) (x ∷ bs) r,
      each_passes b m part (x ∷ bs) k (h x) a,
      each_passes b m part l k (h x) e,
    )

-- the first passes and the last fails: the block decides
within_sum : (b : Bound) (part : Move → ℕ) (l bs r : List Move) → is_by_rank b ≡ true → IsRising (l ++ (bs ++ r)) → 0 < length bs → ((d : Move) → passes b (get_or bs 0 d) ≡ true) →
    ((d : Move) → passes b (get_or bs (length bs - 1) d) ≡ false) → sum_by (if_passing (passes b) part) (l ++ (bs ++ r)) ≡ sum_by part l + sum_by (if_passing (passes b) part) bs
within_sum b part l [] r k rise some h i = absurd (omega arith)
within_sum b part l (x ∷ bs) r k rise some h i =
    let m = get_or (x ∷ bs) (length (x ∷ bs) - 1) x in
    let a = each_after_last m (x ∷ bs) r (rising_right l ((x ∷ bs) ++ r) rise) some (λ d. subst (λ (z : Move). IsUpToMove m z) (get_or_default (x ∷ bs) (length (x ∷ bs) - 1) x d (omega arith)) (same_move m)) in
    omega (
      arith,
      sum_by-append (if_passing (passes b) part) l ((x ∷ bs) ++ r),
      sum_by-append (if_passing (passes b) part) (x ∷ bs) r,
      each_fails b m part r k (i x) a,
      each_passes b x part l k (h x) (each_before l x (bs ++ r) rise),
    )

pub far_reading : (b : Bound) (l r : Grown) (bl : Kept Move) (s : Sums) → is_by_rank b ≡ true → AreInOrder l bl r → ((d : Move) → passes b (get_or bl.items 0 d) ≡ false) →
    AreSums s (λ part. sum_by (if_passing (passes b) part) l.items) → AreSums s (λ part. sum_by (if_passing (passes b) part) (whole l bl r))
far_reading b l r bl s k w h a = same_total a (λ part. sym (far_sum b part l.items bl.items r.items k w.rising w.some h))

pub near_reading : (b : Bound) (l r : Grown) (bl : Kept Move) (s : Sums) → is_by_rank b ≡ true → AreInOrder l bl r → ((d : Move) → passes b (get_or bl.items (length bl.items - 1) d) ≡ true) →
    AreSums s (λ part. sum_by part l.items + (sum_by part bl.items + sum_by (if_passing (passes b) part) r.items)) → AreSums s (λ part. sum_by (if_passing (passes b) part) (whole l bl r))
near_reading b l r bl s k w h a = same_total a (λ part. sym (near_sum b part l.items bl.items r.items k w.rising w.some h))

pub within_reading : (b : Bound) (l r : Grown) (bl : Kept Move) (s : Sums) → is_by_rank b ≡ true → AreInOrder l bl r → ((d : Move) → passes b (get_or bl.items 0 d) ≡ true) →
    ((d : Move) → passes b (get_or bl.items (length bl.items - 1) d) ≡ false) → AreSums s (λ part. sum_by part l.items + sum_by (if_passing (passes b) part) bl.items) → AreSums s (λ part. sum_by (if_passing (passes b) part) (whole l bl r))
within_reading b l r bl s k w h i a = same_total a (λ part. sym (within_sum b part l.items bl.items r.items k w.rising w.some h i))

-- the sums that are added fit
pub near_fit : (b : Bound) (l r : Grown) (bl : Kept Move) (s u : Sums) → AreInOrder l bl r → AreSums s (λ part. sum_by part bl.items) → AreSums u (λ part. sum_by (if_passing (passes b) part) r.items) → FitTogether s u
near_fit b l r bl s u w p q =
    fit_together p q w.bounded (λ part. omega (arith, sum_passing_le (passes b) part r.items, sum_by-append part l.items (bl.items ++ r.items), sum_by-append part bl.items r.items))

pub near_fit_all : (b : Bound) (l r : Grown) (bl : Kept Move) (s u : Sums) → AreInOrder l bl r → AreSums s (λ part. sum_by part l.items) → AreSums u (λ part. sum_by part bl.items + sum_by (if_passing (passes b) part) r.items) → FitTogether s u
near_fit_all b l r bl s u w p q =
    fit_together p q w.bounded (λ part. omega (arith, sum_passing_le (passes b) part r.items, sum_by-append part l.items (bl.items ++ r.items), sum_by-append part bl.items r.items))

pub within_fit : (b : Bound) (l r : Grown) (bl : Kept Move) (s u : Sums) → AreInOrder l bl r → AreSums s (λ part. sum_by part l.items) → AreSums u (λ part. sum_by (if_passing (passes b) part) bl.items) → FitTogether s u
within_fit b l r bl s u w p q =
    fit_together p q w.bounded (λ part. omega (arith, sum_passing_le (passes b) part bl.items, sum_by-append part l.items (bl.items ++ r.items), sum_by-append part bl.items r.items))
