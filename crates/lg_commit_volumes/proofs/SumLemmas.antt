-- Sums of volumes, and the volumes of moves one list after the other.
use Rattle.std.proofs.Common.{◌≡◌, ℕ, ◌+◌, ◌<◌, ◌≤◌, Bool, true, false, cond, List, [], ◌∷◌, ◌++◌, length, drop, get_or, refl, sym, ap, subst, ◌∙◌, arith}
use Rattle.std.specs.List.{flat_map, sum_by}
use Rattle.std.proofs.lemmas.List.{drop_more, drop_all}
use Rattle.std.proofs.lemmas.List.Sums.{sum_by-le-sum_by}
use Rattle.lg_base.specs.declared.amounts.Volumes.{Volumes}
use Rattle.lg_base.specs.Volumes.{sum_of, IsWithinLimit}
use Rattle.lg_types.specs.declared.moves.Move.{Move}
use Rattle.lg_types.specs.declared.records.Entry.{Entry}
use Rattle.lg_types.specs.declared.records.Posting.{Posting}
use Rattle.lg_types.specs.declared.records.Transaction.{Transaction}
use Rattle.lg_types.specs.MoveLaws.{posting_volumes}
use Rattle.lg_types.specs.Moves.{Placed, entry_moves, moves, pair_moves, volumes, total}
use Rattle.lg_types.specs.Tally.{amount_in, amount_out, if_passing, total_of}
use Rattle.lg_types.specs.Trial.{tried_moves}
use Rattle.lg_types.proofs.MoveSums.{same_volumes, tally-append, volumes-append}
use Rattle.lg_types.proofs.Limits.{total-posting}
use Rattle.lg_commit_volumes.specs.declared.before.PairBefore.{PairBefore}
use Rattle.lg_commit_volumes.specs.Before.{precedes, before_of, with_moves, AreWithinLimit}
use Rattle.lg_commit_volumes.specs.Maps.{nothing}

pub nothing_first : (v : Volumes) → sum_of nothing v ≡ v
nothing_first v = same_volumes _ _ _ _ (omega arith) (omega arith)

pub nothing_last : (v : Volumes) → sum_of v nothing ≡ v
nothing_last v = same_volumes _ _ _ _ (omega arith) (omega arith)

pub sum_assoc : (a b c : Volumes) → sum_of (sum_of a b) c ≡ sum_of a (sum_of b c)
sum_assoc a b c = same_volumes _ _ _ _ (omega arith) (omega arith)

pub first_within : (a b : Volumes) → IsWithinLimit (sum_of a b) → IsWithinLimit a
first_within a b h = let i = h.input in let o = h.output in record { input = omega (arith, i); output = omega (arith, o) }

pub second_within : (a b : Volumes) → IsWithinLimit (sum_of a b) → IsWithinLimit b
second_within a b h = let i = h.input in let o = h.output in record { input = omega (arith, i); output = omega (arith, o) }

-- ---- a step of a loop over a list

pub left_here : {X : Type 0} (xs : List X) (i : ℕ) (x : X) → i < length xs → x ≡ get_or xs i x → drop i xs ≡ x ∷ drop (i + 1) xs
left_here xs i x h is = drop_more xs i x h ∙ ap (λ y. y ∷ drop (i + 1) xs) (sym is)

module _ (account asset : List ℕ) where
  abbrev pub tried_total : List Posting → Volumes
  tried_total ps = total (flat_map tried_moves ps) account asset

  pub tried-next : (ps : List Posting) (i : ℕ) (p : Posting) → i < length ps → p ≡ get_or ps i p → tried_total (drop i ps) ≡ sum_of (posting_volumes account asset p) (tried_total (drop (i + 1) ps))
  tried-next ps i p h is =
      ap tried_total (left_here ps i p h is)
      ∙ volumes-append (tried_moves p) (flat_map tried_moves (drop (i + 1) ps)) (λ _. true) account asset
      ∙ ap (λ v. sum_of v (tried_total (drop (i + 1) ps))) (total-posting 0 _ _ p account asset)

  -- the sum so far with the rest is the whole
  pub sum_next : (ps : List Posting) (i : ℕ) (p : Posting) (sum one next whole : Volumes) → i < length ps → p ≡ get_or ps i p → one ≡ posting_volumes account asset p → next ≡ sum_of sum one
      → sum_of sum (tried_total (drop i ps)) ≡ whole → sum_of next (tried_total (drop (i + 1) ps)) ≡ whole
  sum_next ps i p sum one next whole h is k e before =
      ap (λ v. sum_of v (tried_total (drop (i + 1) ps))) (e ∙ ap (sum_of sum) k)
      ∙ sum_assoc sum (posting_volumes account asset p) (tried_total (drop (i + 1) ps))
      ∙ ap (sum_of sum) (sym (tried-next ps i p h is))
      ∙ before

  pub next_within : (ps : List Posting) (i : ℕ) (p : Posting) (sum one whole : Volumes) → i < length ps → p ≡ get_or ps i p → one ≡ posting_volumes account asset p
      → sum_of sum (tried_total (drop i ps)) ≡ whole → IsWithinLimit whole → IsWithinLimit (sum_of sum one)
  next_within ps i p sum one whole h is k before limit =
      first_within (sum_of sum one) (tried_total (drop (i + 1) ps)) (subst IsWithinLimit (sym (sum_next ps i p sum one (sum_of sum one) whole h is k refl before)) limit)

  pub sum_done : (ps : List Posting) (i : ℕ) (sum whole : Volumes) → length ps ≤ i → sum_of sum (tried_total (drop i ps)) ≡ whole → sum ≡ whole
  sum_done ps i sum whole h before = sym (nothing_last sum) ∙ ap (λ l. sum_of sum (tried_total l)) (sym (drop_all i ps h)) ∙ before

-- ---- the volumes before a transaction

pub same_before : (a b c d : Volumes) → a ≡ b → c ≡ d → ◌≡◌ {A = PairBefore} (record { all = a; ranked = c }) (record { all = b; ranked = d })
same_before a b c d p q = λ i. record { all = p i; ranked = q i }

pub tally-below : (test : Move → Bool) (part : Move → ℕ) (ms : List Move) → sum_by (if_passing test part) ms ≤ sum_by (if_passing (λ _. true) part) ms
tally-below test part ms = sum_by-le-sum_by (if_passing test part) (if_passing (λ _. true) part) ms (λ m. at_most (test m) (part m))
  where
    at_most : (b : Bool) (n : ℕ) → cond b n 0 ≤ n
    at_most true n = omega arith
    at_most false n = omega arith

module _ (t : Transaction) (account asset : List ℕ) where
  abbrev pub with_more : PairBefore → List Placed → PairBefore
  with_more before ms = with_moves t before ms account asset

  pub with-nil : (before : PairBefore) → with_more before [] ≡ before
  with-nil before = same_before _ _ _ _ (nothing_last before.all) (nothing_last before.ranked)

  pub with-append : (before : PairBefore) (ms ns : List Placed) → with_more (with_more before ms) ns ≡ with_more before (ms ++ ns)
  with-append before ms ns = same_before _ _ _ _
      (sum_assoc before.all (total ms account asset) (total ns account asset) ∙ ap (sum_of before.all) (sym (volumes-append ms ns (λ _. true) account asset)))
      (sum_assoc before.ranked (volumes ms (precedes t) account asset) (volumes ns (precedes t) account asset) ∙ ap (sum_of before.ranked) (sym (volumes-append ms ns (precedes t) account asset)))

  pub before-with : (xs : List Move) (ms : List Placed) → with_more (before_of t xs) ms ≡ before_of t (xs ++ pair_moves ms account asset)
  before-with xs ms = same_before _ _ _ _ (sym (tally-append (λ _. true) xs (pair_moves ms account asset))) (sym (tally-append (precedes t) xs (pair_moves ms account asset)))

  pub both_within : (xs : List Move) → IsWithinLimit (total_of xs) → AreWithinLimit (before_of t xs)
  both_within xs h =
      let i = h.input in let o = h.output in let a = tally-below (precedes t) amount_in xs in let b = tally-below (precedes t) amount_out xs in
      record { all = h; ranked = record { input = omega (arith, i, a); output = omega (arith, o, b) } }

  pub ranked_sum : (xs : List Move) (before : PairBefore) (own whole : Volumes) → before ≡ before_of t xs → own ≡ whole → IsWithinLimit (sum_of (total_of xs) whole) → IsWithinLimit (sum_of before.ranked own)
  ranked_sum xs before own whole is e h =
      subst (λ b. IsWithinLimit (sum_of b own)) (sym (ap (λ b. b.ranked) is))
      (subst (λ v. IsWithinLimit (sum_of (before_of t xs).ranked v)) (sym e)
      (let i = h.input in let o = h.output in let a = tally-below (precedes t) amount_in xs in let b = tally-below (precedes t) amount_out xs in
      record { input = omega (arith, i, a); output = omega (arith, o, b) }))

  pub first_are_within : (before : PairBefore) (ms : List Placed) → AreWithinLimit (with_more before ms) → AreWithinLimit before
  first_are_within before ms h = record { all = first_within before.all _ h.all; ranked = first_within before.ranked _ h.ranked }

  -- a step of a loop over entries
  pub entries_next : (es : List Entry) (i : ℕ) (e : Entry) (known next whole : PairBefore) → i < length es → e ≡ get_or es i e → next ≡ with_more known (entry_moves e)
      → with_more known (moves (drop i es)) ≡ whole → with_more next (moves (drop (i + 1) es)) ≡ whole
  entries_next es i e known next whole h is k before =
      ap (λ b. with_more b (moves (drop (i + 1) es))) k
      ∙ with-append known (entry_moves e) (moves (drop (i + 1) es))
      ∙ ap (λ l. with_more known (moves l)) (sym (left_here es i e h is))
      ∙ before

  pub entry_within : (es : List Entry) (i : ℕ) (e : Entry) (known whole : PairBefore) → i < length es → e ≡ get_or es i e
      → with_more known (moves (drop i es)) ≡ whole → AreWithinLimit whole → AreWithinLimit (with_more known (entry_moves e))
  entry_within es i e known whole h is before limit =
      first_are_within (with_more known (entry_moves e)) (moves (drop (i + 1) es)) (subst AreWithinLimit (sym (entries_next es i e known (with_more known (entry_moves e)) whole h is refl before)) limit)

  pub entries_done : (es : List Entry) (i : ℕ) (known whole : PairBefore) → length es ≤ i → with_more known (moves (drop i es)) ≡ whole → known ≡ whole
  entries_done es i known whole h before = sym (with-nil known) ∙ ap (λ l. with_more known (moves l)) (sym (drop_all i es h)) ∙ before
