-- Moves that all pass a test alike, and the tests of a transaction at the moves of others and at its own.
use Rattle.std.proofs.Common.{◌≡◌, ℕ, ◌+◌, ◌<◌, ℤ, Bool, true, false, cond, ◌&&◌, ◌||◌, List, [], ◌∷◌, ◌++◌, map, Option, Some, None, Less, Equal, Greater, refl, sym, ap, ap₂, subst, ◌∙◌, arith}
use Rattle.std.specs.Prelude.{nat_lt, nat_le, int_lt}
use Rattle.std.specs.Ordering.{int_eq}
use Rattle.std.specs.List.{sum_by, flat_map, filter}
use Rattle.std.proofs.lemmas.Bool.Decides.{nat_tests, Decides-int_eq}
use Rattle.std.proofs.lemmas.Cmp.{tied_itself, int_cmp_total}
use Rattle.std.proofs.lemmas.List.Sums.{sum_by-cons}
use Rattle.lg_types.specs.declared.moves.Move.{Move}
use Rattle.lg_types.specs.declared.records.Entry.{Entry}
use Rattle.lg_types.specs.declared.records.Posting.{Posting}
use Rattle.lg_types.specs.declared.records.Transaction.{Transaction}
use Rattle.lg_types.specs.Lists.{Each}
use Rattle.lg_types.specs.Known.{Dated, dated, transactions}
use Rattle.lg_types.specs.Moves.{Placed, what_of, is_of, out_move, in_move, posting_moves, transaction_moves, body_transaction, entry_moves, moves, pair_moves, volumes, total}
use Rattle.lg_types.specs.Tally.{amount_in, amount_out, if_passing, is_of_transaction_to, is_of_transaction_before, is_ranked_to, is_ranked_before}
use Rattle.lg_types.specs.Trial.{tried_moves}
use Rattle.lg_types.proofs.Eachs.{each-map, each-append}
use Rattle.lg_types.proofs.Limits.{total-postings}
use Rattle.lg_types.proofs.MoveSums.{same_volumes}
use Rattle.lg_commit_volumes.specs.Before.{precedes}
use Rattle.lg_commit_volumes.specs.Lent.{HasSmallerId}
use Rattle.lg_commit_volumes.specs.Maps.{nothing}

-- ---- tests that agree

sum-same : (p q : Move → Bool) (part : Move → ℕ) (ms : List Move) → Each (λ m. p m ≡ q m) ms → sum_by (if_passing p part) ms ≡ sum_by (if_passing q part) ms
sum-same p q part [] h = refl
sum-same p q part (m ∷ ms) h =
    sum_by-cons (if_passing p part) m ms
    ∙ ap₂ (λ (b : Bool) (n : ℕ). cond b (part m) 0 + n) h.0 (sum-same p q part ms h.1)
    ∙ sym (sum_by-cons (if_passing q part) m ms)

sum-none : (part : Move → ℕ) (ms : List Move) → sum_by (if_passing (λ _. false) part) ms ≡ 0
sum-none part [] = refl
sum-none part (m ∷ ms) = sum_by-cons (if_passing (λ _. false) part) m ms ∙ (let rest = sum-none part ms in omega (arith, rest))

kept_if : (P : Move → Type 0) (b : Bool) (m : Placed) (ms : List Placed) → P m.what → Each P (map what_of ms) → Each P (map what_of (cond b (m ∷ ms) ms))
kept_if P true m ms h k = (h, k)
kept_if P false m ms h k = k

pair-each : (P : Move → Type 0) (account asset : List ℕ) (ms : List Placed) → Each (λ m. P m.what) ms → Each P (pair_moves ms account asset)
pair-each P account asset [] h = tt
pair-each P account asset (m ∷ ms) h = kept_if P (is_of account asset m) m (filter (is_of account asset) ms) h.0 (pair-each P account asset ms h.1)

pub volumes-same : (p q : Move → Bool) (account asset : List ℕ) (ms : List Placed) → Each (λ m. p m.what ≡ q m.what) ms → volumes ms p account asset ≡ volumes ms q account asset
volumes-same p q account asset ms h =
    let each = pair-each (λ m. p m ≡ q m) account asset ms h in
    same_volumes _ _ _ _ (sum-same p q amount_in (pair_moves ms account asset) each) (sum-same p q amount_out (pair_moves ms account asset) each)

pub volumes-none : (account asset : List ℕ) (ms : List Placed) → volumes ms (λ _. false) account asset ≡ nothing
volumes-none account asset ms = same_volumes _ _ _ _ (sum-none amount_in (pair_moves ms account asset)) (sum-none amount_out (pair_moves ms account asset))

-- ---- the moves of postings of one transaction

pub own-each : (P : Move → Type 0) (id : ℕ) (inserted effective : ℤ) → ((m : Move) → m.transaction ≡ id → m.effective ≡ effective → P m) → (ps : List Posting) → Each (λ m. P m.what) (flat_map (posting_moves id inserted effective) ps)
own-each P id inserted effective f [] = tt
own-each P id inserted effective f (p ∷ ps) = (f (out_move id inserted effective p).what refl refl, (f (in_move id inserted effective p).what refl refl, own-each P id inserted effective f ps))

by_one : (b : Bool) (account asset : List ℕ) (id : ℕ) (inserted effective : ℤ) (ps : List Posting) → volumes (flat_map (posting_moves id inserted effective) ps) (λ _. b) account asset ≡ cond b (total (flat_map tried_moves ps) account asset) nothing
by_one true account asset id inserted effective ps = total-postings id inserted effective ps account asset
by_one false account asset id inserted effective ps = volumes-none account asset (flat_map (posting_moves id inserted effective) ps)

-- where all of them answer a test alike
pub own-alike : (test : Move → Bool) (b : Bool) (account asset : List ℕ) (id : ℕ) (inserted effective : ℤ) (ps : List Posting) → ((m : Move) → m.transaction ≡ id → m.effective ≡ effective → test m ≡ b)
    → volumes (flat_map (posting_moves id inserted effective) ps) test account asset ≡ cond b (total (flat_map tried_moves ps) account asset) nothing
own-alike test b account asset id inserted effective ps f =
    volumes-same test (λ _. b) account asset (flat_map (posting_moves id inserted effective) ps) (own-each (λ m. test m ≡ b) id inserted effective f ps)
    ∙ by_one b account asset id inserted effective ps

-- ---- whether one transaction is before another

abbrev pub is_earlier : Transaction → Transaction → Bool
is_earlier u t = int_lt u.timestamp t.timestamp || (int_eq u.timestamp t.timestamp && nat_lt u.id t.id)

pub earlier-moves : (u t : Transaction) (inserted : ℤ) (account asset : List ℕ) → volumes (transaction_moves inserted (Some u)) (precedes t) account asset ≡ cond (is_earlier u t) (total (flat_map tried_moves u.postings) account asset) nothing
earlier-moves u t inserted account asset =
    own-alike (precedes t) (is_earlier u t) account asset u.id inserted u.timestamp u.postings
    (λ m i d. ap₂ (λ (x : ℤ) (n : ℕ). int_lt x t.timestamp || (int_eq x t.timestamp && nat_lt n t.id)) d i)

-- ---- a transaction's own tests

not_less : (n : ℕ) → nat_lt n n ≡ false
not_less n = by_test (nat_lt n n) refl
  where
    by_test : (b : Bool) → nat_lt n n ≡ b → nat_lt n n ≡ false
    by_test true h = absurd (grind (arith, nat_tests, h))
    by_test false h = h

at_most_itself : (n : ℕ) → nat_le n n ≡ true
at_most_itself n = by_test (nat_le n n) refl
  where
    by_test : (b : Bool) → nat_le n n ≡ b → nat_le n n ≡ true
    by_test true h = h
    by_test false h = absurd (grind (arith, nat_tests, h))

less_is : (i n : ℕ) → i < n → nat_lt i n ≡ true
less_is i n h = by_test (nat_lt i n) refl
  where
    by_test : (b : Bool) → nat_lt i n ≡ b → nat_lt i n ≡ true
    by_test true k = k
    by_test false k = absurd (grind (arith, nat_tests, k, h))

at_most_is : (i n : ℕ) → i < n → nat_le i n ≡ true
at_most_is i n h = by_test (nat_le i n) refl
  where
    by_test : (b : Bool) → nat_le i n ≡ b → nat_le i n ≡ true
    by_test true k = k
    by_test false k = absurd (grind (arith, nat_tests, k, h))

not_before : (d : ℤ) → int_lt d d ≡ false
not_before d = by_test (int_lt d d) (int_lt d d) refl refl (tied_itself int_cmp_total d)
  where
    by_test : (b c : Bool) → int_lt d d ≡ b → int_lt d d ≡ c → cond b Less (cond c Greater Equal) ≡ Equal → int_lt d d ≡ false
    by_test true c h k e = absurd cc
    by_test false c h k e = h

same_date : (d : ℤ) → int_eq d d ≡ true
same_date d = (Decides-int_eq d d).1 refl

module _ (t : Transaction) where
  -- its own moves are not before it
  own_id : (m : Move) → m.transaction ≡ t.id → is_of_transaction_before t.id m ≡ false
  own_id m i = ap (λ n. nat_lt n t.id) i ∙ not_less t.id

  own_rank : (m : Move) → m.transaction ≡ t.id → m.effective ≡ t.timestamp → is_ranked_before t.timestamp t.id m ≡ false
  own_rank m i d =
      ap₂ (λ (x : ℤ) (n : ℕ). int_lt x t.timestamp || (int_eq x t.timestamp && nat_lt n t.id)) d i
      ∙ ap₂ (λ b c. b || c) (not_before t.timestamp) (ap₂ (λ b c. b && c) (same_date t.timestamp) (not_less t.id))

  -- but up to it
  own_id_to : (m : Move) → m.transaction ≡ t.id → is_of_transaction_to t.id m ≡ true
  own_id_to m i = ap (λ n. nat_le n t.id) i ∙ at_most_itself t.id

  own_rank_to : (m : Move) → m.transaction ≡ t.id → m.effective ≡ t.timestamp → is_ranked_to t.timestamp t.id m ≡ true
  own_rank_to m i d =
      ap₂ (λ (x : ℤ) (n : ℕ). int_lt x t.timestamp || (int_eq x t.timestamp && nat_le n t.id)) d i
      ∙ ap₂ (λ b c. b || c) (not_before t.timestamp) (ap₂ (λ b c. b && c) (same_date t.timestamp) (at_most_itself t.id))

  module _ (account asset : List ℕ) (inserted : ℤ) where
    pub own-before : volumes (transaction_moves inserted (Some t)) (is_of_transaction_before t.id) account asset ≡ nothing
    own-before = own-alike (is_of_transaction_before t.id) false account asset t.id inserted t.timestamp t.postings (λ m i d. own_id m i)

    pub own-to : volumes (transaction_moves inserted (Some t)) (is_of_transaction_to t.id) account asset ≡ total (flat_map tried_moves t.postings) account asset
    own-to = own-alike (is_of_transaction_to t.id) true account asset t.id inserted t.timestamp t.postings (λ m i d. own_id_to m i)

    pub own-ranked_before : volumes (transaction_moves inserted (Some t)) (is_ranked_before t.timestamp t.id) account asset ≡ nothing
    own-ranked_before = own-alike (is_ranked_before t.timestamp t.id) false account asset t.id inserted t.timestamp t.postings own_rank

    pub own-ranked_to : volumes (transaction_moves inserted (Some t)) (is_ranked_to t.timestamp t.id) account asset ≡ total (flat_map tried_moves t.postings) account asset
    own-ranked_to = own-alike (is_ranked_to t.timestamp t.id) true account asset t.id inserted t.timestamp t.postings own_rank_to

  -- ---- moves of smaller ids

  abbrev pub IsSmaller : Move → Type 0
  IsSmaller m = m.transaction < t.id

  dated-each : (inserted : ℤ) (o : Option Transaction) → Each (HasSmallerId t.id) (dated inserted o) → Each (λ m. IsSmaller m.what) (transaction_moves inserted o)
  dated-each inserted None h = tt
  dated-each inserted (Some u) h = own-each IsSmaller u.id inserted u.timestamp (λ m i d. subst (λ n. n < t.id) (sym i) h.0) u.postings

  split : (o : List Dated) (rest : List Dated) → Each (HasSmallerId t.id) (o ++ rest) → Each (HasSmallerId t.id) o × Each (HasSmallerId t.id) rest
  split [] rest h = (tt, h)
  split (d ∷ o) rest h = let k = split o rest h.1 in ((h.0, k.0), k.1)

  pub smaller-each : (g : List Entry) → Each (HasSmallerId t.id) (transactions g) → Each (λ m. IsSmaller m.what) (moves g)
  smaller-each [] h = tt
  smaller-each (e ∷ g) h =
      let parts = split (dated e.date (body_transaction e.body)) (transactions g) h in
      each-append (λ m. IsSmaller m.what) (entry_moves e) (moves g) (dated-each e.date (body_transaction e.body) parts.0) (smaller-each g parts.1)

  module _ (account asset : List ℕ) (ms : List Placed) (h : Each (λ m. IsSmaller m.what) ms) where
    pub before-all : volumes ms (is_of_transaction_before t.id) account asset ≡ total ms account asset
    before-all = volumes-same (is_of_transaction_before t.id) (λ _. true) account asset ms (each-map (λ m k. less_is m.what.transaction t.id k) ms h)

    pub to-all : volumes ms (is_of_transaction_to t.id) account asset ≡ total ms account asset
    to-all = volumes-same (is_of_transaction_to t.id) (λ _. true) account asset ms (each-map (λ m k. at_most_is m.what.transaction t.id k) ms h)

    pub ranked_to-before : volumes ms (is_ranked_to t.timestamp t.id) account asset ≡ volumes ms (is_ranked_before t.timestamp t.id) account asset
    ranked_to-before = volumes-same (is_ranked_to t.timestamp t.id) (is_ranked_before t.timestamp t.id) account asset ms
        (each-map (λ m k. ap (λ b. int_lt m.what.effective t.timestamp || (int_eq m.what.effective t.timestamp && b)) (at_most_is m.what.transaction t.id k ∙ sym (less_is m.what.transaction t.id k))) ms h)
