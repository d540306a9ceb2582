-- Sums over moves: of lists put together, of moves that a test leaves out, and of tests that divide another.
use Rattle.std.proofs.Common.{◌≡◌, ℕ, ◌+◌, ℤ, Bool, true, false, cond, ◌&&◌, ◌||◌, List, [], ◌∷◌, ◌++◌, map, Option, Some, None, refl, sym, ap, subst, ◌∙◌, arith}
use Rattle.std.specs.Prelude.{nat_eq, nat_lt, nat_le, int_lt, int_le, if◌then◌else◌}
use Rattle.std.specs.Ordering.{int_eq, is_eq}
use Rattle.std.proofs.Common.{Ordering, Less, Equal, Greater}
use Rattle.std.specs.List.{sum_by, flat_map, filter}
use Rattle.std.specs.Str.{bytes_eq}
use Rattle.std.proofs.lemmas.List.{append-nil, map-append}
use Rattle.std.proofs.lemmas.List.Elements.{filter-append}
use Rattle.std.proofs.lemmas.List.Sums.{sum_by-append, sum_by-cons}
use Rattle.std.proofs.lemmas.Grind.{flat_map-append}
use Rattle.std.proofs.lemmas.Bool.Decides.{nat_tests}
use Rattle.lg_base.specs.declared.amounts.Volumes.{Volumes}
use Rattle.lg_base.specs.Volumes.{sum_of}
use Rattle.lg_types.specs.declared.moves.Move.{Move}
use Rattle.lg_types.specs.declared.records.Entry.{Entry}
use Rattle.lg_types.specs.declared.records.Posting.{Posting}
use Rattle.lg_types.specs.declared.records.Transaction.{Transaction}
use Rattle.lg_types.specs.Lists.{Each}
use Rattle.lg_types.specs.Moves.{Placed, what_of, is_of, out_move, in_move, posting_moves, transaction_moves, body_transaction, entry_moves, moves, pair_moves, volumes}
use Rattle.lg_types.specs.Tally.{amount_in, amount_out, if_passing, tally, is_inserted_to, is_effective_to, is_of_transaction_to, is_of_transaction_before, is_ranked_to, is_ranked_before}
use Rattle.lg_types.specs.MoveLaws.{asset_in, asset_out, Balanced, LaterEntry, LaterTransaction, is_of_transaction, is_of_rank, WithOwnPostings, WithOwnPostingsByRank}

pub same_volumes : (a b c d : ℕ) → a ≡ b → c ≡ d → ◌≡◌ {A = Volumes} (record { input = a; output = c }) (record { input = b; output = d })
same_volumes a b c d p q = λ i. record { input = p i; output = q i }

pub tally-append : (test : Move → Bool) (xs ys : List Move) → tally test (xs ++ ys) ≡ sum_of (tally test xs) (tally test ys)
tally-append test xs ys = same_volumes _ _ _ _ (sum_by-append (if_passing test amount_in) xs ys) (sum_by-append (if_passing test amount_out) xs ys)

pub pair_moves-append : (ms ns : List Placed) (account asset : List ℕ) → pair_moves (ms ++ ns) account asset ≡ pair_moves ms account asset ++ pair_moves ns account asset
pair_moves-append ms ns account asset = ap (map what_of) (filter-append (is_of account asset) ms ns) ∙ map-append what_of (filter (is_of account asset) ms) (filter (is_of account asset) ns)

pub volumes-append : (ms ns : List Placed) (test : Move → Bool) (account asset : List ℕ) → volumes (ms ++ ns) test account asset ≡ sum_of (volumes ms test account asset) (volumes ns test account asset)
volumes-append ms ns test account asset = ap (tally test) (pair_moves-append ms ns account asset) ∙ tally-append test (pair_moves ms account asset) (pair_moves ns account asset)

pub moves-append : (g h : List Entry) → moves (g ++ h) ≡ moves g ++ moves h
moves-append g h = flat_map-append entry_moves g h

-- ---- moves that fail a test

left_out : (test : Move → Bool) (part : Move → ℕ) (m : Move) (ms : List Move) → test m ≡ false → sum_by (if_passing test part) (m ∷ ms) ≡ sum_by (if_passing test part) ms
left_out test part m ms h =
    sum_by-cons (if_passing test part) m ms
    ∙ (let none : if_passing test part m ≡ 0 = ap (λ b. cond b (part m) 0) h in omega (arith, none))

left_out_of : (test : Move → Bool) (part : Move → ℕ) (b : Bool) (m : Placed) (ms : List Placed) → test m.what ≡ false → sum_by (if_passing test part) (map what_of ms) ≡ 0 → sum_by (if_passing test part) (map what_of (cond b (m ∷ ms) ms)) ≡ 0
left_out_of test part true m ms h k = left_out test part m.what (map what_of ms) h ∙ k
left_out_of test part false m ms h k = k

none_pass : (test : Move → Bool) (part : Move → ℕ) (ms : List Placed) (account asset : List ℕ) → Each (λ m. test m.what ≡ false) ms → sum_by (if_passing test part) (pair_moves ms account asset) ≡ 0
none_pass test part [] account asset h = refl
none_pass test part (m ∷ ms) account asset h = left_out_of test part (is_of account asset m) m (filter (is_of account asset) ms) h.0 (none_pass test part ms account asset h.1)

-- moves that fail a test change no volume under it
pub volumes-skip : (ms more : List Placed) (test : Move → Bool) (account asset : List ℕ) → Each (λ m. test m.what ≡ false) more → volumes (ms ++ more) test account asset ≡ volumes ms test account asset
volumes-skip ms more test account asset h =
    volumes-append ms more test account asset
    ∙ same_volumes _ _ _ _
    (let none = none_pass test amount_in more account asset h in omega (arith, none))
    (let none = none_pass test amount_out more account asset h in omega (arith, none))

-- ---- the moves of one entry

postings-fail : (test : Move → Bool) (id : ℕ) (inserted effective : ℤ) → ((m : Move) → m.inserted ≡ inserted → m.effective ≡ effective → test m ≡ false) → (ps : List Posting) → Each (λ m. test m.what ≡ false) (flat_map (posting_moves id inserted effective) ps)
postings-fail test id inserted effective f [] = tt
postings-fail test id inserted effective f (p ∷ ps) = (f (out_move id inserted effective p).what refl refl, (f (in_move id inserted effective p).what refl refl, postings-fail test id inserted effective f ps))

transaction-fails : (test : Move → Bool) (inserted : ℤ) (o : Option Transaction) → ((m : Move) → m.inserted ≡ inserted → test m ≡ false) → Each (λ m. test m.what ≡ false) (transaction_moves inserted o)
transaction-fails test inserted None f = tt
transaction-fails test inserted (Some t) f = postings-fail test t.id inserted t.timestamp (λ m h k. f m h) t.postings

pub moves-snoc : (g : List Entry) (e : Entry) → moves (g ++ e ∷ []) ≡ moves g ++ entry_moves e
moves-snoc g e = moves-append g (e ∷ []) ∙ ap (λ l. moves g ++ l) (append-nil (entry_moves e))

pub later_entry : LaterEntry
later_entry g e p account asset h =
    ap (λ ms. volumes ms (is_inserted_to p) account asset) (moves-snoc g e)
    ∙ volumes-skip (moves g) (entry_moves e) (is_inserted_to p) account asset (transaction-fails (is_inserted_to p) e.date (body_transaction e.body) (λ m same. ap (λ d. int_le d p) same ∙ h))

pub later_transaction : LaterTransaction
later_transaction g e t p account asset made h =
    ap (λ ms. volumes ms (is_effective_to p) account asset) (moves-snoc g e)
    ∙ volumes-skip (moves g) (entry_moves e) (is_effective_to p) account asset
    (subst (λ o. Each (λ m. is_effective_to p m.what ≡ false) (transaction_moves e.date o)) (sym made) (postings-fail (is_effective_to p) t.id e.date t.timestamp (λ m same there. ap (λ d. int_le d p) there ∙ h) t.postings))

-- ---- inputs and outputs are equal

abbrev pub IsEven : List ℕ → List Placed → Type 0
IsEven asset ms = sum_by (asset_in asset) ms ≡ sum_by (asset_out asset) ms

even-append : (asset : List ℕ) (xs ys : List Placed) → IsEven asset xs → IsEven asset ys → IsEven asset (xs ++ ys)
even-append asset xs ys h k =
    let p = sum_by-append (asset_in asset) xs ys in
    let q = sum_by-append (asset_out asset) xs ys in
    omega (arith, h, k, p, q)

even-flat : {X : Type 0} (asset : List ℕ) (f : X → List Placed) → ((x : X) → IsEven asset (f x)) → (xs : List X) → IsEven asset (flat_map f xs)
even-flat asset f h [] = refl
even-flat asset f h (x ∷ xs) = even-append asset (f x) (flat_map f xs) (h x) (even-flat asset f h xs)

even-two : (b : Bool) (n : ℕ) → 0 + (if b then 0 else 0) + (if b then n else 0) ≡ 0 + (if b then n else 0) + (if b then 0 else 0)
even-two true n = omega arith
even-two false n = refl

even-posting : (asset : List ℕ) (id : ℕ) (inserted effective : ℤ) (p : Posting) → IsEven asset (posting_moves id inserted effective p)
even-posting asset id inserted effective p = even-two (bytes_eq p.asset asset) p.amount

even-transaction : (asset : List ℕ) (inserted : ℤ) (o : Option Transaction) → IsEven asset (transaction_moves inserted o)
even-transaction asset inserted None = refl
even-transaction asset inserted (Some t) = even-flat asset (posting_moves t.id inserted t.timestamp) (even-posting asset t.id inserted t.timestamp) t.postings

pub balanced : Balanced
balanced g asset = even-flat asset entry_moves (λ e. even-transaction asset e.date (body_transaction e.body)) g

-- ---- tests that divide another

-- the first test holds where one of the others does, and these never hold both
abbrev pub Divides : (Move → Bool) → (Move → Bool) → (Move → Bool) → Type 0
Divides p q r = (m : Move) → (p m ≡ (q m || r m)) × ((q m && r m) ≡ false)

divided : (b c : Bool) (n : ℕ) → (b && c) ≡ false → cond (b || c) n 0 ≡ cond b n 0 + cond c n 0
divided true true n h = absurd (let f : true ≡ false = h in cc)
divided true false n h = omega arith
divided false true n h = omega arith
divided false false n h = refl

sum-divided : (p q r : Move → Bool) (part : Move → ℕ) → Divides p q r → (ms : List Move) → sum_by (if_passing p part) ms ≡ sum_by (if_passing q part) ms + sum_by (if_passing r part) ms
sum-divided p q r part h [] = refl
sum-divided p q r part h (m ∷ ms) =
    let one : if_passing p part m ≡ if_passing q part m + if_passing r part m = ap (λ b. cond b (part m) 0) (h m).0 ∙ divided (q m) (r m) (part m) (h m).1 in
    let rest = sum-divided p q r part h ms in
    let x = sum_by-cons (if_passing p part) m ms in
    let y = sum_by-cons (if_passing q part) m ms in
    let z = sum_by-cons (if_passing r part) m ms in
    omega (arith, one, rest, x, y, z)

pub volumes-divided : (p q r : Move → Bool) → Divides p q r → (ms : List Placed) (account asset : List ℕ) → volumes ms p account asset ≡ sum_of (volumes ms q account asset) (volumes ms r account asset)
volumes-divided p q r h ms account asset = same_volumes _ _ _ _ (sum-divided p q r amount_in h (pair_moves ms account asset)) (sum-divided p q r amount_out h (pair_moves ms account asset))

at_most : (i j : ℕ) → (nat_le i j ≡ (nat_lt i j || nat_eq i j)) × ((nat_lt i j && nat_eq i j) ≡ false)
at_most i j = by_less (nat_lt i j) refl (nat_eq i j) refl
  where
    by_less : (b : Bool) → nat_lt i j ≡ b → (c : Bool) → nat_eq i j ≡ c → (nat_le i j ≡ (b || c)) × ((b && c) ≡ false)
    by_less true h true k = absurd (grind (arith, nat_tests, h, k))
    by_less true h false k = (grind (arith, nat_tests, h), refl)
    by_less false h true k = (grind (arith, nat_tests, k), refl)
    by_less false h false k = (grind (arith, nat_tests, h, k), refl)

pub with_own_postings : WithOwnPostings
with_own_postings ms id account asset = volumes-divided (is_of_transaction_to id) (is_of_transaction_before id) (is_of_transaction id) (λ m. at_most m.transaction id) ms account asset

-- at most in the order of pairs
pair_at_most : (less same le lt eq : Bool) → (less && same) ≡ false → le ≡ (lt || eq) → (lt && eq) ≡ false → ((less || (same && le)) ≡ ((less || (same && lt)) || (same && eq))) × (((less || (same && lt)) && (same && eq)) ≡ false)
pair_at_most true true le lt eq h k n = absurd (let f : true ≡ false = h in cc)
pair_at_most true false le lt eq h k n = (refl, refl)
pair_at_most false true le lt eq h k n = (k, n)
pair_at_most false false le lt eq h k n = (refl, refl)

not_both : (x y : ℤ) → (int_lt x y && int_eq x y) ≡ false
not_both x y = by_less (int_lt x y) (cond (int_lt y x) Greater Equal)
  where
    by_less : (b : Bool) (o : Ordering) → (b && is_eq (cond b Less o)) ≡ false
    by_less true o = refl
    by_less false o = refl

pub with_own_postings_by_rank : WithOwnPostingsByRank
with_own_postings_by_rank ms date id account asset =
    volumes-divided (is_ranked_to date id) (is_ranked_before date id) (is_of_rank date id)
    (λ m. let pair = at_most m.transaction id in pair_at_most (int_lt m.effective date) (int_eq m.effective date) _ _ _ (not_both m.effective date) pair.0 pair.1) ms account asset
