-- A new transaction's metadata are what a reading of it shows.
use Rattle.std.proofs.Common.{◌≡◌, ℕ, ◌+◌, ◌<◌, ◌≤◌, ℤ, Bool, true, false, cond, ◌&&◌, T, List, [], ◌∷◌, ◌++◌, map, length, Option, Some, None, Ordering, Less, Equal, Greater, refl, sym, ap, subst, ◌∙◌, append_assoc, arith}
use Rattle.std.specs.Prelude.{is_none}
use Rattle.std.specs.Ordering.{is_lt, is_eq, eq_by_cmp}
use Rattle.std.specs.Option.{option_or, unwrap_or}
use Rattle.std.specs.List.{filter, find}
use Rattle.std.specs.FinMap.Entries.{find as find_pair, below_all, is_sorted}
use Rattle.std.proofs.lemmas.List.{append-nil, length-append}
use Rattle.std.proofs.lemmas.List.Elements.{filter-append}
use Rattle.std.proofs.lemmas.Grind.{flat_map-append}
use Rattle.std.proofs.lemmas.Bool.{eqb-true, eq-eqb}
use Rattle.std.proofs.lemmas.Bool.Decides.{nat_tests}
use Rattle.lg_containers.specs.NameOrder.{name_order}
use Rattle.lg_containers.specs.NameTable as table
use Rattle.lg_types.specs.declared.changes.MetaChange.TheVariants.{Set}
use Rattle.lg_types.specs.declared.records.Entry.{Entry}
use Rattle.lg_types.specs.declared.records.EntryBody.{EntryBody}
use Rattle.lg_types.specs.declared.records.EntryBody.TheVariants.{NewTransaction, SetMetadata, Reverted, DeleteMetadata}
use Rattle.lg_types.specs.declared.records.Target.{Target}
use Rattle.lg_types.specs.declared.records.Target.TheVariants.{Account, Transaction as TransactionOf}
use Rattle.lg_types.specs.declared.records.Transaction.{Transaction}
use Rattle.lg_types.specs.Changes.{MetaOf, Change, account_change, body_changes, entry_changes, changes, same_target, is_about, is_changed_to, put_all, folded}
use Rattle.lg_types.specs.Known.{Dated, dated, entry_transactions, transactions, has_id}
use Rattle.lg_types.specs.Lists.{Each}
use Rattle.lg_types.specs.Moves.{body_transaction}
use Rattle.lg_types.proofs.Eachs.{each-map, each-append}
use Rattle.lg_views.specs.Import.{causes, fault, FollowsFrom, targets_wrong, is_missing, is_misnumbered}
use Rattle.lg_views.specs.Laws.{NewMetadataShown}
use Rattle.lg_views.proofs.TestAnswers.{not_false, all_false}

-- ---- a map made of its own pairs

and_first : (a b : Bool) → T (a && b) → T a
and_first true b h = tt
and_first false b h = absurd h

and_second : (a b : Bool) → T (a && b) → T b
and_second true b h = h
and_second false b h = absurd h

less_not_equal : (o : Ordering) → T (is_lt o) → is_eq o ≡ false
less_not_equal Less h = refl
less_not_equal Equal h = absurd h
less_not_equal Greater h = absurd h

equal : (o : Ordering) → is_eq o ≡ true → o ≡ Equal
equal Less h = absurd (let f : false ≡ true = h in cc)
equal Equal h = refl
equal Greater h = absurd (let f : false ≡ true = h in cc)

-- no later pair has a name that is equal to an earlier one
none_below : (q : List ℕ) (ps : List (List ℕ × List ℕ)) → T (below_all name_order q ps) → find_pair name_order q ps ≡ None
none_below q [] h = refl
none_below q (p ∷ ps) h =
    ap (λ b. cond b (Some p.1) (find_pair name_order q ps)) (less_not_equal (name_order q p.0) (and_first (is_lt (name_order q p.0)) (below_all name_order q ps) h))
    ∙ none_below q ps (and_second (is_lt (name_order q p.0)) (below_all name_order q ps) h)

either_way : (b : Bool) (v : List ℕ) (o r : Option (List ℕ)) → (b ≡ true → o ≡ None) → option_or o (cond b (Some v) r) ≡ option_or (cond b (Some v) o) r
either_way true v o r h = ap (λ x. option_or x (Some v)) (h refl)
either_way false v o r h = refl

put_all-get : (t : MetaOf) (ps : List (List ℕ × List ℕ)) (q : List ℕ) → T (is_sorted name_order ps) → table.get (put_all t ps) q ≡ option_or (find_pair name_order q ps) (table.get t q)
put_all-get t [] q h = refl
put_all-get t (p ∷ ps) q h =
    put_all-get (table.insert t p.0 p.1) ps q (and_second (below_all name_order p.0 ps) (is_sorted name_order ps) h)
    ∙ ap (option_or (find_pair name_order q ps)) (table.get-insert t p.0 p.1 q)
    ∙ either_way (eq_by_cmp name_order q p.0) p.1 (find_pair name_order q ps) (table.get t q)
    (λ same. none_below q ps (subst (λ x. T (below_all name_order x ps)) (sym (table.name_order-same q p.0 (equal (name_order q p.0) same))) (and_first (below_all name_order p.0 ps) (is_sorted name_order ps) h)))

or_none : (o : Option (List ℕ)) → option_or o None ≡ o
or_none None = refl
or_none (Some v) = refl

pub put_all-own : (m : MetaOf) → put_all table.empty (table.pairs_of m) ≡ m
put_all-own m = table.same_table (put_all table.empty (table.pairs_of m)) m (λ q.
    put_all-get table.empty (table.pairs_of m) q (table.pairs_in_order m)
    ∙ ap (option_or (find_pair name_order q (table.pairs_of m))) (table.get-empty (List ℕ) q)
    ∙ or_none (find_pair name_order q (table.pairs_of m))
    ∙ sym (table.get-pairs m q))

-- ---- no entry before it has metadata of a new transaction

abbrev IsKnown : ℕ → Target → Type 0
IsKnown n (Account address) = Unit {0}
IsKnown n (TransactionOf id) = id ≤ n

known-more : (n m : ℕ) (target : Target) → n ≤ m → IsKnown n target → IsKnown m target
known-more n m (Account address) le h = tt
known-more n m (TransactionOf id) le h = omega (arith, le, h)

-- a transaction that is found has an id that counts
found-known : (n : ℕ) (id : ℕ) (ds : List Dated) → Each (λ d. d.transaction.id ≤ n) ds → is_none (find (has_id id) ds) ≡ false → id ≤ n
found-known n id [] h k = absurd (let f : true ≡ false = k in cc)
found-known n id (d ∷ ds) h k = by_test (has_id id d) refl k (found-known n id ds h.1)
  where
    by_test : (b : Bool) → has_id id d ≡ b → is_none (cond b (Some d) (find (has_id id) ds)) ≡ false → (is_none (find (has_id id) ds) ≡ false → id ≤ n) → id ≤ n
    by_test true e j later = subst (λ x. x ≤ n) (eqb-true d.transaction.id id e) h.0
    by_test false e j later = later j

-- what a log knows of transactions: their ids, and those that changes are about, are at most their number
record Counts (g : List Entry) : Type 0 where
  ids : Each (λ d. d.transaction.id ≤ length (transactions g)) (transactions g)
  targets : Each (λ c. IsKnown (length (transactions g)) c.target) (changes g)

transactions-snoc : (g : List Entry) (e : Entry) → transactions (g ++ e ∷ []) ≡ transactions g ++ entry_transactions e
transactions-snoc g e = flat_map-append entry_transactions g (e ∷ []) ∙ ap (λ l. transactions g ++ l) (append-nil (entry_transactions e))

changes-snoc : (g : List Entry) (e : Entry) → changes (g ++ e ∷ []) ≡ changes g ++ entry_changes e
changes-snoc g e = flat_map-append entry_changes g (e ∷ []) ∙ ap (λ l. changes g ++ l) (append-nil (entry_changes e))

count-snoc : (g : List Entry) (e : Entry) → length (transactions (g ++ e ∷ [])) ≡ length (transactions g) + length (entry_transactions e)
count-snoc g e = ap length (transactions-snoc g e) ∙ length-append (transactions g) (entry_transactions e)

accounts-known : (n : ℕ) (date : ℤ) (pairs : List (List ℕ × MetaOf)) → Each (λ c. IsKnown n c.target) (map (account_change date) pairs)
accounts-known n date [] = tt
accounts-known n date (p ∷ pairs) = (tt, accounts-known n date pairs)

target-known : (g : List Entry) (target : Target) → Counts g → is_missing g target ≡ false → IsKnown (length (transactions g)) target
target-known g (Account address) h k = tt
target-known g (TransactionOf id) h k = found-known (length (transactions g)) id (transactions g) h.ids k

-- the next id, by what an entry makes
number-is : (g : List Entry) (t : Transaction) → is_misnumbered g (Some t) ≡ false → t.id ≡ length (transactions g) + 1
number-is g t h = eqb-true t.id (length (transactions g) + 1) (not_false _ h)

body-ids : (g : List Entry) (date : ℤ) (o : Option Transaction) → is_misnumbered g o ≡ false → Each (λ d. d.transaction.id ≤ length (transactions g) + length (dated date o)) (dated date o)
body-ids g date None h = tt
body-ids g date (Some t) h = ((let is = number-is g t h in omega (arith, is)), tt)

body-known : (g : List Entry) (date : ℤ) (body : EntryBody) → Counts g → is_misnumbered g (body_transaction body) ≡ false → targets_wrong g body ≡ false
    → Each (λ c. IsKnown (length (transactions g) + length (dated date (body_transaction body))) c.target) (body_changes date body)
body-known g date (NewTransaction t accounts) h number target = ((let is = number-is g t number in omega (arith, is)), accounts-known _ date (table.pairs_of accounts))
body-known g date (SetMetadata target metadata) h number wrong = (known-more (length (transactions g)) _ target (omega arith) (target-known g target h wrong), tt)
body-known g date (Reverted id t) h number target = ((let is = number-is g t number in omega (arith, is)), tt)
body-known g date (DeleteMetadata target name) h number wrong = (known-more (length (transactions g)) _ target (omega arith) (target-known g target h wrong), tt)

counts-snoc : (g : List Entry) (e : Entry) → Counts g → fault g e ≡ None → Counts (g ++ e ∷ [])
counts-snoc g e h none =
    let clear = all_false (causes g e) none in
    let number : is_misnumbered g (body_transaction e.body) ≡ false = clear.1.1.1.1.1.0 in
    let wrong : targets_wrong g e.body ≡ false = clear.1.1.1.1.1.1.1.0 in
    let n : ℕ = length (transactions g) + length (entry_transactions e) in
    let count : n ≡ length (transactions (g ++ e ∷ [])) = sym (count-snoc g e) in
    record {
      ids = subst (λ k. Each (λ d. d.transaction.id ≤ k) (transactions (g ++ e ∷ []))) count (subst (Each (λ d. d.transaction.id ≤ n)) (sym (transactions-snoc g e))
          (each-append (λ d. d.transaction.id ≤ n) (transactions g) (entry_transactions e) (each-map (λ d le. let r : d.transaction.id ≤ n = omega (arith, le) in r) (transactions g) h.ids) (body-ids g e.date (body_transaction e.body) number)));
      targets = subst (λ k. Each (λ c. IsKnown k c.target) (changes (g ++ e ∷ []))) count (subst (Each (λ c. IsKnown n c.target)) (sym (changes-snoc g e))
          (each-append (λ c. IsKnown n c.target) (changes g) (entry_changes e) (each-map (λ c known. known-more (length (transactions g)) n c.target (omega arith) known) (changes g) h.targets) (body-known g e.date e.body h number wrong)));
    }

counts-follow : (g es : List Entry) → Counts g → FollowsFrom g es → Counts (g ++ es)
counts-follow g [] h f = subst Counts (sym (append-nil g)) h
counts-follow g (e ∷ es) h f = subst Counts (append_assoc g (e ∷ []) es) (counts-follow (g ++ e ∷ []) es (counts-snoc g e h f.0) f.1)

-- so no change is about the next id
not_about : (n id : ℕ) (target : Target) → n < id → IsKnown n target → same_target target (TransactionOf id) ≡ false
not_about n id (Account address) lt h = refl
not_about n id (TransactionOf other) lt h = grind (arith, nat_tests, lt, h)

none_about : (n id : ℕ) (cs : List Change) → n < id → Each (λ c. IsKnown n c.target) cs → filter (is_about (TransactionOf id)) cs ≡ []
none_about n id [] lt h = refl
none_about n id (c ∷ cs) lt h = ap (λ b. cond b (c ∷ filter (is_about (TransactionOf id)) cs) (filter (is_about (TransactionOf id)) cs)) (not_about n id c.target lt h.0) ∙ none_about n id cs lt h.1

accounts_aside : (id : ℕ) (date : ℤ) (pairs : List (List ℕ × MetaOf)) → filter (is_about (TransactionOf id)) (map (account_change date) pairs) ≡ []
accounts_aside id date [] = refl
accounts_aside id date (p ∷ pairs) = accounts_aside id date pairs

abbrev own_change : ℤ → Transaction → Change
own_change date t = record { target = TransactionOf t.id; date = date; change = Set t.metadata }

same_some : (s t : Transaction) → ◌≡◌ {A = Option Transaction} (Some s) (Some t) → s ≡ t
same_some s t h = ap (λ o. unwrap_or o s) h

own-only : (date : ℤ) (body : EntryBody) (t : Transaction) → body_transaction body ≡ Some t → filter (is_about (TransactionOf t.id)) (body_changes date body) ≡ own_change date t ∷ []
own-only date (NewTransaction s accounts) t h =
    let is : s ≡ t = same_some s t h in
    subst (λ x. filter (is_about (TransactionOf x.id)) (body_changes date (NewTransaction s accounts)) ≡ own_change date x ∷ []) is
    (ap (λ b. cond b (own_change date s ∷ filter (is_about (TransactionOf s.id)) (map (account_change date) (table.pairs_of accounts))) (filter (is_about (TransactionOf s.id)) (map (account_change date) (table.pairs_of accounts)))) (eq-eqb s.id s.id refl)
    ∙ ap (λ l. own_change date s ∷ l) (accounts_aside s.id date (table.pairs_of accounts)))
own-only date (SetMetadata target metadata) t h = absurd (let f : ◌≡◌ {A = Option Transaction} None (Some t) = h in cc)
own-only date (Reverted id s) t h =
    subst (λ x. filter (is_about (TransactionOf x.id)) (body_changes date (Reverted id s)) ≡ own_change date x ∷ []) (same_some s t h)
    (ap (λ b. cond b (own_change date s ∷ []) []) (eq-eqb s.id s.id refl))
own-only date (DeleteMetadata target name) t h = absurd (let f : ◌≡◌ {A = Option Transaction} None (Some t) = h in cc)

pub new_metadata_shown : NewMetadataShown
new_metadata_shown g e t h none made =
    let counts : Counts g = counts-follow [] g (record { ids = tt; targets = tt }) h.follows in
    let number : t.id ≡ length (transactions g) + 1 = number-is g t (subst (λ o. is_misnumbered g o ≡ false) made (all_false (causes g e) none).1.1.1.1.1.0) in
    let only : filter (is_about (TransactionOf t.id)) (changes (g ++ e ∷ [])) ≡ own_change e.date t ∷ [] =
    ap (filter (is_about (TransactionOf t.id))) (changes-snoc g e)
    ∙ filter-append (is_about (TransactionOf t.id)) (changes g) (entry_changes e)
    ∙ ap (λ l. l ++ filter (is_about (TransactionOf t.id)) (entry_changes e)) (none_about (length (transactions g)) t.id (changes g) (omega (arith, number)) counts.targets)
    ∙ own-only e.date e.body t made in
    ap (λ cs. folded table.empty (filter (is_changed_to None) cs)) only ∙ put_all-own t.metadata
