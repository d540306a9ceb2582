-- The accounts at a date are, in byte order, those of the named accounts that are there.
use Rattle.std.proofs.Common.{◌≡◌, ℕ, ℤ, Bool, true, false, cond, ◌&&◌, ◌||◌, List, [], ◌∷◌, ◌++◌, map, refl, sym, ap, ap₂, subst, ◌∙◌}
use Rattle.std.specs.Prelude.{Option, Some, None}
use Rattle.std.specs.List.{filter, flat_map, list_any}
use Rattle.std.specs.Str.{bytes_eq}
use Rattle.std.proofs.lemmas.List.Folds.{list_any-append}
use Rattle.std.proofs.lemmas.List.Kept.{IsStrictlySortedBy-filter}
use Rattle.std.proofs.lemmas.Map.Views.{any-filter_same}
use Rattle.std.specs.Cmp.{both_ways}
use Rattle.lg_containers.specs.NameOrder.{name_order}
use Rattle.lg_containers.specs.NameTable.{empty}
use Rattle.lg_types.specs.declared.records.Entry.{Entry}
use Rattle.lg_types.specs.declared.records.Posting.{Posting}
use Rattle.lg_types.specs.declared.records.Transaction.{Transaction}
use Rattle.lg_types.specs.Known.{accounts, entry_accounts, own_accounts, posting_accounts, transaction_accounts}
use Rattle.lg_types.specs.Moves.{Placed, body_transaction, entry_moves, moves, posting_moves, transaction_moves}
use Rattle.lg_types.specs.PartLaws.{is_account}
use Rattle.lg_views.specs.Pairs.{in_byte_order, with_names}
use Rattle.lg_views.specs.Reads.{account_of, accounts_at, is_account_at, is_dated_to, is_moved_by}
use Rattle.lg_shard.proofs.AccountLemmas.{bytes_same, bytes_itself}
use Rattle.lg_addresses.proofs.Firsts.{or_cases}
use Rattle.lg_addresses.proofs.Listed.{in_order-members, sorted}
use Rattle.lg_addresses.proofs.Sorted.{same_sorted}

or_first : (a b : Bool) → a ≡ true → (a || b) ≡ true
or_first true b h = refl
or_first false b h = absurd (let no : false ≡ true = h in cc)

or_second : (a b : Bool) → b ≡ true → (a || b) ≡ true
or_second true b h = refl
or_second false b h = h

turned : (x y : List ℕ) → bytes_eq x y ≡ true → bytes_eq y x ≡ true
turned x y h = subst (λ (z : List ℕ). bytes_eq z x ≡ true) (bytes_same x y h) (bytes_itself x)

either_way : (x y : List ℕ) → bytes_eq x y ≡ bytes_eq y x
either_way x y = both_ways (bytes_eq x y) (bytes_eq y x) (turned x y) (turned y x)

any_turned : (name : List ℕ) (xs : List (List ℕ)) → list_any (bytes_eq name) xs ≡ list_any (is_account name) xs
any_turned name [] = refl
any_turned name (x ∷ xs) = ap₂ (λ (a b : Bool). a || b) (either_way name x) (any_turned name xs)

-- ---- whoever moves or is named at a date is named

module _ (name : List ℕ) where
  abbrev has : List (List ℕ) → Bool
  has xs = list_any (is_account name) xs

  has-kept : {X : Type 0} (own : X → List (List ℕ)) (test : X → Bool) (xs : List X) → has (flat_map own (filter test xs)) ≡ true → has (flat_map own xs) ≡ true
  has-kept own test [] h = h
  has-kept own test (x ∷ xs) h = by_test (test x) refl (has-kept own test xs)
    where
      by_test : (b : Bool) → test x ≡ b → (has (flat_map own (filter test xs)) ≡ true → has (flat_map own xs) ≡ true) → has (own x ++ flat_map own xs) ≡ true
      by_test true is rest =
          list_any-append (is_account name) (own x) (flat_map own xs)
          ∙ or_cases (has (own x)) (has (flat_map own (filter test xs)))
          (sym (list_any-append (is_account name) (own x) (flat_map own (filter test xs))) ∙ sym (ap (λ (b : Bool). has (flat_map own (cond b (x ∷ filter test xs) (filter test xs)))) is) ∙ h)
          (λ here. or_first (has (own x)) (has (flat_map own xs)) here)
          (λ there. or_second (has (own x)) (has (flat_map own xs)) (rest there))
      by_test false is rest =
          list_any-append (is_account name) (own x) (flat_map own xs)
          ∙ or_second (has (own x)) (has (flat_map own xs)) (rest (sym (ap (λ (b : Bool). has (flat_map own (cond b (x ∷ filter test xs) (filter test xs)))) is) ∙ h))

  postings-moved : (id : ℕ) (date effective : ℤ) (ps : List Posting) → has (map account_of (flat_map (posting_moves id date effective) ps)) ≡ has (flat_map posting_accounts ps)
  postings-moved id date effective [] = refl
  postings-moved id date effective (p ∷ ps) = ap (λ (b : Bool). bytes_eq p.source name || (bytes_eq p.destination name || b)) (postings-moved id date effective ps)

  transaction-moved : (date : ℤ) (o : Option Transaction) → has (map account_of (transaction_moves date o)) ≡ has (transaction_accounts o)
  transaction-moved date None = refl
  transaction-moved date (Some t) = postings-moved t.id date t.timestamp t.postings

  map_append : (xs ys : List Placed) → has (map account_of (xs ++ ys)) ≡ (has (map account_of xs) || has (map account_of ys))
  map_append [] ys = refl
  map_append (x ∷ xs) ys = ap (λ (b : Bool). bytes_eq x.account name || b) (map_append xs ys) ∙ joined (bytes_eq x.account name) (has (map account_of xs)) (has (map account_of ys))
    where
      joined : (a b c : Bool) → (a || (b || c)) ≡ ((a || b) || c)
      joined true b c = refl
      joined false b c = refl

  moved_named : (g : List Entry) → has (map account_of (moves g)) ≡ true → has (accounts g) ≡ true
  moved_named [] h = h
  moved_named (e ∷ g) h = onward (moved_named g)
    where
      onward : (has (map account_of (moves g)) ≡ true → has (accounts g) ≡ true) → has (accounts (e ∷ g)) ≡ true
      onward rest =
          list_any-append (is_account name) (entry_accounts e) (accounts g)
          ∙ or_cases (has (map account_of (entry_moves e))) (has (map account_of (moves g))) (sym (map_append (entry_moves e) (moves g)) ∙ h)
          (λ here. or_first (has (entry_accounts e)) (has (accounts g))
          (list_any-append (is_account name) (transaction_accounts (body_transaction e.body)) (own_accounts e.body)
          ∙ or_first (has (transaction_accounts (body_transaction e.body))) (has (own_accounts e.body)) (sym (transaction-moved e.date (body_transaction e.body)) ∙ here)))
          (λ there. or_second (has (entry_accounts e)) (has (accounts g)) (rest there))

  has-map_kept : (test : Placed → Bool) (ms : List Placed) → has (map account_of (filter test ms)) ≡ true → has (map account_of ms) ≡ true
  has-map_kept test [] h = h
  has-map_kept test (m ∷ ms) h = by_test (test m) refl (has-map_kept test ms)
    where
      by_test : (b : Bool) → test m ≡ b → (has (map account_of (filter test ms)) ≡ true → has (map account_of ms) ≡ true) → (bytes_eq m.account name || has (map account_of ms)) ≡ true
      by_test true is rest =
          or_cases (bytes_eq m.account name) (has (map account_of (filter test ms))) (sym (ap (λ (b : Bool). has (map account_of (cond b (m ∷ filter test ms) (filter test ms)))) is) ∙ h)
          (λ here. or_first (bytes_eq m.account name) (has (map account_of ms)) here)
          (λ there. or_second (bytes_eq m.account name) (has (map account_of ms)) (rest there))
      by_test false is rest = or_second (bytes_eq m.account name) (has (map account_of ms)) (rest (sym (ap (λ (b : Bool). has (map account_of (cond b (m ∷ filter test ms) (filter test ms)))) is) ∙ h))

  there_named : (g : List Entry) (pit : Option ℤ) → has (accounts_at g pit) ≡ true → has (accounts g) ≡ true
  there_named g pit h =
      or_cases (has (accounts (filter (is_dated_to pit) g))) (has (map account_of (filter (is_moved_by pit) (moves g))))
      (sym (list_any-append (is_account name) (accounts (filter (is_dated_to pit) g)) (map account_of (filter (is_moved_by pit) (moves g)))) ∙ h)
      (has-kept entry_accounts (is_dated_to pit) g)
      (λ moved. moved_named g (has-map_kept (is_moved_by pit) (moves g) moved))

both : (a b : Bool) → (a ≡ true → b ≡ true) → a ≡ (a && b)
both true b h = sym (h refl)
both false b h = refl

pub at_a_date : (g : List Entry) (pit : Option ℤ) → in_byte_order (accounts_at g pit) ≡ filter (is_account_at g pit) (in_byte_order (accounts g))
at_a_date g pit =
    same_sorted (in_byte_order (accounts_at g pit)) (filter (is_account_at g pit) (in_byte_order (accounts g)))
    (sorted (with_names empty (accounts_at g pit)))
    (IsStrictlySortedBy-filter name_order (is_account_at g pit) (in_byte_order (accounts g)) (sorted (with_names empty (accounts g))))
    (λ name.
    in_order-members (accounts_at g pit) name
    ∙ both (list_any (is_account name) (accounts_at g pit)) (list_any (is_account name) (accounts g)) (there_named name g pit)
    ∙ ap₂ (λ (a b : Bool). a && b) (sym (any_turned name (accounts_at g pit))) (sym (in_order-members (accounts g) name))
    ∙ sym (any-filter_same (is_account name) (is_account_at g pit) (is_account_at g pit name) (λ x h. ap (is_account_at g pit) (bytes_same x name h)) (in_byte_order (accounts g))))
