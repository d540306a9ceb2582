-- The accounts that shares name are those that have a move or a change.
use Rattle.std.proofs.Common.{◌≡◌, ℕ, ℤ, Bool, true, false, cond, ◌&&◌, ◌||◌, List, [], ◌∷◌, ◌++◌, map, Option, Some, None, refl, sym, ap, ap₂, ◌∙◌}
use Rattle.std.specs.List.{flat_map, filter, list_any}
use Rattle.std.specs.Str.{bytes_eq}
use Rattle.std.proofs.lemmas.List.Folds.{list_any-append}
use Rattle.lg_containers.specs.NameTable as table
use Rattle.lg_types.specs.declared.records.Entry.{Entry}
use Rattle.lg_types.specs.declared.records.EntryBody.{EntryBody}
use Rattle.lg_types.specs.declared.records.EntryBody.TheVariants.{NewTransaction, SetMetadata, Reverted, DeleteMetadata}
use Rattle.lg_types.specs.declared.records.Event.{Event}
use Rattle.lg_types.specs.declared.records.Event.TheVariants.{Made, Logged}
use Rattle.lg_types.specs.declared.records.Posting.{Posting}
use Rattle.lg_types.specs.declared.records.Target.TheVariants.{Account, Transaction as TransactionOf}
use Rattle.lg_types.specs.declared.records.Transaction.{Transaction}
use Rattle.lg_types.specs.Changes.{MetaOf, account_change, body_changes, entry_changes, is_about}
use Rattle.lg_types.specs.Known.{posting_accounts, transaction_accounts, own_accounts, entry_accounts}
use Rattle.lg_types.specs.Moves.{posting_moves, transaction_moves, body_transaction, entry_moves}
use Rattle.lg_types.specs.PartLaws.{is_account}
use Rattle.lg_types.specs.Parts.{Share, share, shares_of, touches, has_account, has_move, has_change, part_moves, part_changes, part_accounts, share_moves, share_changes, share_accounts}
use Rattle.lg_types.proofs.StripeKnows.{filter-none}
use Rattle.lg_shard.specs.Holdings.{own_moves, own_changes}
use Rattle.lg_shard.specs.State.{PlacedEvent, placed_shares, all_shares}
use Rattle.lg_shard.proofs.NamedLemmas.{of_account}
use Rattle.lg_shard.proofs.QuietLemmas.{one_share, more_shares, quiet_accounts, quiet_moves, quiet_changes}

any_step : {X : Type 0} (p : X → Bool) (b : Bool) (x : X) (xs : List X) → list_any p (cond b (x ∷ xs) xs) ≡ ((b && p x) || list_any p xs)
any_step p true x xs = refl
any_step p false x xs = refl

any-filter : {X : Type 0} (p q : X → Bool) (xs : List X) → list_any p (filter q xs) ≡ list_any (λ x. q x && p x) xs
any-filter p q [] = refl
any-filter p q (x ∷ xs) = any_step p (q x) x (filter q xs) ∙ ap (λ b. (q x && p x) || b) (any-filter p q xs)

-- ---- one entry

module _ (s : ℕ) (ledger a : List ℕ) where
  postings-named : (id : ℕ) (inserted effective : ℤ) (ps : List Posting)
      → list_any (λ n. has_account s ledger n && is_account a n) (flat_map posting_accounts ps) ≡ list_any (λ m. has_move s ledger m && of_account a m) (flat_map (posting_moves id inserted effective) ps)
  postings-named id inserted effective [] = refl
  postings-named id inserted effective (p ∷ ps) =
      ap (λ b. (has_account s ledger p.source && is_account a p.source) || ((has_account s ledger p.destination && is_account a p.destination) || b)) (postings-named id inserted effective ps)

  transaction-named : (inserted : ℤ) (o : Option Transaction) → list_any (λ n. has_account s ledger n && is_account a n) (transaction_accounts o) ≡ list_any (λ m. has_move s ledger m && of_account a m) (transaction_moves inserted o)
  transaction-named inserted None = refl
  transaction-named inserted (Some t) = postings-named t.id inserted t.timestamp t.postings

  given-named : (date : ℤ) (given : List (List ℕ × MetaOf)) → list_any (λ n. has_account s ledger n && is_account a n) (map (λ p. p.0) given) ≡ list_any (λ c. has_change s ledger c && is_about (Account a) c) (map (account_change date) given)
  given-named date [] = refl
  given-named date (p ∷ ps) = ap (λ b. (has_account s ledger p.0 && is_account a p.0) || b) (given-named date ps)

  body-named : (date : ℤ) (body : EntryBody) → list_any (λ n. has_account s ledger n && is_account a n) (own_accounts body) ≡ list_any (λ c. has_change s ledger c && is_about (Account a) c) (body_changes date body)
  body-named date (NewTransaction t given) = ap (list_any (λ n. has_account s ledger n && is_account a n)) (table.keys-pairs given) ∙ given-named date (table.pairs_of given)
  body-named date (SetMetadata (Account name) metadata) = refl
  body-named date (SetMetadata (TransactionOf id) metadata) = refl
  body-named date (Reverted id t) = refl
  body-named date (DeleteMetadata (Account name) x) = refl
  body-named date (DeleteMetadata (TransactionOf id) x) = refl

  entry-named : (e : Entry) → list_any (is_account a) (filter (has_account s ledger) (entry_accounts e)) ≡ (list_any (of_account a) (own_moves s ledger e) || list_any (is_about (Account a)) (own_changes s ledger e))
  entry-named e =
      any-filter (is_account a) (has_account s ledger) (entry_accounts e)
      ∙ list_any-append (λ n. has_account s ledger n && is_account a n) (transaction_accounts (body_transaction e.body)) (own_accounts e.body)
      ∙ ap₂ (λ x y. x || y)
      (transaction-named e.date (body_transaction e.body) ∙ sym (any-filter (of_account a) (has_move s ledger) (entry_moves e)))
      (body-named e.date e.body ∙ sym (any-filter (is_about (Account a)) (has_change s ledger) (entry_changes e)))

-- ---- all shares

or_both : (a b c d : Bool) → ((a || b) || (c || d)) ≡ ((a || c) || (b || d))
or_both true b c d = refl
or_both false true true d = refl
or_both false true false d = refl
or_both false false c d = refl

module _ (q a : List ℕ) where
  IsNamed : List Share → Type 0
  IsNamed shares = list_any (is_account a) (part_accounts q shares) ≡ (list_any (of_account a) (part_moves q shares) || list_any (is_about (Account a)) (part_changes q shares))

  named-joined : (xs ys : List Share) → IsNamed xs → IsNamed ys → IsNamed (xs ++ ys)
  unfolding IsNamed
  named-joined xs ys h k =
      ap (list_any (is_account a)) (more_shares share_accounts q xs ys)
      ∙ list_any-append (is_account a) (part_accounts q xs) (part_accounts q ys)
      ∙ ap₂ (λ x y. x || y) h k
      ∙ or_both (list_any (of_account a) (part_moves q xs)) (list_any (is_about (Account a)) (part_changes q xs)) (list_any (of_account a) (part_moves q ys)) (list_any (is_about (Account a)) (part_changes q ys))
      ∙ sym (ap₂ (λ x y. x || y)
      (ap (list_any (of_account a)) (more_shares share_moves q xs ys) ∙ list_any-append (of_account a) (part_moves q xs) (part_moves q ys))
      (ap (list_any (is_about (Account a))) (more_shares share_changes q xs ys) ∙ list_any-append (is_about (Account a)) (part_changes q xs) (part_changes q ys)))

  named-one : (s : ℕ) (ledger : List ℕ) (e : Entry) (b : Bool) → list_any (is_account a) (cond b (filter (has_account s ledger) (entry_accounts e)) []) ≡ (list_any (of_account a) (cond b (own_moves s ledger e) []) || list_any (is_about (Account a)) (cond b (own_changes s ledger e) []))
  named-one s ledger e true = entry-named s ledger a e
  named-one s ledger e false = refl

  named-event : (s place : ℕ) (event : Event) → IsNamed (shares_of s place event)
  unfolding IsNamed
  named-event s place (Made info) = refl
  named-event s place (Logged ledger e) =
      let one : Share = share s place ledger e in let touched : Bool = touches s (Logged ledger e) in
      ap (list_any (is_account a)) (one_share share_accounts q one (filter (has_account s ledger) (entry_accounts e)) touched (bytes_eq ledger q) refl (λ h. filter-none (has_account s ledger) (entry_accounts e) (quiet_accounts s ledger e h)) refl)
      ∙ named-one s ledger e (bytes_eq ledger q)
      ∙ sym (ap₂ (λ x y. x || y)
      (ap (list_any (of_account a)) (one_share share_moves q one (own_moves s ledger e) touched (bytes_eq ledger q) refl (quiet_moves s ledger e) refl))
      (ap (list_any (is_about (Account a))) (one_share share_changes q one (own_changes s ledger e) touched (bytes_eq ledger q) refl (quiet_changes s ledger e) refl)))

  named_all : (s : ℕ) (ps : List PlacedEvent) → IsNamed (all_shares s ps)
  unfolding IsNamed
  named_all s [] = refl
  named_all s (p ∷ ps) = named-joined (placed_shares s p) (all_shares s ps) (named-event s p.place p.event) (named_all s ps)

  -- the accounts that the shares of events name
  pub known-all : (s : ℕ) (ps : List PlacedEvent) → list_any (is_account a) (part_accounts q (all_shares s ps)) ≡ (list_any (of_account a) (part_moves q (all_shares s ps)) || list_any (is_about (Account a)) (part_changes q (all_shares s ps)))
  unfolding IsNamed
  known-all s ps = named_all s ps
