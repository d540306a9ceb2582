-- The resources of a new entry are those that its write needs.
use Rattle.std.proofs.Common.{◌≡◌, ℕ, ℤ, Bool, true, false, ◌||◌, List, [], ◌∷◌, ◌++◌, map, reverse, Option, Some, None, refl, sym, ap, ap₂, ◌∙◌}
use mathlib.Core.List.{reverse_aux}
use Rattle.std.specs.Option.{option_map, option_to_list}
use Rattle.std.specs.List.{list_any, flat_map}
use Rattle.std.proofs.lemmas.List.{append-nil}
use Rattle.std.proofs.lemmas.List.Folds.{list_any-append}
use Rattle.lg_types.specs.declared.calls.Write.{Write}
use Rattle.lg_types.specs.declared.calls.Write.TheVariants.{Create, Revert, SetMeta, DropMeta}
use Rattle.lg_types.specs.declared.records.Entry.{Entry}
use Rattle.lg_types.specs.declared.records.EntryBody.{EntryBody}
use Rattle.lg_types.specs.declared.records.EntryBody.TheVariants.{SetMetadata, DeleteMetadata}
use Rattle.lg_types.specs.declared.records.Event.TheVariants.{Logged}
use Rattle.lg_types.specs.declared.records.Posting.{Posting}
use Rattle.lg_types.specs.declared.records.Target.TheVariants.{Account, Transaction as TransactionOf}
use Rattle.lg_types.specs.Known.{Dated, Undoing, posting_accounts, entry_accounts, find_transaction, undone, referred_by}
use Rattle.lg_types.specs.Lists.{or_else}
use Rattle.lg_types.specs.Parts.{Resource, account_resource, key_resource, reference_resource, resources, is_in, touches}
use Rattle.lg_types.specs.Trial.{trial, revert_trial, exchanged, reverting}
use Rattle.lg_views.specs.Writes.{decided, granted_unless, is_used, marked, new_entry, revert_decided, revert_body, if_transaction}
use Rattle.lg_views.proofs.Granted.{IfGranted, if_granted_unless}
use Rattle.lg_weigh.specs.Reach.{named_key, named_reference, write_accounts, write_reference, write_resources}
use Rattle.lg_decide.specs.Decisions.{known_in}
use Rattle.lg_decide.specs.Looking.{transaction_in}

key_resources : (key : Option (List ℕ)) (write : Write) → map key_resource (option_to_list (marked key write)) ≡ map named_key (option_to_list key)
key_resources None write = refl
key_resources (Some key) write = refl

reference_resources : (id : ℕ) (reference : Option (List ℕ)) → map reference_resource (map (referred_by id) (option_to_list reference)) ≡ map named_reference (option_to_list reference)
reference_resources id None = refl
reference_resources id (Some reference) = refl

-- ---- the accounts of a revert

shuffled : (a d s h : Bool) → (a || (d || (s || h))) ≡ ((s || (d || a)) || h)
shuffled true true true h = refl
shuffled true true false h = refl
shuffled true false true h = refl
shuffled true false false h = refl
shuffled false true true h = refl
shuffled false true false h = refl
shuffled false false true h = refl
shuffled false false false h = refl

module _ (q : Resource → Bool) where
  abbrev any_of : List Posting → Bool
  any_of ps = list_any q (map account_resource (flat_map posting_accounts ps))

  any-onto : (xs ys : List Posting) → any_of (map exchanged (reverse_aux xs ys)) ≡ (any_of xs || any_of (map exchanged ys))
  any-onto [] ys = refl
  any-onto (x ∷ xs) ys =
      any-onto xs (x ∷ ys)
      ∙ shuffled (any_of xs) (q (account_resource x.destination)) (q (account_resource x.source)) (any_of (map exchanged ys))

  or_false : (b : Bool) → (b || false) ≡ b
  or_false true = refl
  or_false false = refl

  any-reverting : (ps : List Posting) → any_of (reverting ps) ≡ any_of ps
  any-reverting ps = any-onto ps [] ∙ or_false (any_of ps)

-- ---- what a ledger grants

module _ (g : List Entry) (date : ℤ) (ledger : List ℕ) (key : Option (List ℕ)) where
  -- the entry of a body has the resources that the write needs
  abbrev pub NeedsAlike : Write → EntryBody → Type 0
  NeedsAlike write body = (k : ℕ) → touches k (Logged ledger (new_entry g date (marked key write) body)) ≡ list_any (is_in k ledger) (write_resources key write (known_in g write))

  revert-needs : (id : ℕ) (force at_effective_date : Bool) (o : Option Dated) (u : Option Undoing) → find_transaction g id ≡ o → undone g id ≡ u
      → IfGranted (NeedsAlike (Revert id force at_effective_date)) (revert_decided g date id force at_effective_date o u)
  revert-needs id force at_effective_date None u e f = tt
  revert-needs id force at_effective_date (Some d) (Some v) e f = tt
  revert-needs id force at_effective_date (Some d) None e f =
      if_granted_unless (NeedsAlike (Revert id force at_effective_date)) (revert_trial g (reverting d.transaction.postings) force) (revert_body g date id at_effective_date d) (λ none k.
      let rest : List Resource = map key_resource (option_to_list (marked key (Revert id force at_effective_date))) ++ [] in
      ap (λ names. list_any (is_in k ledger) (map account_resource names ++ rest)) (append-nil (flat_map posting_accounts (reverting d.transaction.postings)))
      ∙ list_any-append (is_in k ledger) (map account_resource (flat_map posting_accounts (reverting d.transaction.postings))) rest
      ∙ ap (λ b. b || list_any (is_in k ledger) rest) (any-reverting (is_in k ledger) d.transaction.postings)
      ∙ sym (list_any-append (is_in k ledger) (map account_resource (flat_map posting_accounts d.transaction.postings)) rest)
      ∙ ap (λ names. list_any (is_in k ledger) (map account_resource (flat_map posting_accounts d.transaction.postings) ++ (names ++ []))) (key_resources key (Revert id force at_effective_date))
      ∙ ap (λ o. list_any (is_in k ledger) (write_resources key (Revert id force at_effective_date) (option_map transaction_in o))) (sym e))

  plain-needs : (write : Write) (accounts : List (List ℕ)) (k : ℕ) → list_any (is_in k ledger) (map account_resource accounts ++ (map key_resource (option_to_list (marked key write)) ++ []))
      ≡ list_any (is_in k ledger) (map account_resource accounts ++ (map named_key (option_to_list key) ++ []))
  plain-needs write accounts k = ap (λ names. list_any (is_in k ledger) (map account_resource accounts ++ (names ++ []))) (key_resources key write)

  target-needs : (write : Write) (id : ℕ) (o : Option Dated) (body : EntryBody) → NeedsAlike write body → IfGranted (NeedsAlike write) (if_transaction id o body)
  target-needs write id None body h = tt
  target-needs write id (Some d) body h = h

  pub granted-needs : (write : Write) → IfGranted (NeedsAlike write) (decided g date write)
  granted-needs (Create postings reference timestamp metadata accounts force) =
      if_granted_unless (NeedsAlike (Create postings reference timestamp metadata accounts force)) (or_else (trial g postings force) (is_used g reference)) _ (λ none k.
      ap₂ (λ names others. list_any (is_in k ledger) (map account_resource (write_accounts (Create postings reference timestamp metadata accounts force) None) ++ (names ++ others)))
      (key_resources key (Create postings reference timestamp metadata accounts force)) (reference_resources _ reference))
  granted-needs (Revert id force at_effective_date) = revert-needs id force at_effective_date (find_transaction g id) (undone g id) refl refl
  granted-needs (SetMeta (Account address) metadata) = λ k. plain-needs (SetMeta (Account address) metadata) (address ∷ []) k
  granted-needs (SetMeta (TransactionOf id) metadata) =
      target-needs (SetMeta (TransactionOf id) metadata) id (find_transaction g id) (SetMetadata (TransactionOf id) metadata) (λ k. plain-needs (SetMeta (TransactionOf id) metadata) [] k)
  granted-needs (DropMeta (Account address) name) = λ k. plain-needs (DropMeta (Account address) name) (address ∷ []) k
  granted-needs (DropMeta (TransactionOf id) name) =
      target-needs (DropMeta (TransactionOf id) name) id (find_transaction g id) (DeleteMetadata (TransactionOf id) name) (λ k. plain-needs (DropMeta (TransactionOf id) name) [] k)
