-- Whether a stripe has some of the accounts, the keys and the references of a ledger.
use Rattle.std.specs.Prelude.{ℕ, Bool, ◌++◌, List, map}
use Rattle.std.specs.List.{list_any}
use Rattle.lg_types.specs.declared.records.EntryBody.{EntryBody}
use Rattle.lg_types.specs.declared.records.KeyMark.{KeyMark}
use Rattle.lg_types.specs.Known.{Referred, transaction_accounts, own_accounts, transaction_references}
use Rattle.lg_types.specs.Moves.{body_transaction}
use Rattle.lg_types.specs.Changes.{MetaOf}
use Rattle.lg_types.specs.Parts.{account_resource, key_resource, reference_resource, is_in}

abbrev pub has_accounts : ℕ → List ℕ → List (List ℕ) → Bool
has_accounts k ledger names = list_any (is_in k ledger) (map account_resource names)

abbrev pub has_keys : ℕ → List ℕ → List KeyMark → Bool
has_keys k ledger keys = list_any (is_in k ledger) (map key_resource keys)

abbrev pub has_references : ℕ → List ℕ → List Referred → Bool
has_references k ledger references = list_any (is_in k ledger) (map reference_resource references)

-- the accounts that a body names, and the references of its transaction
abbrev pub body_accounts : EntryBody → List (List ℕ)
body_accounts body = transaction_accounts (body_transaction body) ++ own_accounts body

abbrev pub body_references : EntryBody → List Referred
body_references body = transaction_references (body_transaction body)

abbrev pub first_of : List ℕ × MetaOf → List ℕ
first_of pair = pair.0
