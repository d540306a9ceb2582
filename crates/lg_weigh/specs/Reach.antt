-- The resources that a call needs: those whose stripes it takes.
use Rattle.std.specs.Prelude.{ℕ, Bool, false, nat_lt, List, [], ◌∷◌, ◌++◌, map, Option, None}
use Rattle.std.specs.List.{flat_map, list_any}
use Rattle.std.specs.Option.{option_to_list}
use Rattle.lg_containers.specs.NameTable as table
use Rattle.lg_containers.specs.NameTable.{NameTable}
use Rattle.lg_types.specs.declared.calls.Call.{Call}
use Rattle.lg_types.specs.declared.calls.Call.TheVariants as call
use Rattle.lg_types.specs.declared.calls.Write.{Write}
use Rattle.lg_types.specs.declared.calls.Write.TheVariants.{Create, Revert, SetMeta, DropMeta}
use Rattle.lg_types.specs.declared.classes.Class.TheVariants.{Key as KeyClass, Reference as ReferenceClass}
use Rattle.lg_types.specs.declared.queries.Read.{Read}
use Rattle.lg_types.specs.declared.queries.Read.TheVariants as read
use Rattle.lg_types.specs.declared.records.Transaction.{Transaction}
use Rattle.lg_types.specs.Known.{posting_accounts, target_accounts, transaction_accounts}
use Rattle.lg_types.specs.Parts.{Resource, account_resource, is_in}

-- the resources of one ledger, or all sixteen stripes
pub data Reach : Type 0 where
  Nothing : Reach
  Resources : (ledger : List ℕ) (resources : List Resource) → Reach
  Everything : Reach

abbrev pub named_key : List ℕ → Resource
named_key name = record { class = KeyClass; name = name }

abbrev pub named_reference : List ℕ → Resource
named_reference name = record { class = ReferenceClass; name = name }

-- the accounts that a write names; of a revert those of the transaction that it reverts
abbrev pub write_accounts : Write → Option Transaction → List (List ℕ)
write_accounts (Create postings reference timestamp metadata accounts force) known = flat_map posting_accounts postings ++ table.keys accounts
write_accounts (Revert id force at_effective_date) known = transaction_accounts known
write_accounts (SetMeta target metadata) known = target_accounts target
write_accounts (DropMeta target name) known = target_accounts target

abbrev pub write_reference : Write → Option (List ℕ)
write_reference (Create postings reference timestamp metadata accounts force) = reference
write_reference (Revert id force at_effective_date) = None
write_reference (SetMeta target metadata) = None
write_reference (DropMeta target name) = None

-- the accounts, the key and the reference of a write
abbrev pub write_resources : Option (List ℕ) → Write → Option Transaction → List Resource
write_resources key write known =
    map account_resource (write_accounts write known) ++ (map named_key (option_to_list key) ++ map named_reference (option_to_list (write_reference write)))

abbrev pub read_reach : List ℕ → Read → Option Transaction → Reach
read_reach ledger read.Ledger known = Nothing
read_reach ledger (read.Account address pit expand) known = Resources ledger (account_resource address ∷ [])
read_reach ledger (read.Transaction id expand pit) known = Resources ledger (map account_resource (transaction_accounts known))
read_reach ledger (read.Accounts query) known = Everything
read_reach ledger (read.Transactions query) known = Everything
read_reach ledger (read.Logs query) known = Everything
read_reach ledger (read.Volumes query) known = Everything
read_reach ledger (read.Aggregate filter pit by_insertion) known = Everything
read_reach ledger read.Stats known = Everything
read_reach ledger read.Export known = Nothing

-- what a call needs, where `known` is the transaction of the id that a revert or a read names
abbrev pub reach : Call → Option Transaction → Reach
reach (call.Unreadable refusal) known = Nothing
reach (call.MakeLedger ledger bucket metadata) known = Nothing
reach (call.Write ledger key write) known = Resources ledger (write_resources key write known)
reach (call.Bulk ledger elements atomic go_on) known = Everything
reach (call.Import ledger batch) known = Everything
reach (call.Ledgers query) known = Nothing
reach (call.Read ledger read) known = read_reach ledger read known

-- whether a stripe has a resource that is needed
abbrev pub has_reach : ℕ → Reach → Bool
has_reach k Nothing = false
has_reach k (Resources ledger resources) = list_any (is_in k ledger) resources
has_reach k Everything = nat_lt k 16

abbrev pub needs : Call → Option Transaction → ℕ → Bool
needs call known k = has_reach k (reach call known)

abbrev pub first_of : List ℕ × NameTable (List ℕ) → List ℕ
first_of pair = pair.0
