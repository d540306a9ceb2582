-- What is looked up and tried of a ledger's log for a write.
use Rattle.std.specs.Prelude.{◌≡◌, ℕ, List, Option, Some, None, length}
use Rattle.std.specs.Option.{option_map, option_copied, option_and_then}
use Rattle.lg_types.specs.declared.calls.Write.{Write}
use Rattle.lg_types.specs.declared.calls.Write.TheVariants.{Create, Revert, SetMeta, DropMeta}
use Rattle.lg_types.specs.declared.records.Entry.{Entry}
use Rattle.lg_types.specs.declared.records.Target.{Target}
use Rattle.lg_types.specs.declared.records.Target.TheVariants.{Account, Transaction as TransactionOf}
use Rattle.lg_types.specs.declared.records.Transaction.{Transaction}
use Rattle.lg_types.specs.declared.refusals.Refusal.{Refusal}
use Rattle.lg_types.specs.Known.{Dated, Undoing, find_transaction, undone, transactions, used}
use Rattle.lg_decide.specs.declared.looked.Looked.{Looked}
use Rattle.lg_weigh.specs.Reach.{write_reference}
use Rattle.lg_weigh.specs.Trials.{write_trial}

abbrev pub transaction_in : Dated → Transaction
transaction_in d = d.transaction

abbrev pub undone_by : Undoing → ℕ
undone_by u = u.by

abbrev pub target_id : Target → Option ℕ
target_id (Account address) = None
target_id (TransactionOf id) = Some id

-- the id of the transaction that a write names
abbrev pub named_id : Write → Option ℕ
named_id (Create postings reference timestamp metadata accounts force) = None
named_id (Revert id force at_effective_date) = Some id
named_id (SetMeta target metadata) = target_id target
named_id (DropMeta target name) = target_id target

abbrev pub transaction_at : List Entry → ℕ → Option Transaction
transaction_at g id = option_map transaction_in (find_transaction g id)

abbrev pub reverted_by : List Entry → ℕ → Option ℕ
reverted_by g id = option_map undone_by (undone g id)

-- what was looked up and tried is what the log says
pub record Shows (g : List Entry) (write : Write) (looked : Looked) (tried : Option Refusal) : Type 0 where
  pub count : looked.transactions ≡ length (transactions g)
  pub known : option_copied looked.transaction ≡ option_and_then (transaction_at g) (named_id write)
  pub reverted : looked.reverted_by ≡ option_and_then (reverted_by g) (named_id write)
  pub referred : looked.used ≡ option_and_then (used g) (write_reference write)
  pub refused : tried ≡ write_trial g write (option_copied looked.transaction)

-- the id of a target transaction that was looked up and not found
abbrev pub missing_id : Target → Option Transaction → Option ℕ
missing_id (Account address) found = None
missing_id (TransactionOf id) None = Some id
missing_id (TransactionOf id) (Some t) = None
