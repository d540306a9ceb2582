-- What a book is asked.
use Rattle.std.specs.Prelude.{ℕ, ℤ, Bool, if◌then◌else◌, nat_eq, List, length, Option, Some, None}
use Rattle.std.specs.Option.{option_map}
use Rattle.std.specs.List.{find}
use Rattle.lg_types.specs.declared.records.Entry.{Entry}
use Rattle.lg_types.specs.declared.records.Event.{Event}
use Rattle.lg_types.specs.declared.records.LedgerInfo.{LedgerInfo}
use Rattle.lg_types.specs.declared.records.Transaction.{Transaction}
use Rattle.lg_types.specs.Known.{Dated, Undoing, transactions, find_transaction, undone}
use Rattle.lg_types.specs.Log.{log, is_there, ledgers}
use Rattle.lg_views.specs.Outcome.{is_named}

-- the record of a ledger, as it was made
abbrev pub ledger_of : List Event → List ℕ → Option LedgerInfo
ledger_of events ledger = find (is_named ledger) (ledgers events)

abbrev pub if_there : {A : Type 0} → List Event → List ℕ → A → Option A
if_there events ledger value = if is_there events ledger then Some value else None

-- how many entries and how many transactions a ledger has, where it is there
abbrev pub count_entries : List Event → List ℕ → Option ℕ
count_entries events ledger = if_there events ledger (length (log events ledger))

abbrev pub count_transactions : List Event → List ℕ → Option ℕ
count_transactions events ledger = if_there events ledger (length (transactions (log events ledger)))

-- the entry of the id
abbrev pub is_numbered : ℕ → Entry → Bool
is_numbered id e = nat_eq e.id id

abbrev pub find_entry : List Entry → ℕ → Option Entry
find_entry g id = find (is_numbered id) g

-- the transaction of the id, and the date of its entry
abbrev pub transaction_of : Dated → Transaction
transaction_of d = d.transaction

abbrev pub date_of : Dated → ℤ
date_of d = d.date

abbrev pub transaction_at : List Entry → ℕ → Option Transaction
transaction_at g id = option_map transaction_of (find_transaction g id)

abbrev pub inserted_at : List Entry → ℕ → Option ℤ
inserted_at g id = option_map date_of (find_transaction g id)

-- the transaction that reverts the transaction of the id
abbrev pub reverting_of : Undoing → ℕ
reverting_of u = u.by

abbrev pub reverted_by : List Entry → ℕ → Option ℕ
reverted_by g id = option_map reverting_of (undone g id)
