-- How what a book keeps stands for its events.
--     places_of f k items          the places, counted from k, of what `f` makes of the items
--     by_id items id               the item of the id; ids count from 1
--     changed_at change k items    the items with the one at the place k changed
--     LedgerPart                   what a ledger is in the events: where it was made, where its entries and its transactions
--                                  stand, and the parts of its log that were added and that are prepared
--     LedgerView                   what is kept of a ledger
--     IsIndex, IsBook              that it stands for the ledger, and that all of it stands for the events
use Rattle.std.specs.Prelude.{◌≡◌, ℕ, zero, suc, ◌+◌, ◌-◌, ◌<◌, ◌≤◌, ℤ, ◌≤ℤ◌, Bool, true, false, if◌then◌else◌, List, [], ◌∷◌, ◌++◌, map, take, drop, length, slice_get, IsSome, IfSome, Option, Some, None}
use Rattle.std.specs.Option.{option_map}
use Rattle.std.specs.List.{flat_map}
use Rattle.std.specs.Str.{bytes_eq}
use Rattle.lg_containers.specs.NameTable.{NameTable, get, insert}
use Rattle.lg_meta.specs.History.{History, first_applied}
use Rattle.lg_meta.specs.Index.{changes_of}
use Rattle.lg_meta.specs.MetaFold.{changes_about, last_date}
use Rattle.lg_types.specs.declared.changes.MetaChange.{MetaChange}
use Rattle.lg_types.specs.declared.changes.MetaChange.TheVariants.{Set, Drop}
use Rattle.lg_types.specs.declared.records.Entry.{Entry}
use Rattle.lg_types.specs.declared.records.EntryBody.{EntryBody}
use Rattle.lg_types.specs.declared.records.EntryBody.TheVariants.{NewTransaction, SetMetadata, Reverted, DeleteMetadata}
use Rattle.lg_types.specs.declared.records.Event.{Event}
use Rattle.lg_types.specs.declared.records.Event.TheVariants.{Made, Logged}
use Rattle.lg_types.specs.declared.records.LedgerInfo.{LedgerInfo}
use Rattle.lg_types.specs.declared.records.Target.{Target}
use Rattle.lg_types.specs.declared.records.Target.TheVariants.{Account, Transaction as TransactionOf}
use Rattle.lg_types.specs.declared.records.Transaction.{Transaction}
use Rattle.lg_types.specs.Known.{Dated, transactions, entry_transactions}
use Rattle.lg_types.specs.Log.{log, logged, is_there}
use Rattle.lg_types.specs.Moves.{body_transaction}
use Rattle.lg_book.specs.declared.records.EntryRecord.{EntryRecord}
use Rattle.lg_book.specs.declared.records.TransactionRecord.{TransactionRecord}
use Rattle.lg_book.specs.declared.volumes.FirstVolumes.{FirstVolumes}
use Rattle.lg_book.specs.FirstVolumes.{entry_volumes}
use Rattle.lg_book.specs.Following.{IsGrown}
use Rattle.lg_book.specs.Reading.{reverted_by}

abbrev pub places_of : {A B : Type 0} → (A → List B) → ℕ → List A → List ℕ
places_of f k [] = []
places_of f k (x ∷ xs) = map (λ _. k) (f x) ++ places_of f (suc k) xs

abbrev pub by_id : {A : Type 0} → List A → ℕ → Option A
by_id xs zero = None
by_id xs (suc k) = slice_get xs k

abbrev pub changed_at : {A : Type 0} → (A → A) → ℕ → List A → List A
changed_at change k [] = []
changed_at change zero (x ∷ xs) = change x ∷ xs
changed_at change (suc k) (x ∷ xs) = x ∷ changed_at change k xs

-- ---- what a ledger is in the events

abbrev pub made_as : List ℕ → Event → List LedgerInfo
made_as ledger (Made info) = if bytes_eq info.name ledger then info ∷ [] else []
made_as ledger (Logged name e) = []

abbrev pub event_transactions : List ℕ → Event → List Dated
event_transactions ledger event = flat_map entry_transactions (logged ledger event)

pub record LedgerPart : Type 0 where
  pub made : List ℕ
  pub there : Bool
  pub entries : List ℕ
  pub transactions : List ℕ
  pub added : List Entry
  pub prepared : List Entry

-- of all events the first `count` were added
abbrev pub ledger_part : List ℕ → ℕ → List Event → LedgerPart
ledger_part ledger count all = record {
  made = places_of (made_as ledger) 0 all;
  there = is_there (take count all) ledger;
  entries = places_of (logged ledger) 0 all;
  transactions = places_of (event_transactions ledger) 0 all;
  added = log (take count all) ledger;
  prepared = log (drop count all) ledger;
}

-- ---- what is kept

pub record LedgerView : Type 0 where
  pub made : ℕ
  pub there : Bool
  pub entries : List EntryRecord
  pub logged : ℕ
  pub transactions : List TransactionRecord
  pub transacted : ℕ

abbrev pub entry_place : EntryRecord → ℕ
entry_place r = r.place

abbrev pub first_volumes : EntryRecord → FirstVolumes
first_volumes r = r.volumes

abbrev pub transaction_place : TransactionRecord → ℕ
transaction_place r = r.place

-- the volumes of each entry over the log up to and with it
abbrev pub all_volumes : List Entry → List Entry → List FirstVolumes
all_volumes before [] = []
all_volumes before (e ∷ es) = entry_volumes (before ++ e ∷ []) e ∷ all_volumes (before ++ e ∷ []) es

pub record IsRecord (added prepared : List Entry) (id : ℕ) (r : TransactionRecord) : Type 0 where
  pub reverted : r.reverted_by ≡ reverted_by added id
  pub changes : r.history.changes ≡ changes_about (TransactionOf id) added
  pub prepared_changes : r.history.prepared ≡ changes_of (changes_about (TransactionOf id) prepared)

pub record IsIndex (part : LedgerPart) (x : LedgerView) : Type 0 where
  pub made : part.made ≡ x.made ∷ []
  pub there : x.there ≡ part.there
  pub entries : map entry_place x.entries ≡ part.entries
  pub volumes : map first_volumes x.entries ≡ all_volumes [] (part.added ++ part.prepared)
  pub logged_is : x.logged ≡ length part.added
  pub transactions_are : map transaction_place x.transactions ≡ part.transactions
  pub transacted_is : x.transacted ≡ length (transactions part.added)
  pub records : (k : ℕ) (r : TransactionRecord) → slice_get x.transactions k ≡ Some r → IsRecord part.added part.prepared (suc k) r

abbrev pub IsIndexed : LedgerPart → Option LedgerView → Type 0
IsIndexed part None = part.made ≡ []
IsIndexed part (Some x) = IsIndex part x

pub record IsBook (all : List Event) (count : ℕ) (ledgers : NameTable LedgerView) : Type 0 where
  pub within : count ≤ length all
  pub grown : IsGrown all
  pub indexes : (ledger : List ℕ) → IsIndexed (ledger_part ledger count all) (get ledgers ledger)

-- ---- what an event does to it

abbrev pub with_prepared : MetaChange → TransactionRecord → TransactionRecord
with_prepared change r = record r { history = record { changes = r.history.changes; prepared = r.history.prepared ++ change ∷ [] } }

abbrev pub with_none_prepared : TransactionRecord → TransactionRecord
with_none_prepared r = record r { history = record { changes = r.history.changes; prepared = [] } }

abbrev pub with_first_applied : ℤ → TransactionRecord → TransactionRecord
with_first_applied date r = record r { history = first_applied date r.history.changes r.history.prepared }

abbrev pub with_reverted_by : ℕ → TransactionRecord → TransactionRecord
with_reverted_by by r = record r { reverted_by = Some by }

abbrev pub new_record : ℕ → Transaction → TransactionRecord
new_record place t = record { place = place; reverted_by = None; history = record { changes = []; prepared = Set t.metadata ∷ [] } }

abbrev pub target_prepared : Target → MetaChange → List TransactionRecord → List TransactionRecord
target_prepared (Account name) change rs = rs
target_prepared (TransactionOf id) change rs = changed_at (with_prepared change) (id - 1) rs

-- the records with an entry at the place prepared
abbrev pub records_prepared : ℕ → EntryBody → List TransactionRecord → List TransactionRecord
records_prepared place (NewTransaction t accounts) rs = rs ++ new_record place t ∷ []
records_prepared place (SetMetadata target metadata) rs = target_prepared target (Set metadata) rs
records_prepared place (Reverted id t) rs = rs ++ new_record place t ∷ []
records_prepared place (DeleteMetadata target name) rs = target_prepared target (Drop name) rs

-- how many transactions an entry makes
abbrev pub count_made : EntryBody → ℕ
count_made (NewTransaction t accounts) = 1
count_made (SetMetadata target metadata) = 0
count_made (Reverted id t) = 1
count_made (DeleteMetadata target name) = 0

abbrev pub target_added : ℤ → Target → List TransactionRecord → List TransactionRecord
target_added date (Account name) rs = rs
target_added date (TransactionOf id) rs = changed_at (with_first_applied date) (id - 1) rs

-- the records with the first prepared entry added
abbrev pub records_added : ℤ → EntryBody → List TransactionRecord → List TransactionRecord
records_added date (NewTransaction t accounts) rs = changed_at (with_first_applied date) (t.id - 1) rs
records_added date (SetMetadata target metadata) rs = target_added date target rs
records_added date (Reverted id t) rs = changed_at (with_reverted_by t.id) (id - 1) (changed_at (with_first_applied date) (t.id - 1) rs)
records_added date (DeleteMetadata target name) rs = target_added date target rs

abbrev pub target_forgotten : Target → List TransactionRecord → List TransactionRecord
target_forgotten (Account name) rs = rs
target_forgotten (TransactionOf id) rs = changed_at with_none_prepared (id - 1) rs

-- the records with what is prepared of an entry's target given up
abbrev pub records_forgotten : EntryBody → List TransactionRecord → List TransactionRecord
records_forgotten (NewTransaction t accounts) rs = rs
records_forgotten (SetMetadata target metadata) rs = target_forgotten target rs
records_forgotten (Reverted id t) rs = rs
records_forgotten (DeleteMetadata target name) rs = target_forgotten target rs

abbrev pub entry_record : ℕ → FirstVolumes → EntryRecord
entry_record place volumes = record { place = place; volumes = volumes }

abbrev pub new_index : ℕ → LedgerView
new_index made = record { made = made; there = false; entries = []; logged = 0; transactions = []; transacted = 0 }

abbrev pub index_made : LedgerView → LedgerView
index_made x = record x { there = true }

abbrev pub index_prepared : ℕ → Entry → FirstVolumes → LedgerView → LedgerView
index_prepared place e volumes x = record x { entries = x.entries ++ entry_record place volumes ∷ []; transactions = records_prepared place e.body x.transactions }

abbrev pub index_added : Entry → LedgerView → LedgerView
index_added e x = record x { logged = x.logged + 1; transactions = records_added e.date e.body x.transactions; transacted = x.transacted + count_made e.body }

abbrev pub index_forgotten : EntryBody → LedgerView → LedgerView
index_forgotten body x = record x { entries = take x.logged x.entries; transactions = take x.transacted (records_forgotten body x.transactions) }

-- the ledgers with the one of a name changed, where the name is there
abbrev pub put_if : List ℕ → Option LedgerView → NameTable LedgerView → NameTable LedgerView
put_if name None ledgers = ledgers
put_if name (Some x) ledgers = insert ledgers name x

abbrev pub put_changed : List ℕ → (LedgerView → LedgerView) → NameTable LedgerView → NameTable LedgerView
put_changed name change ledgers = put_if name (option_map change (get ledgers name)) ledgers

-- ---- what the records must have for that

-- the id of a record
abbrev pub IsIdIn : List TransactionRecord → ℕ → Type 0
IsIdIn rs id = (1 ≤ id) × (id ≤ length rs)

abbrev pub HasTarget : List TransactionRecord → Target → Type 0
HasTarget rs (Account name) = Unit {0}
HasTarget rs (TransactionOf id) = IsIdIn rs id

-- an entry may be prepared: the transaction that its metadata are about is there
abbrev pub CanPrepare : List TransactionRecord → EntryBody → Type 0
CanPrepare rs (NewTransaction t accounts) = Unit {0}
CanPrepare rs (SetMetadata target metadata) = HasTarget rs target
CanPrepare rs (Reverted id t) = Unit {0}
CanPrepare rs (DeleteMetadata target name) = HasTarget rs target

-- a change of the record is prepared, and the date isn't before its last change
pub record CanChange (rs : List TransactionRecord) (date : ℤ) (id : ℕ) : Type 0 where
  pub is_id : IsIdIn rs id
  pub first : IfSome (slice_get rs (id - 1)) (λ r. IsSome (slice_get r.history.prepared 0))
  pub later : IfSome (slice_get rs (id - 1)) (λ r. IfSome (last_date r.history.changes) (λ last. last ≤ℤ date))

abbrev pub CanChangeTarget : List TransactionRecord → ℤ → Target → Type 0
CanChangeTarget rs date (Account name) = Unit {0}
CanChangeTarget rs date (TransactionOf id) = CanChange rs date id

-- a prepared entry of the date may be added
abbrev pub CanAddTo : List TransactionRecord → ℤ → EntryBody → Type 0
CanAddTo rs date (NewTransaction t accounts) = CanChange rs date t.id
CanAddTo rs date (SetMetadata target metadata) = CanChangeTarget rs date target
CanAddTo rs date (Reverted id t) = CanChange rs date t.id × IsIdIn rs id
CanAddTo rs date (DeleteMetadata target name) = CanChangeTarget rs date target

pub record CanAdd (e : Entry) (x : LedgerView) : Type 0 where
  pub logged_below : x.logged < length x.entries
  pub transacted_below : x.transacted + count_made e.body ≤ length x.transactions
  pub records : CanAddTo x.transactions e.date e.body

-- ---- what is read

abbrev pub entry_there : Option Event → Option Entry
entry_there None = None
entry_there (Some (Made info)) = None
entry_there (Some (Logged ledger e)) = Some e

abbrev pub info_there : Option Event → Option LedgerInfo
info_there None = None
info_there (Some (Made info)) = Some info
info_there (Some (Logged ledger e)) = None

abbrev pub entry_by_record : List Event → Option EntryRecord → Option Entry
entry_by_record all None = None
entry_by_record all (Some r) = entry_there (slice_get all r.place)

abbrev pub made_by_record : List Event → Option TransactionRecord → Option Entry
made_by_record all None = None
made_by_record all (Some r) = entry_there (slice_get all r.place)

abbrev pub info_if : Bool → Option Event → Option LedgerInfo
info_if true event = info_there event
info_if false event = None

-- the transaction that an entry makes, with the entry's date
abbrev pub dated_by_entry : Option Entry → Option Dated
dated_by_entry None = None
dated_by_entry (Some e) = slice_get (entry_transactions e) 0

abbrev pub transaction_by_entry : Option Entry → Option Transaction
transaction_by_entry None = None
transaction_by_entry (Some e) = body_transaction e.body

abbrev pub date_by_entry : Option Entry → Option ℤ
date_by_entry None = None
date_by_entry (Some e) = Some e.date

abbrev pub reverted_by_record : Option TransactionRecord → Option ℕ
reverted_by_record None = None
reverted_by_record (Some r) = r.reverted_by

abbrev pub history_of : TransactionRecord → History
history_of r = r.history
