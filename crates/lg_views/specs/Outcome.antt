-- What becomes of a call: a reply, and the events that it appends.
use Rattle.std.specs.Prelude.{◌≡◌, ℕ, ℤ, Bool, if◌then◌else◌, List, [], ◌∷◌, map, Option, Some, None}
use Rattle.std.specs.List.{find}
use Rattle.std.specs.Str.{bytes_eq}
use Rattle.lg_types.specs.declared.calls.Batch.{Batch}
use Rattle.lg_types.specs.declared.calls.Call.{Call}
use Rattle.lg_types.specs.declared.calls.Call.TheVariants as call
use Rattle.lg_types.specs.declared.calls.Element.{Element}
use Rattle.lg_types.specs.declared.calls.Write.{Write}
use Rattle.lg_types.specs.declared.queries.Read.{Read}
use Rattle.lg_types.specs.declared.queries.Read.TheVariants as read
use Rattle.lg_types.specs.declared.records.Entry.{Entry}
use Rattle.lg_types.specs.declared.records.Event.{Event}
use Rattle.lg_types.specs.declared.records.Event.TheVariants.{Made, Logged}
use Rattle.lg_types.specs.declared.records.LedgerInfo.{LedgerInfo}
use Rattle.lg_types.specs.declared.refusals.Refusal.TheVariants.{NoLedger, LedgerThere}
use Rattle.lg_types.specs.Changes.{MetaOf}
use Rattle.lg_types.specs.Log.{log, is_there, ledgers}
use Rattle.lg_types.specs.Moments.{brought}
use Rattle.lg_views.specs.declared.replies.Content.TheVariants as content
use Rattle.lg_views.specs.declared.replies.Reply.{Reply}
use Rattle.lg_views.specs.Replies.{plain, refused}
use Rattle.lg_views.specs.Writes.{written, write_answer}
use Rattle.lg_views.specs.Bulk.{batched, bulk_answer}
use Rattle.lg_views.specs.Import.{import_answer}
use Rattle.lg_views.specs.Reads.{log_content, ledgers_page}

-- what is asked of one ledger, but for the ledger's own record
pub data Task : Type 0 where
  ToWrite : (key : Option (List ℕ)) (write : Write) → Task
  ToBulk : (elements : List Element) (atomic go_on : Bool) → Task
  ToImport : Batch → Task
  ToRead : Read → Task

-- the reply and the new entries, by the ledger's log alone
abbrev pub answer_on : Task → ℤ → List Entry → Reply × List Entry
answer_on (ToWrite key write) now g = write_answer g (written g key write now)
answer_on (ToBulk elements atomic go_on) now g = bulk_answer atomic (batched g 0 go_on now elements)
answer_on (ToImport batch) now g = import_answer g batch
answer_on (ToRead read) now g = (plain (log_content g read), [])

abbrev pub on_ledger : List ℕ → Reply × List Entry → Reply × List Event
on_ledger ledger answer = (answer.0, map (Logged ledger) answer.1)

abbrev pub no_ledger : List ℕ → Reply × List Event
no_ledger ledger = (refused (NoLedger ledger), [])

-- a task of a ledger that is there
abbrev pub in_ledger : List Event → List ℕ → Task → ℤ → Reply × List Event
in_ledger events ledger task now = if is_there events ledger then on_ledger ledger (answer_on task now (log events ledger)) else no_ledger ledger

abbrev pub is_named : List ℕ → LedgerInfo → Bool
is_named ledger info = bytes_eq info.name ledger

-- the record of a ledger, as it was made
abbrev pub ledger_record : List ℕ → Option LedgerInfo → Reply × List Event
ledger_record ledger None = no_ledger ledger
ledger_record ledger (Some info) = (plain (content.Ledger info), [])

abbrev pub made_ledger : List ℕ → List ℕ → MetaOf → ℤ → LedgerInfo
made_ledger ledger bucket metadata now = record { name = ledger; bucket = bucket; metadata = metadata; added = brought now }

abbrev pub make_answer : List Event → LedgerInfo → Reply × List Event
make_answer events info = if is_there events info.name then (refused (LedgerThere info.name), []) else (plain content.Empty, Made info ∷ [])

abbrev pub read_answer : List Event → List ℕ → Read → ℤ → Reply × List Event
read_answer events ledger read.Ledger now = ledger_record ledger (find (is_named ledger) (ledgers events))
read_answer events ledger read now = in_ledger events ledger (ToRead read) now

unfoldable pub outcome : List Event → Call → ℤ → Reply × List Event
outcome events (call.Unreadable refusal) now = (refused refusal, [])
outcome events (call.MakeLedger ledger bucket metadata) now = make_answer events (made_ledger ledger bucket metadata now)
outcome events (call.Write ledger key write) now = in_ledger events ledger (ToWrite key write) now
outcome events (call.Bulk ledger elements atomic go_on) now = in_ledger events ledger (ToBulk elements atomic go_on) now
outcome events (call.Import ledger batch) now = in_ledger events ledger (ToImport batch) now
outcome events (call.Ledgers query) now = (plain (ledgers_page events query), [])
outcome events (call.Read ledger read) now = read_answer events ledger read now

-- the call that asks a task of a ledger
abbrev pub call_on : List ℕ → Task → Call
call_on ledger (ToWrite key write) = call.Write ledger key write
call_on ledger (ToBulk elements atomic go_on) = call.Bulk ledger elements atomic go_on
call_on ledger (ToImport batch) = call.Import ledger batch
call_on ledger (ToRead read) = call.Read ledger read

-- every task but the reading of the ledger's own record: its bucket, its metadata and when it was made
abbrev pub IsOfLog : Task → Type 0
IsOfLog (ToRead read.Ledger) = ⊥
IsOfLog task = Unit {0}

-- one reply and one list of new entries, which are the outcomes on both ledgers, each under its ledger's name
pub record OneAnswer (events : List Event) (ledger : List ℕ) (others : List Event) (copy : List ℕ) (task : Task) (now : ℤ) : Type 0 where
  pub answer : Reply × List Entry
  pub here : outcome events (call_on ledger task) now ≡ on_ledger ledger answer
  pub there : outcome others (call_on copy task) now ≡ on_ledger copy answer

-- two ledgers, each of its own list of events, answer alike: their logs are equal, and so are their answers to every write, list,
-- import and read of the log, at every moment
pub record AnswerAlike (events : List Event) (ledger : List ℕ) (others : List Event) (copy : List ℕ) : Type 0 where
  pub logs : log events ledger ≡ log others copy
  pub answers : (task : Task) (now : ℤ) → IsOfLog task → OneAnswer events ledger others copy task now
