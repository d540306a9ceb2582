-- A refused call appends nothing.
use Rattle.std.proofs.Common.{◌≡◌, ℕ, ℤ, Bool, true, false, List, [], ◌∷◌, ◌++◌, map, Option, Some, None, refl, ap}
use Rattle.std.specs.Prelude.{if◌then◌else◌}
use Rattle.std.specs.List.{find}
use Rattle.lg_types.specs.declared.calls.Batch.{Batch}
use Rattle.lg_types.specs.declared.calls.Batch.TheVariants.{Ready, Bad}
use Rattle.lg_types.specs.declared.calls.Call.TheVariants as call
use Rattle.lg_types.specs.declared.queries.Read.{Read}
use Rattle.lg_types.specs.declared.queries.Read.TheVariants as read
use Rattle.lg_types.specs.declared.records.Entry.{Entry}
use Rattle.lg_types.specs.declared.records.EntryBody.{EntryBody}
use Rattle.lg_types.specs.declared.records.EntryBody.TheVariants.{NewTransaction, SetMetadata, Reverted, DeleteMetadata}
use Rattle.lg_types.specs.declared.records.Event.{Event}
use Rattle.lg_types.specs.declared.records.Event.TheVariants.{Logged}
use Rattle.lg_types.specs.declared.records.LedgerInfo.{LedgerInfo}
use Rattle.lg_types.specs.Log.{log, is_there, ledgers}
use Rattle.lg_views.specs.declared.decided.Written.{Written}
use Rattle.lg_views.specs.declared.decided.Written.TheVariants.{Refuses, Finds, Appends}
use Rattle.lg_views.specs.declared.replies.BulkItem.{BulkItem}
use Rattle.lg_views.specs.declared.replies.Reply.{Reply}
use Rattle.lg_views.specs.Import.{import_answer}
use Rattle.lg_views.specs.Writes.{written, write_answer, body_reply}
use Rattle.lg_views.specs.Bulk.{Batched, batched, bulk_answer, atomic_answer}
use Rattle.lg_views.specs.Outcome.{Task, ToWrite, ToBulk, ToImport, ToRead, answer_on, on_ledger, no_ledger, in_ledger, ledger_record, read_answer, is_named, outcome}
use Rattle.lg_views.specs.Laws.{IsRefusal, RefusedAppendsNothing}

body_accepted : (g : List Entry) (date : ℤ) (body : EntryBody) → IsRefusal (body_reply g date body) → ⊥
body_accepted g date (NewTransaction t accounts) h = h
body_accepted g date (SetMetadata target metadata) h = h
body_accepted g date (Reverted id t) h = h
body_accepted g date (DeleteMetadata target name) h = h

write-refused : (g : List Entry) (w : Written) → IsRefusal (write_answer g w).0.content → (write_answer g w).1 ≡ []
write-refused g (Refuses refusal) h = refl
write-refused g (Finds e) h = refl
write-refused g (Appends e) h = absurd (body_accepted (g ++ e ∷ []) e.date e.body h)

atomic-refused : (b : Batched) (o : Option BulkItem) → IsRefusal (atomic_answer b o).0.content → (atomic_answer b o).1 ≡ []
atomic-refused b None h = absurd h
atomic-refused b (Some failure) h = refl

bulk-refused : (atomic : Bool) (b : Batched) → IsRefusal (bulk_answer atomic b).0.content → (bulk_answer atomic b).1 ≡ []
bulk-refused true b h = atomic-refused b b.failure h
bulk-refused false b h = absurd h

import-refused : (g : List Entry) (batch : Batch) → IsRefusal (import_answer g batch).0.content → (import_answer g batch).1 ≡ []
import-refused (e ∷ g) batch h = refl
import-refused [] (Ready entries) h = absurd h
import-refused [] (Bad line cause) h = refl

answer-refused : (task : Task) (now : ℤ) (g : List Entry) → IsRefusal (answer_on task now g).0.content → (answer_on task now g).1 ≡ []
answer-refused (ToWrite key write) now g h = write-refused g (written g key write now) h
answer-refused (ToBulk elements atomic go_on) now g h = bulk-refused atomic (batched g 0 go_on now elements) h
answer-refused (ToImport batch) now g h = import-refused g batch h
answer-refused (ToRead r) now g h = refl

in-refused : (events : List Event) (ledger : List ℕ) (task : Task) (now : ℤ) → IsRefusal (in_ledger events ledger task now).0.content → (in_ledger events ledger task now).1 ≡ []
in-refused events ledger task now = by_test (is_there events ledger)
  where
    by_test : (b : Bool) → IsRefusal (if b then on_ledger ledger (answer_on task now (log events ledger)) else no_ledger ledger).0.content
        → (if b then on_ledger ledger (answer_on task now (log events ledger)) else no_ledger ledger).1 ≡ []
    by_test true h = ap (map (Logged ledger)) (answer-refused task now (log events ledger) h)
    by_test false h = refl

one_of-refused : (b : Bool) (there here : Reply × List Event) → there.1 ≡ [] → (IsRefusal here.0.content → here.1 ≡ []) → IsRefusal (if b then there else here).0.content → (if b then there else here).1 ≡ []
one_of-refused true there here h k r = h
one_of-refused false there here h k r = k r

record-refused : (ledger : List ℕ) (o : Option LedgerInfo) → IsRefusal (ledger_record ledger o).0.content → (ledger_record ledger o).1 ≡ []
record-refused ledger None h = refl
record-refused ledger (Some info) h = refl

read-refused : (events : List Event) (ledger : List ℕ) (r : Read) (now : ℤ) → IsRefusal (read_answer events ledger r now).0.content → (read_answer events ledger r now).1 ≡ []
read-refused events ledger read.Ledger now h = record-refused ledger (find (is_named ledger) (ledgers events)) h
read-refused events ledger (read.Account a p x) now h = in-refused events ledger (ToRead (read.Account a p x)) now h
read-refused events ledger (read.Transaction i x p) now h = in-refused events ledger (ToRead (read.Transaction i x p)) now h
read-refused events ledger (read.Accounts q) now h = in-refused events ledger (ToRead (read.Accounts q)) now h
read-refused events ledger (read.Transactions q) now h = in-refused events ledger (ToRead (read.Transactions q)) now h
read-refused events ledger (read.Logs q) now h = in-refused events ledger (ToRead (read.Logs q)) now h
read-refused events ledger (read.Volumes q) now h = in-refused events ledger (ToRead (read.Volumes q)) now h
read-refused events ledger (read.Aggregate f p b) now h = in-refused events ledger (ToRead (read.Aggregate f p b)) now h
read-refused events ledger read.Stats now h = in-refused events ledger (ToRead read.Stats) now h
read-refused events ledger read.Export now h = in-refused events ledger (ToRead read.Export) now h

pub refused_appends_nothing : RefusedAppendsNothing
unfolding outcome
refused_appends_nothing events (call.Unreadable refusal) now h = refl
refused_appends_nothing events (call.MakeLedger ledger bucket metadata) now h = one_of-refused (is_there events ledger) _ _ refl (λ r. absurd r) h
refused_appends_nothing events (call.Write ledger key write) now h = in-refused events ledger (ToWrite key write) now h
refused_appends_nothing events (call.Bulk ledger elements atomic go_on) now h = in-refused events ledger (ToBulk elements atomic go_on) now h
refused_appends_nothing events (call.Import ledger batch) now h = in-refused events ledger (ToImport batch) now h
refused_appends_nothing events (call.Ledgers query) now h = refl
refused_appends_nothing events (call.Read ledger r) now h = read-refused events ledger r now h
