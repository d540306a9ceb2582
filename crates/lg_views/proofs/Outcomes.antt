-- Every outcome keeps every log faultless.
use Rattle.std.proofs.Common.{◌≡◌, ℕ, ℤ, Bool, true, false, List, [], ◌∷◌, ◌++◌, map, Option, Some, None, refl, sym, ap, subst, ◌∙◌}
use Rattle.std.specs.Prelude.{if◌then◌else◌}
use Rattle.std.specs.List.{find}
use Rattle.std.specs.Str.{bytes_eq}
use Rattle.std.proofs.lemmas.Grind.{flat_map-append}
use Rattle.lg_types.specs.declared.calls.Batch.{Batch}
use Rattle.lg_types.specs.declared.calls.Batch.TheVariants.{Ready, Bad}
use Rattle.lg_types.specs.declared.calls.Call.{Call}
use Rattle.lg_types.specs.declared.calls.Call.TheVariants as call
use Rattle.lg_types.specs.declared.queries.Read.{Read}
use Rattle.lg_types.specs.declared.queries.Read.TheVariants as read
use Rattle.lg_types.specs.declared.records.Entry.{Entry}
use Rattle.lg_types.specs.declared.records.Event.{Event}
use Rattle.lg_types.specs.declared.records.Event.TheVariants.{Made, Logged}
use Rattle.lg_types.specs.declared.records.LedgerInfo.{LedgerInfo}
use Rattle.lg_types.specs.Log.{log, logged, is_there, ledgers}
use Rattle.lg_views.specs.declared.decided.Written.{Written}
use Rattle.lg_views.specs.declared.decided.Written.TheVariants.{Refuses, Finds, Appends}
use Rattle.lg_views.specs.declared.replies.Reply.{Reply}
use Rattle.lg_views.specs.Import.{FollowsFrom, import_answer}
use Rattle.lg_views.specs.Writes.{written, write_answer}
use Rattle.lg_views.specs.Bulk.{batched}
use Rattle.lg_views.specs.Outcome.{Task, ToWrite, ToBulk, ToImport, ToRead, answer_on, on_ledger, no_ledger, in_ledger, made_ledger, make_answer, ledger_record, read_answer, is_named, outcome}
use Rattle.lg_views.specs.Laws.{IsFaultlessBatch, IsFaultlessTask, IsFaultlessCall, AllFaultless, OutcomesKeepLogs}
use Rattle.lg_views.proofs.TestAnswers.{bytes_same}
use Rattle.lg_views.proofs.Follows.{follows-join}
use Rattle.lg_views.proofs.Granted.{Fits, written-fits}
use Rattle.lg_views.proofs.Batches.{batched-fits, bulk-fits}

write-follows : (g : List Entry) (w : Written) → Fits g w → FollowsFrom g (write_answer g w).1
write-follows g (Refuses refusal) h = tt
write-follows g (Finds e) h = tt
write-follows g (Appends e) h = (h, tt)

import-follows : (g : List Entry) (batch : Batch) → IsFaultlessBatch batch → FollowsFrom g (import_answer g batch).1
import-follows [] (Ready entries) good = good.follows
import-follows [] (Bad line cause) good = tt
import-follows (e ∷ g) batch good = tt

-- what any task appends may follow the log
pub answer-follows : (task : Task) (now : ℤ) (g : List Entry) → IsFaultlessTask task → FollowsFrom g (answer_on task now g).1
answer-follows (ToWrite key write) now g good = write-follows g (written g key write now) (written-fits g key write now)
answer-follows (ToBulk elements atomic go_on) now g good = bulk-fits g atomic (batched g 0 go_on now elements) (batched-fits g 0 go_on now elements)
answer-follows (ToImport batch) now g good = import-follows g batch good
answer-follows (ToRead read) now g good = tt

pub log-append : (xs ys : List Event) (ledger : List ℕ) → log (xs ++ ys) ledger ≡ log xs ledger ++ log ys ledger
log-append xs ys ledger = flat_map-append (logged ledger) xs ys

-- the log of one ledger's entries: all of them for that ledger, none for another
chosen : (b : Bool) (e : Entry) (rest : List Entry) → (if b then e ∷ [] else []) ++ (if b then rest else []) ≡ (if b then e ∷ rest else [])
chosen true e rest = refl
chosen false e rest = refl

no_entries : (b : Bool) → ◌≡◌ {A = List Entry} (if b then [] else []) []
no_entries true = refl
no_entries false = refl

pub log-logged : (name ledger : List ℕ) (es : List Entry) → log (map (Logged name) es) ledger ≡ (if bytes_eq name ledger then es else [])
log-logged name ledger [] = sym (no_entries (bytes_eq name ledger))
log-logged name ledger (e ∷ es) = ap (λ l. (if bytes_eq name ledger then e ∷ [] else []) ++ l) (log-logged name ledger es) ∙ chosen (bytes_eq name ledger) e es

by_name : (events : List Event) (name ledger : List ℕ) (es : List Entry) (b : Bool) → bytes_eq name ledger ≡ b → FollowsFrom (log events name) es → FollowsFrom (log events ledger) (if b then es else [])
by_name events name ledger es true h f = subst (λ l. FollowsFrom (log events l) es) (bytes_same name ledger h) f
by_name events name ledger es false h f = tt

-- events that keep each log faultless, after others
abbrev pub Keeps : List Event → List Event → Type 0
Keeps events more = (ledger : List ℕ) → FollowsFrom (log events ledger) (log more ledger)

keeps-entries : (events : List Event) (name : List ℕ) (es : List Entry) → FollowsFrom (log events name) es → Keeps events (map (Logged name) es)
keeps-entries events name es h ledger = subst (λ l. FollowsFrom (log events ledger) l) (sym (log-logged name ledger es)) (by_name events name ledger es (bytes_eq name ledger) refl h)

keeps-in : (events : List Event) (ledger : List ℕ) (task : Task) (now : ℤ) → IsFaultlessTask task → Keeps events (in_ledger events ledger task now).1
keeps-in events ledger task now good = by_test (is_there events ledger)
  where
    by_test : (b : Bool) → Keeps events (if b then on_ledger ledger (answer_on task now (log events ledger)) else no_ledger ledger).1
    by_test true l = keeps-entries events ledger (answer_on task now (log events ledger)).1 (answer-follows task now (log events ledger) good) l
    by_test false l = tt

keeps-one_of : (events : List Event) (info : LedgerInfo) (b : Bool) (there : Reply × List Event) (reply : Reply) → there.1 ≡ [] → Keeps events (if b then there else (reply, Made info ∷ [])).1
keeps-one_of events info true there reply h l = subst (λ es. FollowsFrom (log events l) (log es l)) (sym h) tt
keeps-one_of events info false there reply h l = tt

keeps-made : (events : List Event) (info : LedgerInfo) → Keeps events (make_answer events info).1
keeps-made events info = keeps-one_of events info (is_there events info.name) _ _ refl

keeps-record : (events : List Event) (ledger : List ℕ) (o : Option LedgerInfo) → Keeps events (ledger_record ledger o).1
keeps-record events ledger None l = tt
keeps-record events ledger (Some info) l = tt

keeps-read : (events : List Event) (ledger : List ℕ) (r : Read) (now : ℤ) → Keeps events (read_answer events ledger r now).1
keeps-read events ledger read.Ledger now = keeps-record events ledger (find (is_named ledger) (ledgers events))
keeps-read events ledger (read.Account a p x) now = keeps-in events ledger (ToRead (read.Account a p x)) now tt
keeps-read events ledger (read.Transaction i x p) now = keeps-in events ledger (ToRead (read.Transaction i x p)) now tt
keeps-read events ledger (read.Accounts q) now = keeps-in events ledger (ToRead (read.Accounts q)) now tt
keeps-read events ledger (read.Transactions q) now = keeps-in events ledger (ToRead (read.Transactions q)) now tt
keeps-read events ledger (read.Logs q) now = keeps-in events ledger (ToRead (read.Logs q)) now tt
keeps-read events ledger (read.Volumes q) now = keeps-in events ledger (ToRead (read.Volumes q)) now tt
keeps-read events ledger (read.Aggregate f p b) now = keeps-in events ledger (ToRead (read.Aggregate f p b)) now tt
keeps-read events ledger read.Stats now = keeps-in events ledger (ToRead read.Stats) now tt
keeps-read events ledger read.Export now = keeps-in events ledger (ToRead read.Export) now tt

pub outcome-keeps : (events : List Event) (c : Call) (now : ℤ) → IsFaultlessCall c → Keeps events (outcome events c now).1
unfolding outcome
outcome-keeps events (call.Unreadable refusal) now good l = tt
outcome-keeps events (call.MakeLedger ledger bucket metadata) now good l = keeps-made events (made_ledger ledger bucket metadata now) l
outcome-keeps events (call.Write ledger key write) now good l = keeps-in events ledger (ToWrite key write) now tt l
outcome-keeps events (call.Bulk ledger elements atomic go_on) now good l = keeps-in events ledger (ToBulk elements atomic go_on) now tt l
outcome-keeps events (call.Import ledger batch) now good l = keeps-in events ledger (ToImport batch) now good l
outcome-keeps events (call.Ledgers query) now good l = tt
outcome-keeps events (call.Read ledger read) now good l = keeps-read events ledger read now l

pub keeps-faultless : (events more : List Event) → AllFaultless events → Keeps events more → AllFaultless (events ++ more)
keeps-faultless events more h k = record { each = λ ledger. record { follows = subst (FollowsFrom []) (sym (log-append events more ledger)) (follows-join [] (log events ledger) (log more ledger) (h.each ledger).follows (k ledger)) } }

pub outcomes_keep_logs : OutcomesKeepLogs
outcomes_keep_logs events c now good h = keeps-faultless events (outcome events c now).1 h (outcome-keeps events c now good)
