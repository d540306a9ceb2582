-- Every outcome of a good call keeps the entries of every log well made.
use Rattle.std.proofs.Common.{◌≡◌, ℕ, ◌+◌, ◌^◌, ◌<◌, ◌≤◌, ℤ, Bool, true, false, List, [], ◌∷◌, ◌++◌, map, length, Option, Some, None, refl, sym, ap, subst, ◌∙◌, arith}
use Rattle.std.specs.Prelude.{if◌then◌else◌}
use Rattle.std.specs.List.{AllByRecursion, find}
use Rattle.std.specs.Str.{bytes_eq}
use Rattle.std.proofs.lemmas.Bool.{cond_both}
use Rattle.std.proofs.lemmas.List.{length-append, length-map}
use Rattle.lg_types.specs.declared.calls.Batch.{Batch}
use Rattle.lg_types.specs.declared.calls.Batch.TheVariants.{Ready, Bad}
use Rattle.lg_types.specs.declared.calls.Call.{Call}
use Rattle.lg_types.specs.declared.calls.Call.TheVariants as call
use Rattle.lg_types.specs.declared.calls.Element.{Element}
use Rattle.lg_types.specs.declared.calls.ElementWrite.{ElementWrite}
use Rattle.lg_types.specs.declared.calls.ElementWrite.TheVariants.{Good, Bad as BadWrite}
use Rattle.lg_types.specs.declared.queries.Read.{Read}
use Rattle.lg_types.specs.declared.queries.Read.TheVariants as read
use Rattle.lg_types.specs.declared.records.Entry.{Entry}
use Rattle.lg_types.specs.declared.records.Event.{Event}
use Rattle.lg_types.specs.declared.records.Event.TheVariants.{Made, Logged}
use Rattle.lg_types.specs.declared.records.LedgerInfo.{LedgerInfo}
use Rattle.lg_types.specs.GoodCalls.{IsKeyOf, IsGoodElement, IsGoodElementWrite, IsGoodWrite, IsGoodBatch, IsGoodCall}
use Rattle.lg_types.specs.Log.{log, logged, is_there, ledgers}
use Rattle.lg_types.specs.Records.{IsEntry}
use Rattle.lg_views.specs.declared.decided.Written.{Written}
use Rattle.lg_views.specs.declared.decided.Written.TheVariants.{Refuses, Finds, Appends}
use Rattle.lg_views.specs.declared.replies.BulkItem.{BulkItem}
use Rattle.lg_views.specs.declared.replies.Reply.{Reply}
use Rattle.lg_views.specs.Bulk.{Batched, batched, batch_step, nothing_left, element_written, try_write, atomic_answer, bulk_answer}
use Rattle.lg_views.specs.Import.{import_answer}
use Rattle.lg_views.specs.Laws.{AllWellMade, OutcomesKeepEntries}
use Rattle.lg_views.specs.Outcome.{Task, ToWrite, ToBulk, ToImport, ToRead, answer_on, on_ledger, no_ledger, in_ledger, made_ledger, make_answer, ledger_record, read_answer, is_named, outcome}
use Rattle.lg_views.specs.Writes.{written, write_answer}
use Rattle.lg_views.proofs.Outcomes.{log-append, log-logged}
use Rattle.lg_views.proofs.TestAnswers.{bytes_same}
use Rattle.lg_views.proofs.WellMade.{IsMade, all-append, written-made}

-- ---- one ledger

-- where there is room for the entries that are added
abbrev HasRoom : List Entry → List Entry → Type 0
HasRoom g es = length g + length es < 2 ^ 64

write-made : (g : List Entry) (w : Written) → (length g + 1 < 2 ^ 64 → IsMade w) → HasRoom g (write_answer g w).1 → AllByRecursion IsEntry (write_answer g w).1
write-made g (Refuses refusal) h room = tt
write-made g (Finds e) h room = tt
write-made g (Appends e) h room = (h room, tt)

element-made : (g : List Entry) (key : Option (List ℕ)) (w : ElementWrite) (now : ℤ) → AllByRecursion IsEntry g → IsKeyOf key → IsGoodElementWrite w → length g + 1 < 2 ^ 64 → IsMade (try_write g key w now)
element-made g key (Good write) now made k h room = written-made g key write now made room k h
element-made g key (BadWrite refusal) now made k h room = tt

step-made : (g : List Entry) (k : ℕ) (go_on : Bool) (x : Element) (rest : List Entry → Batched) (w : Written) → AllByRecursion IsEntry g → (length g + 1 < 2 ^ 64 → IsMade w)
    → ((h : List Entry) → AllByRecursion IsEntry h → HasRoom h (rest h).entries → AllByRecursion IsEntry (rest h).entries)
    → HasRoom g (batch_step g k go_on x rest w).entries → AllByRecursion IsEntry (batch_step g k go_on x rest w).entries
step-made g k go_on x rest (Refuses refusal) made fit h room = by_test go_on room
  where
    by_test : (b : Bool) → HasRoom g (if b then rest g else nothing_left).entries → AllByRecursion IsEntry (if b then rest g else nothing_left).entries
    by_test true r = h g made r
    by_test false r = tt
step-made g k go_on x rest (Finds e) made fit h room = h g made room
step-made g k go_on x rest (Appends e) made fit h room =
    let more = length-append g (e ∷ []) in
    let here : IsEntry e = fit (omega (arith, room)) in
    (here, h (g ++ e ∷ []) (all-append IsEntry g (e ∷ []) made (here, tt)) (omega (arith, more, room)))

batched-made : (g : List Entry) (k : ℕ) (go_on : Bool) (now : ℤ) (xs : List Element) → AllByRecursion IsEntry g → AllByRecursion IsGoodElement xs → HasRoom g (batched g k go_on now xs).entries → AllByRecursion IsEntry (batched g k go_on now xs).entries
batched-made g k go_on now [] made good room = tt
batched-made g k go_on now (x ∷ xs) made good room =
    step-made g k go_on x (λ h. batched h (k + 1) go_on now xs) (element_written g x now) made (element-made g x.key x.write now made good.0.key good.0.write) (λ h m r. batched-made h (k + 1) go_on now xs m good.1 r) room

atomic-made : (g : List Entry) (b : Batched) (o : Option BulkItem) → (HasRoom g b.entries → AllByRecursion IsEntry b.entries) → HasRoom g (atomic_answer b o).1 → AllByRecursion IsEntry (atomic_answer b o).1
atomic-made g b None h room = h room
atomic-made g b (Some failure) h room = tt

bulk-made : (g : List Entry) (atomic : Bool) (b : Batched) → (HasRoom g b.entries → AllByRecursion IsEntry b.entries) → HasRoom g (bulk_answer atomic b).1 → AllByRecursion IsEntry (bulk_answer atomic b).1
bulk-made g true b h room = atomic-made g b b.failure h room
bulk-made g false b h room = h room

import-made : (g : List Entry) (batch : Batch) → IsGoodBatch batch → AllByRecursion IsEntry (import_answer g batch).1
import-made [] (Ready entries) good = good
import-made [] (Bad line cause) good = tt
import-made (e ∷ g) batch good = tt

abbrev IsGoodTask : Task → Type 0
IsGoodTask (ToWrite key write) = IsKeyOf key × IsGoodWrite write
IsGoodTask (ToBulk elements atomic go_on) = AllByRecursion IsGoodElement elements
IsGoodTask (ToImport batch) = IsGoodBatch batch
IsGoodTask (ToRead read) = Unit {0}

answer-made : (task : Task) (now : ℤ) (g : List Entry) → IsGoodTask task → AllByRecursion IsEntry g → HasRoom g (answer_on task now g).1 → AllByRecursion IsEntry (answer_on task now g).1
answer-made (ToWrite key write) now g good made room = write-made g (written g key write now) (λ r. written-made g key write now made r good.0 good.1) room
answer-made (ToBulk elements atomic go_on) now g good made room = bulk-made g atomic (batched g 0 go_on now elements) (λ r. batched-made g 0 go_on now elements made good r) room
answer-made (ToImport batch) now g good made room = import-made g batch good
answer-made (ToRead read) now g good made room = tt

-- ---- all ledgers

one_logged : (ledger : List ℕ) (event : Event) → length (logged ledger event) ≤ 1
one_logged ledger (Made info) = omega arith
one_logged ledger (Logged name e) = cond_both (bytes_eq name ledger) (e ∷ []) [] (λ es. length es ≤ 1) (λ _. omega arith) (λ _. omega arith)

log-short : (events : List Event) (ledger : List ℕ) → length (log events ledger) ≤ length events
log-short [] ledger = omega arith
log-short (event ∷ events) ledger =
    let first = one_logged ledger event in
    let others = log-short events ledger in
    let both = length-append (logged ledger event) (log events ledger) in
    omega (arith, first, others, both)

-- events whose entries are well made, where there is room for them
abbrev MakesWell : List Event → List Event → Type 0
MakesWell events more = length events + length more < 2 ^ 64 → (ledger : List ℕ) → AllByRecursion IsEntry (log more ledger)

by_name : (name ledger : List ℕ) (es : List Entry) (b : Bool) → AllByRecursion IsEntry es → AllByRecursion IsEntry (if b then es else [])
by_name name ledger es true h = h
by_name name ledger es false h = tt

made-entries : (events : List Event) (name : List ℕ) (es : List Entry) → (HasRoom (log events name) es → AllByRecursion IsEntry es) → MakesWell events (map (Logged name) es)
made-entries events name es h room ledger =
    let short = log-short events name in
    let long = length-map es (Logged name) in
    subst (AllByRecursion IsEntry) (sym (log-logged name ledger es)) (by_name name ledger es (bytes_eq name ledger) (h (omega (arith, short, long, room))))

made-in : (events : List Event) (ledger : List ℕ) (task : Task) (now : ℤ) → IsGoodTask task → AllWellMade events → MakesWell events (in_ledger events ledger task now).1
made-in events ledger task now good made = by_test (is_there events ledger)
  where
    by_test : (b : Bool) → MakesWell events (if b then on_ledger ledger (answer_on task now (log events ledger)) else no_ledger ledger).1
    by_test true = made-entries events ledger (answer_on task now (log events ledger)).1 (λ room. answer-made task now (log events ledger) good (made.each ledger) room)
    by_test false = λ room l. tt

made-one_of : (events : List Event) (info : LedgerInfo) (b : Bool) (there : Reply × List Event) (reply : Reply) → there.1 ≡ [] → MakesWell events (if b then there else (reply, Made info ∷ [])).1
made-one_of events info true there reply h room l = subst (λ es. AllByRecursion IsEntry (log es l)) (sym h) tt
made-one_of events info false there reply h room l = tt

made-record : (events : List Event) (ledger : List ℕ) (o : Option LedgerInfo) → MakesWell events (ledger_record ledger o).1
made-record events ledger None room l = tt
made-record events ledger (Some info) room l = tt

made-read : (events : List Event) (ledger : List ℕ) (r : Read) (now : ℤ) → AllWellMade events → MakesWell events (read_answer events ledger r now).1
made-read events ledger read.Ledger now made = made-record events ledger (find (is_named ledger) (ledgers events))
made-read events ledger (read.Account a p x) now made = made-in events ledger (ToRead (read.Account a p x)) now tt made
made-read events ledger (read.Transaction i x p) now made = made-in events ledger (ToRead (read.Transaction i x p)) now tt made
made-read events ledger (read.Accounts q) now made = made-in events ledger (ToRead (read.Accounts q)) now tt made
made-read events ledger (read.Transactions q) now made = made-in events ledger (ToRead (read.Transactions q)) now tt made
made-read events ledger (read.Logs q) now made = made-in events ledger (ToRead (read.Logs q)) now tt made
made-read events ledger (read.Volumes q) now made = made-in events ledger (ToRead (read.Volumes q)) now tt made
made-read events ledger (read.Aggregate f p b) now made = made-in events ledger (ToRead (read.Aggregate f p b)) now tt made
made-read events ledger read.Stats now made = made-in events ledger (ToRead read.Stats) now tt made
made-read events ledger read.Export now made = made-in events ledger (ToRead read.Export) now tt made

outcome-made : (events : List Event) (c : Call) (now : ℤ) → IsGoodCall c → AllWellMade events → MakesWell events (outcome events c now).1
unfolding outcome
outcome-made events (call.Unreadable refusal) now good made room l = tt
outcome-made events (call.MakeLedger ledger bucket metadata) now good made room l =
    made-one_of events (made_ledger ledger bucket metadata now) (is_there events ledger) _ _ refl room l
outcome-made events (call.Write ledger key write) now good made room l = made-in events ledger (ToWrite key write) now good made room l
outcome-made events (call.Bulk ledger elements atomic go_on) now good made room l = made-in events ledger (ToBulk elements atomic go_on) now good made room l
outcome-made events (call.Import ledger batch) now good made room l = made-in events ledger (ToImport batch) now good made room l
outcome-made events (call.Ledgers query) now good made room l = tt
outcome-made events (call.Read ledger read) now good made room l = made-read events ledger read now made room l

pub outcomes_keep_entries : OutcomesKeepEntries
outcomes_keep_entries events c now good room made =
    let new : List Event = (outcome events c now).1 in
    let both = length-append events new in
    record { each = λ ledger. subst (AllByRecursion IsEntry) (sym (log-append events new ledger)) (all-append IsEntry (log events ledger) (log new ledger) (made.each ledger) (outcome-made events c now good made (omega (arith, both, room)) ledger)) }
