-- The imports of a script bring faultless entries.
use Rattle.std.proofs.Common.{◌≡◌, ◌⊎◌, inl, inr, ℕ, ℤ, Bool, true, false, List, [], ◌∷◌, Option, Some, None, refl, sym, ap, subst, ◌∙◌}
use Rattle.std.specs.Prelude.{MatchBool, Ok, Err}
use Rattle.std.specs.List.{find}
use Rattle.lg_json.specs.Tree.{Tree, Members}
use Rattle.lg_json.specs.Tree.Tree.{null, truth, whole, part, text, list, members}
use Rattle.lg_types.specs.declared.calls.Batch.{Batch}
use Rattle.lg_types.specs.declared.calls.Batch.TheVariants.{Ready, Bad}
use Rattle.lg_types.specs.declared.calls.Call.{Call}
use Rattle.lg_types.specs.declared.refusals.Refusal.{Refusal}
use Rattle.lg_types.specs.Lists.{Each}
use Rattle.lg_views.specs.declared.lines.ScriptLine.{ScriptLine}
use Rattle.lg_views.specs.Laws.{IsFaultlessBatch, IsFaultlessCall, IsFaultlessLine}
use Rattle.lg_readings.specs.Answers.{Answer, Then, GoesOn}
use Rattle.lg_readings.specs.Checked.{IsChecked}
use Rattle.lg_readings.specs.ReadingLaws.{ScriptsImportFaultless}
use Rattle.lg_readings.specs.Requests.{Body, NoBody, ValueBody, FaultyBody, UnreadBody, LinesBody, lines_of_body, Asks, AsksOn, AsksAmong, RequestAnswer, IsRequest, call_of, segments_or_none}
use Rattle.lg_readings.specs.Routes.{Route, Row, ListLedgers, MakeLedger, ShowLedger, ListAccounts, ShowAccount, SetAccountMetadata, DropAccountMetadata, ListTransactions, CreateTransaction, ShowTransaction, SetTransactionMetadata, DropTransactionMetadata, RevertTransaction, RunBulk, ListLogs, ExportLogs, ImportLogs, ListVolumes, AggregateBalances, ShowStats, routes_at, has_method, names_in}
use Rattle.lg_readings.specs.Script.{LineContent, ContentIn, ContentBy, IsCallIn, LineAnswer, IsBodyOf, IsLines, is_import, recomputes, line_of, AreScript, script_lines}
use Rattle.lg_readings.specs.Targets.{Parameter, path_segments, parameters}
use Rattle.lg_readings.proofs.Checks.{checked_is_faultless}

-- a fact of an answer that holds of each refusal holds where it holds of what is read after the first value
module _ {B : Type 0} (P : Answer B → Type 0) (refused : (refusal : Refusal) → P (Err refusal)) where
  goes_so : {A : Type 0} (first : Answer A → Type 0) (next : A → Answer B → Type 0) (r : Answer B) (o : Answer A) → first o → GoesOn o next r → ((a : A) → first (Ok a) → next a r → P r) → P r
  goes_so first next r (Ok a) is k f = f a is k
  goes_so first next r (Err refusal) is k f = subst P (sym k) (refused refusal)

  then_so : {A : Type 0} {first : Answer A → Type 0} {next : A → Answer B → Type 0} (r : Answer B) → ((a : A) → first (Ok a) → next a r → P r) → Then first next r → P r
  then_so {first = first} {next = next} r f h = goes_so first next r h.answer h.is_first h.goes_on f

abbrev IsFine : Answer Call → Type 0
IsFine (Ok c) = IsFaultlessCall c
IsFine (Err refusal) = Unit {0}

fine : {A : Type 0} {first : Answer A → Type 0} {next : A → Answer Call → Type 0} (r : Answer Call) → ((a : A) → first (Ok a) → next a r → IsFine r) → Then first next r → IsFine r
fine r f h = then_so IsFine (λ refusal. tt) r f h

given : (c : Call) (r : Answer Call) → IsFaultlessCall c → r ≡ Ok c → IsFine r
given c r ok e = subst IsFine (sym e) ok

-- ---- bodies

abbrev IsFineBody : Body → Type 0
IsFineBody NoBody = Unit {0}
IsFineBody (ValueBody t) = Unit {0}
IsFineBody (FaultyBody fault place) = Unit {0}
IsFineBody UnreadBody = Unit {0}
IsFineBody (LinesBody batch) = IsFaultlessBatch batch

abbrev IsFineLines : Answer Batch → Type 0
IsFineLines (Ok batch) = IsFaultlessBatch batch
IsFineLines (Err refusal) = Unit {0}

lines-fine : (body : Body) → IsFineBody body → IsFineLines (lines_of_body body)
lines-fine NoBody b = record { follows = tt }
lines-fine (ValueBody null) b = record { follows = tt }
lines-fine (ValueBody (truth t)) b = tt
lines-fine (ValueBody (whole n)) b = tt
lines-fine (ValueBody part) b = tt
lines-fine (ValueBody (text t)) b = tt
lines-fine (ValueBody (list ts)) b = tt
lines-fine (ValueBody (members ms)) b = tt
lines-fine (FaultyBody fault place) b = tt
lines-fine UnreadBody b = tt
lines-fine (LinesBody batch) b = b

batch-fine : (body : Body) → IsFineBody body → (batch : Batch) → ◌≡◌ {A = Answer Batch} (Ok batch) (lines_of_body body) → IsFaultlessBatch batch
batch-fine body b batch e = subst IsFineLines (sym e) (lines-fine body b)

-- ---- requests

asks-fine : (row : Row) (names : List (List ℕ)) (ps : List Parameter) (key : Option (List ℕ)) (body : Body) → IsFineBody body → (r : Answer Call) → Asks row names ps key body r → IsFine r
asks-fine ListLedgers [] ps key body b r h = fine r (λ _ _ k. given _ r tt k) h
asks-fine ListLedgers (s ∷ names) ps key body b r h = absurd h
asks-fine MakeLedger [] ps key body b r h = absurd h
asks-fine MakeLedger (s ∷ []) ps key body b r h = fine r (λ _ _ k. fine r (λ _ _ k. fine r (λ _ _ k. fine r (λ _ _ k. given _ r tt k) k) k) k) h
asks-fine MakeLedger (s ∷ t ∷ names) ps key body b r h = absurd h
asks-fine ShowLedger [] ps key body b r h = absurd h
asks-fine ShowLedger (s ∷ []) ps key body b r h = fine r (λ _ _ k. fine r (λ _ _ k. given _ r tt k) k) h
asks-fine ShowLedger (s ∷ t ∷ names) ps key body b r h = absurd h
asks-fine ListAccounts [] ps key body b r h = absurd h
asks-fine ListAccounts (s ∷ []) ps key body b r h = fine r (λ _ _ k. fine r (λ _ _ k. given _ r tt k) k) h
asks-fine ListAccounts (s ∷ t ∷ names) ps key body b r h = absurd h
asks-fine ListTransactions [] ps key body b r h = absurd h
asks-fine ListTransactions (s ∷ []) ps key body b r h = fine r (λ _ _ k. fine r (λ _ _ k. given _ r tt k) k) h
asks-fine ListTransactions (s ∷ t ∷ names) ps key body b r h = absurd h
asks-fine CreateTransaction [] ps key body b r h = absurd h
asks-fine CreateTransaction (s ∷ []) ps key body b r h = fine r (λ _ _ k. fine r (λ _ _ k. fine r (λ _ _ k. fine r (λ _ _ k. fine r (λ _ _ k. fine r (λ _ _ k. fine r (λ _ _ k. given _ r tt k) k) k) k) k) k) k) h
asks-fine CreateTransaction (s ∷ t ∷ names) ps key body b r h = absurd h
asks-fine RunBulk [] ps key body b r h = absurd h
asks-fine RunBulk (s ∷ []) ps key body b r h = fine r (λ _ _ k. fine r (λ _ _ k. fine r (λ _ _ k. fine r (λ _ _ k. fine r (λ _ _ k. fine r (λ _ _ k. fine r (λ _ _ k. fine r (λ _ _ k. given _ r tt k) k) k) k) k) k) k) k) h
asks-fine RunBulk (s ∷ t ∷ names) ps key body b r h = absurd h
asks-fine ListLogs [] ps key body b r h = absurd h
asks-fine ListLogs (s ∷ []) ps key body b r h = fine r (λ _ _ k. fine r (λ _ _ k. given _ r tt k) k) h
asks-fine ListLogs (s ∷ t ∷ names) ps key body b r h = absurd h
asks-fine ExportLogs [] ps key body b r h = absurd h
asks-fine ExportLogs (s ∷ []) ps key body b r h = fine r (λ _ _ k. fine r (λ _ _ k. given _ r tt k) k) h
asks-fine ExportLogs (s ∷ t ∷ names) ps key body b r h = absurd h
asks-fine ImportLogs [] ps key body b r h = absurd h
asks-fine ImportLogs (s ∷ []) ps key body b r h = fine r (λ _ _ k. fine r (λ _ _ k. fine r (λ _ _ k. fine r (λ batch is k. given _ r (batch-fine body b batch is) k) k) k) k) h
asks-fine ImportLogs (s ∷ t ∷ names) ps key body b r h = absurd h
asks-fine ListVolumes [] ps key body b r h = absurd h
asks-fine ListVolumes (s ∷ []) ps key body b r h = fine r (λ _ _ k. fine r (λ _ _ k. given _ r tt k) k) h
asks-fine ListVolumes (s ∷ t ∷ names) ps key body b r h = absurd h
asks-fine AggregateBalances [] ps key body b r h = absurd h
asks-fine AggregateBalances (s ∷ []) ps key body b r h = fine r (λ _ _ k. fine r (λ _ _ k. fine r (λ _ _ k. fine r (λ _ _ k. fine r (λ _ _ k. given _ r tt k) k) k) k) k) h
asks-fine AggregateBalances (s ∷ t ∷ names) ps key body b r h = absurd h
asks-fine ShowStats [] ps key body b r h = absurd h
asks-fine ShowStats (s ∷ []) ps key body b r h = fine r (λ _ _ k. fine r (λ _ _ k. given _ r tt k) k) h
asks-fine ShowStats (s ∷ t ∷ names) ps key body b r h = absurd h
asks-fine ShowAccount [] ps key body b r h = absurd h
asks-fine ShowAccount (s ∷ []) ps key body b r h = absurd h
asks-fine ShowAccount (s ∷ t ∷ []) ps key body b r h = fine r (λ _ _ k. fine r (λ _ _ k. fine r (λ _ _ k. fine r (λ _ _ k. fine r (λ _ _ k. given _ r tt k) k) k) k) k) h
asks-fine ShowAccount (s ∷ t ∷ u ∷ names) ps key body b r h = absurd h
asks-fine SetAccountMetadata [] ps key body b r h = absurd h
asks-fine SetAccountMetadata (s ∷ []) ps key body b r h = absurd h
asks-fine SetAccountMetadata (s ∷ t ∷ []) ps key body b r h = fine r (λ _ _ k. fine r (λ _ _ k. fine r (λ _ _ k. fine r (λ _ _ k. fine r (λ _ _ k. fine r (λ _ _ k. given _ r tt k) k) k) k) k) k) h
asks-fine SetAccountMetadata (s ∷ t ∷ u ∷ names) ps key body b r h = absurd h
asks-fine ShowTransaction [] ps key body b r h = absurd h
asks-fine ShowTransaction (s ∷ []) ps key body b r h = absurd h
asks-fine ShowTransaction (s ∷ t ∷ []) ps key body b r h = fine r (λ _ _ k. fine r (λ _ _ k. fine r (λ _ _ k. fine r (λ _ _ k. fine r (λ _ _ k. given _ r tt k) k) k) k) k) h
asks-fine ShowTransaction (s ∷ t ∷ u ∷ names) ps key body b r h = absurd h
asks-fine SetTransactionMetadata [] ps key body b r h = absurd h
asks-fine SetTransactionMetadata (s ∷ []) ps key body b r h = absurd h
asks-fine SetTransactionMetadata (s ∷ t ∷ []) ps key body b r h = fine r (λ _ _ k. fine r (λ _ _ k. fine r (λ _ _ k. fine r (λ _ _ k. fine r (λ _ _ k. fine r (λ _ _ k. given _ r tt k) k) k) k) k) k) h
asks-fine SetTransactionMetadata (s ∷ t ∷ u ∷ names) ps key body b r h = absurd h
asks-fine RevertTransaction [] ps key body b r h = absurd h
asks-fine RevertTransaction (s ∷ []) ps key body b r h = absurd h
asks-fine RevertTransaction (s ∷ t ∷ []) ps key body b r h = fine r (λ _ _ k. fine r (λ _ _ k. fine r (λ _ _ k. fine r (λ _ _ k. fine r (λ _ _ k. fine r (λ _ _ k. fine r (λ _ _ k. fine r (λ _ _ k. given _ r tt k) k) k) k) k) k) k) k) h
asks-fine RevertTransaction (s ∷ t ∷ u ∷ names) ps key body b r h = absurd h
asks-fine DropAccountMetadata [] ps key body b r h = absurd h
asks-fine DropAccountMetadata (s ∷ []) ps key body b r h = absurd h
asks-fine DropAccountMetadata (s ∷ t ∷ []) ps key body b r h = absurd h
asks-fine DropAccountMetadata (s ∷ t ∷ u ∷ []) ps key body b r h = fine r (λ _ _ k. fine r (λ _ _ k. fine r (λ _ _ k. fine r (λ _ _ k. fine r (λ _ _ k. given _ r tt k) k) k) k) k) h
asks-fine DropAccountMetadata (s ∷ t ∷ u ∷ v ∷ names) ps key body b r h = absurd h
asks-fine DropTransactionMetadata [] ps key body b r h = absurd h
asks-fine DropTransactionMetadata (s ∷ []) ps key body b r h = absurd h
asks-fine DropTransactionMetadata (s ∷ t ∷ []) ps key body b r h = absurd h
asks-fine DropTransactionMetadata (s ∷ t ∷ u ∷ []) ps key body b r h = fine r (λ _ _ k. fine r (λ _ _ k. fine r (λ _ _ k. fine r (λ _ _ k. fine r (λ _ _ k. given _ r tt k) k) k) k) k) h
asks-fine DropTransactionMetadata (s ∷ t ∷ u ∷ v ∷ names) ps key body b r h = absurd h

on-fine : (segments : List (List ℕ)) (ps : List Parameter) (key : Option (List ℕ)) (body : Body) → IsFineBody body → (o : Option Route) (r : Answer Call) → AsksOn segments ps key body o r → IsFine r
on-fine segments ps key body b None r h = subst IsFine (sym h) tt
on-fine segments ps key body b (Some route) r h = asks-fine route.row (names_in route.path segments) ps key body b r h

among-fine : (routes : List Route) (method : List ℕ) (segments : List (List ℕ)) (ps : List Parameter) (key : Option (List ℕ)) (body : Body) → IsFineBody body → (r : Answer Call) → AsksAmong routes method segments ps key body r → IsFine r
among-fine [] method segments ps key body b r h = subst IsFine (sym h) tt
among-fine (route ∷ more) method segments ps key body b r h = on-fine segments ps key body b (find (has_method method) (route ∷ more)) r h

call-fine : (r : Answer Call) → IsFine r → IsFaultlessCall (call_of r)
call-fine (Ok c) h = h
call-fine (Err refusal) h = tt

request-fine : (method target : List ℕ) (key : Option (List ℕ)) (body : Body) (c : Call) → IsFineBody body → IsRequest method target key body c → IsFaultlessCall c
request-fine method target key body c b h =
    subst IsFaultlessCall (sym h.2) (call-fine h.0 (among-fine (routes_at (path_segments target)) method (segments_or_none (path_segments target)) (parameters target) key body b h.0 h.1))

-- ---- the lines of a script

checked-fine : (recompute : Bool) (bytes : List ℕ) (batch : Batch) → IsChecked recompute bytes batch → IsFaultlessBatch batch
checked-fine recompute bytes (Ready entries) h = checked_is_faultless recompute bytes entries h
checked-fine recompute bytes (Bad line cause) h = tt

import-fine : (target t : List ℕ) (body : Body) (b : Bool) → MatchBool b (IsLines target t body) (body ≡ ValueBody (text t)) → IsFineBody body
import-fine target t body true h = subst IsFineBody (sym h.2) (checked-fine (recomputes target) t h.0 h.1)
import-fine target t body false h = subst IsFineBody (sym h) tt

body-fine : (method target : List ℕ) (value : Option Tree) (body : Body) → IsBodyOf method target value body → IsFineBody body
body-fine method target None body h = subst IsFineBody (sym h) tt
body-fine method target (Some (text t)) body h = import-fine target t body (is_import method target) h
body-fine method target (Some null) body h = subst IsFineBody (sym h) tt
body-fine method target (Some (truth t)) body h = subst IsFineBody (sym h) tt
body-fine method target (Some (whole n)) body h = subst IsFineBody (sym h) tt
body-fine method target (Some part) body h = subst IsFineBody (sym h) tt
body-fine method target (Some (list ts)) body h = subst IsFineBody (sym h) tt
body-fine method target (Some (members ms)) body h = subst IsFineBody (sym h) tt

abbrev IsFineContent : Answer LineContent → Type 0
IsFineContent (Ok c) = IsFaultlessCall c.call
IsFineContent (Err refusal) = Unit {0}

line : {A : Type 0} {first : Answer A → Type 0} {next : A → Answer LineContent → Type 0} (r : Answer LineContent) → ((a : A) → first (Ok a) → next a r → IsFineContent r) → Then first next r → IsFineContent r
line r f h = then_so IsFineContent (λ refusal. tt) r f h

called : (moment : ℤ) (caller phase : ℕ) (method target : List ℕ) (key : Option (List ℕ)) (value : Option Tree) (r : Answer LineContent) → IsCallIn moment caller phase method target key value r → IsFineContent r
called moment caller phase method target key value r h = subst IsFineContent (sym h.4) (request-fine method target key h.0 h.1 (body-fine method target value h.0 h.2) h.3)

content-in : (lowest : ℕ) (ms : Members) (r : Answer LineContent) → ContentIn lowest ms r → IsFineContent r
content-in lowest ms r h =
    line r (λ _ _ k. line r (λ moment _ k. line r (λ caller _ k. line r (λ phase _ k. line r (λ method _ k. line r (λ target _ k. line r (λ key _ k. called moment caller phase method target key _ r k) k) k) k) k) k) k) h

content-by : (lowest : ℕ) (t : Tree) (r : Answer LineContent) → ContentBy lowest t r → IsFineContent r
content-by lowest (members ms) r h = content-in lowest ms r h
content-by lowest null r h = subst IsFineContent (sym h) tt
content-by lowest (truth b) r h = subst IsFineContent (sym h) tt
content-by lowest (whole n) r h = subst IsFineContent (sym h) tt
content-by lowest part r h = subst IsFineContent (sym h) tt
content-by lowest (text u) r h = subst IsFineContent (sym h) tt
content-by lowest (list ts) r h = subst IsFineContent (sym h) tt

line-fine : (lowest : ℕ) (bytes : List ℕ) (r : Answer LineContent) → LineAnswer lowest bytes r → IsFineContent r
line-fine lowest bytes r (inl found) = content-by lowest found.0 r found.2
line-fine lowest bytes r (inr fault) = subst IsFineContent (sym fault.answer) tt

of-fine : (phase number : ℕ) (r : Answer LineContent) → IsFineContent r → IsFaultlessLine (line_of phase number r)
of-fine phase number (Ok c) h = h
of-fine phase number (Err refusal) h = tt

all-fine : (phase : ℕ) (ps : List (ℕ × List ℕ)) (ls : List ScriptLine) → AreScript phase ps ls → Each IsFaultlessLine ls
all-fine phase [] [] h = tt
all-fine phase [] (l ∷ ls) h = absurd h
all-fine phase (p ∷ ps) [] h = absurd h
all-fine phase (p ∷ ps) (l ∷ ls) h = (subst IsFaultlessLine (sym h.2) (of-fine phase p.0 h.0 (line-fine phase p.1 h.0 h.1)), all-fine l.phase ps ls h.3)

pub scripts_import_faultless : ScriptsImportFaultless
scripts_import_faultless bytes ls h = all-fine 0 (script_lines bytes) ls h
