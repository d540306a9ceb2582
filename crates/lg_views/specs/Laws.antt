-- The laws of outcomes and of histories.
use Rattle.std.specs.Prelude.{◌≡◌, ℕ, ◌+◌, ◌^◌, ◌<◌, ℤ, Bool, true, List, [], ◌∷◌, ◌++◌, length, Some, None}
use Rattle.std.specs.List.{AllByRecursion}
use Rattle.lg_types.specs.declared.calls.Batch.{Batch}
use Rattle.lg_types.specs.declared.calls.Batch.TheVariants.{Ready, Bad}
use Rattle.lg_types.specs.declared.calls.Call.{Call}
use Rattle.lg_types.specs.declared.calls.Call.TheVariants as call
use Rattle.lg_types.specs.declared.records.Entry.{Entry}
use Rattle.lg_types.specs.declared.records.Event.{Event}
use Rattle.lg_types.specs.GoodCalls.{IsGoodCall}
use Rattle.lg_types.specs.Lists.{Each}
use Rattle.lg_types.specs.Log.{log, is_there}
use Rattle.lg_types.specs.Records.{IsEntry}
use Rattle.lg_views.specs.declared.answers.Answer.{Answer}
use Rattle.lg_views.specs.declared.lines.ScriptLine.{ScriptLine}
use Rattle.lg_views.specs.declared.replies.Content.{Content}
use Rattle.lg_views.specs.declared.replies.Content.TheVariants as content
use Rattle.lg_views.specs.History.{Legal, Alone}
use Rattle.lg_views.specs.Import.{fault, IsFaultless, NumberedLine, LinesRead, Read, read_lines_from, checked_lines}
use Rattle.lg_views.specs.Outcome.{Task, ToWrite, ToBulk, ToImport, ToRead, in_ledger, outcome, AnswerAlike}
use Rattle.lg_base.specs.Volumes.{IsWithinLimit}
use Rattle.lg_types.specs.declared.moves.Move.{Move}
use Rattle.lg_types.specs.declared.records.Transaction.{Transaction}
use Rattle.lg_types.specs.declared.records.Target.TheVariants.{Transaction as TransactionOf}
use Rattle.lg_types.specs.Changes.{metadata_at}
use Rattle.lg_types.specs.Moves.{moves, volumes, body_transaction}

-- the entries of a batch come from lines that were checked, so they are faultless
abbrev pub IsFaultlessBatch : Batch → Type 0
IsFaultlessBatch (Ready entries) = IsFaultless entries
IsFaultlessBatch (Bad line cause) = Unit {0}

abbrev pub IsFaultlessTask : Task → Type 0
IsFaultlessTask (ToWrite key write) = Unit {0}
IsFaultlessTask (ToBulk elements atomic go_on) = Unit {0}
IsFaultlessTask (ToImport batch) = IsFaultlessBatch batch
IsFaultlessTask (ToRead read) = Unit {0}

abbrev pub IsFaultlessCall : Call → Type 0
IsFaultlessCall (call.Unreadable refusal) = Unit {0}
IsFaultlessCall (call.MakeLedger ledger bucket metadata) = Unit {0}
IsFaultlessCall (call.Write ledger key write) = Unit {0}
IsFaultlessCall (call.Bulk ledger elements atomic go_on) = Unit {0}
IsFaultlessCall (call.Import ledger batch) = IsFaultlessBatch batch
IsFaultlessCall (call.Ledgers query) = Unit {0}
IsFaultlessCall (call.Read ledger read) = Unit {0}

-- every log of an event list is faultless
pub record AllFaultless (events : List Event) : Type 0 where
  pub each : (ledger : List ℕ) → IsFaultless (log events ledger)

-- every outcome keeps every log faultless
abbrev pub OutcomesKeepLogs : Type 0
OutcomesKeepLogs = (events : List Event) (c : Call) (now : ℤ) → IsFaultlessCall c → AllFaultless events → AllFaultless (events ++ (outcome events c now).1)

-- every entry of every log of an event list is well made
pub record AllWellMade (events : List Event) : Type 0 where
  pub each : (ledger : List ℕ) → AllByRecursion IsEntry (log events ledger)

-- every outcome of a good call keeps every entry well made, while there are fewer events than ids
abbrev pub OutcomesKeepEntries : Type 0
OutcomesKeepEntries = (events : List Event) (c : Call) (now : ℤ) → IsGoodCall c → length (events ++ (outcome events c now).1) < 2 ^ 64 → AllWellMade events → AllWellMade (events ++ (outcome events c now).1)

-- every log of a legal history is faultless
abbrev pub IsFaultlessLine : ScriptLine → Type 0
IsFaultlessLine l = IsFaultlessCall l.call

abbrev pub LegalLogsFaultless : Type 0
LegalLogsFaultless = (events : List Event) (lines : List ScriptLine) (answers : List Answer) → Each IsFaultlessLine lines → Legal events lines answers → AllFaultless events

-- and every entry of every log well made, where the lines are good calls
abbrev pub IsGoodLine : ScriptLine → Type 0
IsGoodLine l = IsGoodCall l.call

abbrev pub LegalLogsWellMade : Type 0
LegalLogsWellMade = (events : List Event) (lines : List ScriptLine) (answers : List Answer) → Each IsGoodLine lines → Legal events lines answers → length events < 2 ^ 64 → AllWellMade events

-- a history of one thread is legal
abbrev pub AloneIsLegal : Type 0
AloneIsLegal = (events : List Event) (lines : List ScriptLine) (answers : List Answer) → Alone events lines answers → Legal events lines answers

-- the lines of a log's entries, numbered from n
abbrev pub lines_from : ℕ → List Entry → List NumberedLine
lines_from n [] = []
lines_from n (e ∷ es) = record { number = n; line = Read 2 e } ∷ lines_from (n + 1) es

-- the lines of a faultless log read back as the log
abbrev pub ReadsBack : Type 0
ReadsBack = (recompute : Bool) (g : List Entry) → IsFaultless g → checked_lines recompute (lines_from 1 g) ≡ Ready g

-- reading some lines and then others goes on from where the first ended
abbrev pub LinesSplit : Type 0
LinesSplit = (recompute : Bool) (s : LinesRead) (ls more : List NumberedLine) → read_lines_from recompute s (ls ++ more) ≡ read_lines_from recompute (read_lines_from recompute s ls) more

-- what lines come to is faultless
abbrev pub ChecksFaultless : Type 0
ChecksFaultless = (recompute : Bool) (ls : List NumberedLine) (g : List Entry) → checked_lines recompute ls ≡ Ready g → IsFaultless g

-- the log of a ledger that is imported into a ledger without entries, of this or of another list of events, answers there alike
abbrev pub ImportedAnswersAlike : Type 0
ImportedAnswersAlike = (events others : List Event) (ledger copy : List ℕ) (now : ℤ) → is_there events ledger ≡ true → is_there others copy ≡ true → log others copy ≡ []
    → AnswerAlike events ledger (others ++ (outcome others (call.Import copy (Ready (log events ledger))) now).1) copy

-- what is asked of a ledger is answered by its own log alone
abbrev pub AnsweredByOneLog : Type 0
AnsweredByOneLog = (task : Task) (now : ℤ) (ledger : List ℕ) (events more : List Event) → is_there more ledger ≡ is_there events ledger → log more ledger ≡ log events ledger → in_ledger more ledger task now ≡ in_ledger events ledger task now

-- a refused call appends nothing
abbrev pub IsRefusal : Content → Type 0
IsRefusal (content.Refused refusal) = Unit {0}
IsRefusal _ = ⊥

abbrev pub RefusedAppendsNothing : Type 0
RefusedAppendsNothing = (events : List Event) (c : Call) (now : ℤ) → IsRefusal (outcome events c now).0.content → (outcome events c now).1 ≡ []

-- in a faultless log no input and no output passes the limit, whatever moves are counted
abbrev pub VolumesWithinLimit : Type 0
VolumesWithinLimit = (g : List Entry) → IsFaultless g → (test : Move → Bool) (account asset : List ℕ) → IsWithinLimit (volumes (moves g) test account asset)

-- what the first reply shows of metadata, those of the transaction alone, is what a reading after its entry shows
abbrev pub NewMetadataShown : Type 0
NewMetadataShown = (g : List Entry) (e : Entry) (t : Transaction) → IsFaultless g → fault g e ≡ None → body_transaction e.body ≡ Some t → metadata_at (g ++ e ∷ []) (TransactionOf t.id) None ≡ t.metadata
