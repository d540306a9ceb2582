-- The laws of an entry's line.
use Rattle.std.specs.Prelude.{◌≡◌, ℕ, ◌^◌, ◌<◌, ℤ, Bool, true, List, [], ◌++◌, length, Ok, Err}
use Rattle.std.specs.List.{AllByRecursion}
use Rattle.lg_json.specs.Tree.{Tree}
use Rattle.lg_types.specs.declared.calls.Batch.{Batch}
use Rattle.lg_types.specs.declared.calls.Batch.TheVariants.{Ready}
use Rattle.lg_types.specs.declared.calls.Call.TheVariants as call
use Rattle.lg_types.specs.EntryTexts.{entry_text}
use Rattle.lg_types.specs.declared.forms.EntryForm.TheVariants.{FirstLine}
use Rattle.lg_types.specs.declared.records.Entry.{Entry}
use Rattle.lg_types.specs.declared.records.Event.{Event}
use Rattle.lg_types.specs.declared.refusals.Reason.{Reason}
use Rattle.lg_types.specs.declared.refusals.Refusal.{Refusal}
use Rattle.lg_types.specs.declared.refusals.Refusal.TheVariants.{Member}
use Rattle.lg_readings.specs.Answers.{Answer}
use Rattle.lg_types.specs.Lists.{Each}
use Rattle.lg_types.specs.Log.{log, is_there}
use Rattle.lg_types.specs.Records.{IsEntry}
use Rattle.lg_readings.specs.Checked.{Shows, IsChecked, IsImportable}
use Rattle.lg_readings.specs.EntryLines.{LineOf}
use Rattle.lg_views.specs.declared.answers.Answer.{Answer as Answered}
use Rattle.lg_views.specs.declared.lines.ScriptLine.{ScriptLine}
use Rattle.lg_views.specs.History.{Legal}
use Rattle.lg_views.specs.Import.{IsFaultless, export}
use Rattle.lg_views.specs.Laws.{IsGoodLine, IsFaultlessLine}
use Rattle.lg_views.specs.Outcome.{outcome, AnswerAlike}
use Rattle.lg_views.specs.ReplyTexts.{line_text}

-- the reading gives this value, and nothing else
pub record GivesOnly {A : Type 0} (reading : Answer A → Type 0) (a : A) : Type 0 where
  pub gives : reading (Ok a)
  pub only : (r : Answer A) → reading r → r ≡ Ok a

-- the bytes are a JSON text within the limits of one value, which is read as the entry, in the log form, and as nothing else
pub record ReadsAs (bytes : List ℕ) (e : Entry) (form : ℕ) : Type 0 where
  pub line : Tree
  pub shows : Shows bytes line
  pub one : (t : Tree) → Shows bytes t → t ≡ line
  pub reads : (recompute : Bool) → GivesOnly (LineOf recompute line) (record { entry = e; form = form })

-- the line that replies and exports have
abbrev pub EntryReadsBack : Type 0
EntryReadsBack = (e : Entry) → IsEntry e → ReadsAs (line_text e) e 2

-- the line of log form 1
abbrev pub FirstLineReadsBack : Type 0
FirstLineReadsBack = (e : Entry) → IsEntry e → ReadsAs (entry_text e FirstLine) e 1

-- the bytes of an export of a faultless log come to that log, and to nothing else
pub record ComesTo (recompute : Bool) (bytes : List ℕ) (batch : Batch) : Type 0 where
  pub comes : IsChecked recompute bytes batch
  pub only : (b : Batch) → IsChecked recompute bytes b → b ≡ batch

abbrev pub ExportReadsBack : Type 0
ExportReadsBack = (recompute : Bool) (g : List Entry) → IsFaultless g → AllByRecursion IsEntry g → ComesTo recompute (export g) (Ready g)

-- a faultless log whose entries are well made is importable
abbrev pub WellMadeImportable : Type 0
WellMadeImportable = (g : List Entry) → IsFaultless g → AllByRecursion IsEntry g → IsImportable g

-- in a legal history of good calls whose batches are faultless, with fewer events than ids, every log is importable
pub record IsGoodHistory (events : List Event) (lines : List ScriptLine) (answers : List Answered) : Type 0 where
  pub good : Each IsGoodLine lines
  pub batches : Each IsFaultlessLine lines
  pub legal : Legal events lines answers
  pub room : length events < 2 ^ 64

abbrev pub LegalLogsImportable : Type 0
LegalLogsImportable = (events : List Event) (lines : List ScriptLine) (answers : List Answered) (ledger : List ℕ) → IsGoodHistory events lines answers → IsImportable (log events ledger)

-- whatever the exported bytes of such a log come to, imported into a ledger without entries, of this or of another list of events,
-- makes that ledger answer alike
abbrev pub ExportedAnswersAlike : Type 0
ExportedAnswersAlike = (events others : List Event) (lines : List ScriptLine) (answers : List Answered) (recompute : Bool) (ledger copy : List ℕ) (batch : Batch) (now : ℤ)
    → IsGoodHistory events lines answers → is_there events ledger ≡ true → is_there others copy ≡ true → log others copy ≡ []
    → IsChecked recompute (export (log events ledger)) batch
    → AnswerAlike events ledger (others ++ (outcome others (call.Import copy batch) now).1) copy

-- a refusal of a member, for a reason
pub record IsMemberRefusal (refusal : Refusal) : Type 0 where
  pub path : List ℕ
  pub reason : Reason
  pub same : refusal ≡ Member path reason

abbrev pub LinesRefuseMembers : Type 0
LinesRefuseMembers = (recompute : Bool) (line : Tree) (refusal : Refusal) → LineOf recompute line (Err refusal) → IsMemberRefusal refusal
