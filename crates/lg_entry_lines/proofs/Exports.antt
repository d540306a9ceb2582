-- The bytes of an export come to the log.
use Rattle.std.proofs.Common.{◌≡◌, ℕ, ◌+◌, Bool, true, false, cond, List, [], ◌∷◌, ◌++◌, length, arith, inl, inr, refl, sym, ap, subst, ◌∙◌, append_assoc}
use Rattle.std.specs.Prelude.{Ok, ◌==◌, codes, decimal}
use Rattle.std.proofs.lemmas.Bool.{cond-true, lt-ltb}
use Rattle.form_urlencoded.specs.Form.{is_nonempty}
use Rattle.lg_types.specs.EntryTexts.{body_text, mark_text}
use Rattle.lg_types.specs.PartTexts.{date_text, hash_text, optional_text}
use Rattle.std.specs.List.{AllByRecursion, AllZip, concat, filter, enumerate_from, slice_split, onto_first}
use Rattle.lg_json.specs.Tree.{Tree}
use Rattle.lg_types.specs.declared.calls.Batch.{Batch}
use Rattle.lg_types.specs.declared.calls.Batch.TheVariants.{Ready}
use Rattle.lg_types.specs.declared.calls.Call.TheVariants as call
use Rattle.lg_types.specs.declared.records.Entry.{Entry}
use Rattle.lg_types.specs.declared.records.Event.{Event}
use Rattle.lg_types.specs.Log.{log}
use Rattle.lg_readings.specs.Answers.{Answer}
use Rattle.lg_readings.specs.Checked.{is_newline, has_bytes, IsReadAs, IsLine, IsNumberedLine}
use Rattle.lg_readings.specs.EntryLines.{LineOf}
use Rattle.lg_views.specs.declared.answers.Answer.{Answer as Answered}
use Rattle.lg_views.specs.declared.lines.ScriptLine.{ScriptLine}
use Rattle.lg_views.specs.Import.{IsFaultless, ReadLine, Read, NumberedLine, export, checked_lines}
use Rattle.lg_views.specs.Laws.{lines_from}
use Rattle.lg_views.specs.Outcome.{outcome, AnswerAlike}
use Rattle.lg_views.specs.ReplyTexts.{line_text}
use Rattle.lg_readings.specs.declared.readings.ReadEntry.{ReadEntry}
use Rattle.lg_views.proofs.Histories.{legal_logs_faultless, legal_logs_well_made}
use Rattle.lg_views.proofs.Imported.{imported_answers_alike}
use Rattle.lg_views.proofs.ReadBack.{reads_back}
use Rattle.lg_entry_lines.specs.Laws.{ReadsAs, ExportReadsBack, IsGoodHistory, WellMadeImportable, LegalLogsImportable, ExportedAnswersAlike}
use Rattle.lg_types.specs.Records.{IsEntry}
use Rattle.lg_entry_lines.proofs.Entries.{entry_reads_back}
use Rattle.lg_entry_lines.proofs.LineBreaks.{line_unbroken}

-- ---- the lines of the bytes

-- a first line without a newline in it, and what follows its newline
cut : (line rest : List ℕ) → AllByRecursion (λ b. (b == 10) ≡ false) line → slice_split is_newline (line ++ 10 ∷ rest) ≡ line ∷ slice_split is_newline rest
cut [] rest h = refl
cut (b ∷ bs) rest h =
    ap (λ (t : Bool). cond t ([] ∷ slice_split is_newline (bs ++ 10 ∷ rest)) (onto_first b (slice_split is_newline (bs ++ 10 ∷ rest)))) h.0
    ∙ ap (λ (parts : List (List ℕ)). onto_first b parts) (cut bs rest h.1)

-- the lines of the entries, numbered
abbrev texts_from : ℕ → List Entry → List (ℕ × List ℕ)
texts_from n [] = []
texts_from n (e ∷ es) = (n, line_text e) ∷ texts_from (n + 1) es

exported : (e : Entry) (es : List Entry) → export (e ∷ es) ≡ line_text e ++ 10 ∷ export es
exported e es = append_assoc (line_text e) (10 ∷ []) (export es)

nonempty : (b : ℕ) (bs : List ℕ) → is_nonempty (b ∷ bs) ≡ true
nonempty b bs = lt-ltb 0 (length (b ∷ bs)) (omega arith)

line_nonempty : (e : Entry) → is_nonempty (line_text e) ≡ true
line_nonempty e = nonempty 123 (concat (body_text e.body ∷ codes ",\"date\":" ∷ date_text e.date ∷ optional_text mark_text e.mark ∷ codes ",\"form\":2,\"id\":" ∷ decimal e.id ∷ codes ",\"hash\":" ∷ hash_text e.hash ∷ codes "}" ∷ []))

kept : (n : ℕ) (line : List ℕ) (ls : List (ℕ × List ℕ)) → is_nonempty line ≡ true → filter has_bytes ((n, line) ∷ ls) ≡ (n, line) ∷ filter has_bytes ls
kept n line ls h = cond-true (is_nonempty line) ((n, line) ∷ filter has_bytes ls) (filter has_bytes ls) h

lines_are : (n : ℕ) (g : List Entry) → AllByRecursion IsEntry g → filter has_bytes (enumerate_from n (slice_split is_newline (export g))) ≡ texts_from n g
lines_are n [] h = refl
lines_are n (e ∷ es) h =
    ap (λ (bytes : List ℕ). filter has_bytes (enumerate_from n (slice_split is_newline bytes))) (exported e es)
    ∙ ap (λ (parts : List (List ℕ)). filter has_bytes (enumerate_from n parts)) (cut (line_text e) (export es) (line_unbroken e h.0).each)
    ∙ kept n (line_text e) (enumerate_from (n + 1) (slice_split is_newline (export es))) (line_nonempty e)
    ∙ ap (λ (ls : List (ℕ × List ℕ)). (n, line_text e) ∷ ls) (lines_are (n + 1) es h.1)

-- ---- what the lines are read as

is_line : (recompute : Bool) (bytes : List ℕ) (e : Entry) → ReadsAs bytes e 2 → IsLine recompute bytes (Read 2 e)
is_line recompute bytes e back = inl (back.line, Ok (record { entry = e; form = 2 }), back.shows, (back.reads recompute).gives, refl)

all_lines : (recompute : Bool) (n : ℕ) (g : List Entry) → AllByRecursion IsEntry g → AllZip (IsNumberedLine recompute) (texts_from n g) (lines_from n g)
all_lines recompute n [] h = tt
all_lines recompute n (e ∷ es) h = (record { number = refl; is = is_line recompute (line_text e) e (entry_reads_back e h.0) }, all_lines recompute (n + 1) es h.1)

-- ---- and as nothing else

read_as : (found : ReadEntry) (r : Answer ReadEntry) (line : ReadLine) → r ≡ Ok found → IsReadAs r line → line ≡ Read found.form found.entry
read_as found r line e h = subst (λ (x : Answer ReadEntry). IsReadAs x line → line ≡ Read found.form found.entry) (sym e) (λ k. k) h

only_line : (recompute : Bool) (bytes : List ℕ) (e : Entry) (line : ReadLine) → ReadsAs bytes e 2 → IsLine recompute bytes line → line ≡ Read 2 e
only_line recompute bytes e line back h = elim h [
  | inl w ↦ read_as (record { entry = e; form = 2 }) w.1 line ((back.reads recompute).only w.1 (subst (λ (t : Tree). LineOf recompute t w.1) (back.one w.0 w.2) w.3)) w.4
  | inr w ↦ absurd (w.0 back.line back.shows)
]

same_line : (n : ℕ) (e : Entry) (l : NumberedLine) → l.number ≡ n → l.line ≡ Read 2 e → l ≡ record { number = n; line = Read 2 e }
same_line n e l p q = λ i. record { number = p i; line = q i }

only_lines : (recompute : Bool) (n : ℕ) (g : List Entry) (ls : List NumberedLine) → AllByRecursion IsEntry g → AllZip (IsNumberedLine recompute) (texts_from n g) ls → ls ≡ lines_from n g
only_lines recompute n [] [] h k = refl
only_lines recompute n [] (l ∷ ls) h k = absurd k
only_lines recompute n (e ∷ es) [] h k = absurd k
only_lines recompute n (e ∷ es) (l ∷ ls) h k =
    let first : l ≡ record { number = n; line = Read 2 e } = same_line n e l k.0.number (only_line recompute (line_text e) e l.line (entry_reads_back e h.0) k.0.is) in
    let others : ls ≡ lines_from (n + 1) es = only_lines recompute (n + 1) es ls h.1 k.1 in
    λ i. first i ∷ others i

pub export_reads_back : ExportReadsBack
export_reads_back recompute g faultless h = record {
  comes = record {
    lines = lines_from 1 g;
    read = subst (λ (ls : List (ℕ × List ℕ)). AllZip (IsNumberedLine recompute) ls (lines_from 1 g)) (sym (lines_are 1 g h)) (all_lines recompute 1 g h);
    checked = sym (reads_back recompute g faultless);
  };
  only = λ b c.
      let same : c.lines ≡ lines_from 1 g = only_lines recompute 1 g c.lines h (subst (λ (ls : List (ℕ × List ℕ)). AllZip (IsNumberedLine recompute) ls c.lines) (lines_are 1 g h) c.read) in
      c.checked ∙ ap (checked_lines recompute) same ∙ reads_back recompute g faultless;
}

pub well_made_importable : WellMadeImportable
well_made_importable g faultless h = record { comes = (export_reads_back false g faultless h).comes }

legal-log : (events : List Event) (lines : List ScriptLine) (answers : List Answered) (ledger : List ℕ) → IsGoodHistory events lines answers → IsFaultless (log events ledger) × AllByRecursion IsEntry (log events ledger)
legal-log events lines answers ledger h =
    ((legal_logs_faultless events lines answers h.batches h.legal).each ledger, (legal_logs_well_made events lines answers h.good h.legal h.room).each ledger)

pub legal_logs_importable : LegalLogsImportable
legal_logs_importable events lines answers ledger h =
    let both = legal-log events lines answers ledger h in
    well_made_importable (log events ledger) both.0 both.1

pub exported_answers_alike : ExportedAnswersAlike
exported_answers_alike events others lines answers recompute ledger copy batch now h there here empty read =
    let both = legal-log events lines answers ledger h in
    let same : batch ≡ Ready (log events ledger) = (export_reads_back recompute (log events ledger) both.0 both.1).only batch read in
    subst (λ (b : Batch). AnswerAlike events ledger (others ++ (outcome others (call.Import copy b) now).1) copy) (sym same) (imported_answers_alike events others ledger copy now there here empty)
