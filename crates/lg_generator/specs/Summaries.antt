-- What came of a made script: how much was accepted, what three accounts hold in the end, and the hash of the last entry.
use Rattle.std.specs.Prelude.{◌≡◌, ℕ, Bool, List, [], ◌∷◌, ◌++◌, Option, Some, None, length, nat_lt, count_by, codes, decimal}
use Rattle.std.specs.Fmt.{signed_decimal}
use Rattle.std.specs.List.{concat}
use Rattle.lg_base.specs.Growth.{Rose}
use Rattle.lg_base.specs.Volumes.{balance_of}
use Rattle.lg_base.specs.declared.amounts.Volumes.{Volumes}
use Rattle.lg_base.specs.declared.sink.Sink.{Ghosts as SinkGhosts}
use Rattle.lg_batch.specs.Buffered.{HoldsWhole, HoldsFront}
use Rattle.lg_batch.specs.Lines.{AreLines}
use Rattle.lg_batch.specs.Runs.{AreAnswered}
use Rattle.lg_batch.specs.declared.run_end.RunEnd.{RunEnd}
use Rattle.lg_batch.specs.declared.run_end.RunEnd.TheVariants.{Done, WriteFault, NoMemory}
use Rattle.lg_generator.specs.Made.{made_script}
use Rattle.lg_generator.specs.declared.summary.Summary.{Summary}
use Rattle.lg_types.specs.Chain.{head}
use Rattle.lg_types.specs.Log.{log}
use Rattle.lg_types.specs.Moves.{moves, total}
use Rattle.lg_types.specs.declared.records.Entry.{Entry}
use Rattle.lg_types.specs.declared.records.Event.{Event}
use Rattle.lg_views.specs.RefusalTexts.{hex_text}
use Rattle.lg_views.specs.ReplyTexts.{status_of}
use Rattle.lg_views.specs.declared.answers.Answer.{Answer}
use Rattle.lg_views.specs.declared.lines.ScriptLine.{ScriptLine}

-- an answer that is no refusal
abbrev pub is_accepted : Answer → Bool
is_accepted a = nat_lt (status_of a.reply.content) 400

abbrev pub accepted : List Answer → ℕ
accepted answers = count_by is_accepted answers

-- how many lines, accepted lines and entries
unfoldable pub counts_text : Summary → List ℕ
counts_text s = concat (codes "lines " ∷ decimal s.lines ∷ codes "\naccepted " ∷ decimal s.accepted ∷ codes "\nentries " ∷ decimal s.entries ∷ codes "\n" ∷ [])

-- the input, the output and the balance of an account in dollars, in cents
unfoldable pub volumes_line : List ℕ → Volumes → List ℕ
volumes_line account v = concat (account ∷ codes " USD/2 " ∷ decimal v.input ∷ codes " " ∷ decimal v.output ∷ codes " " ∷ signed_decimal (balance_of v) ∷ codes "\n" ∷ [])

-- a hash in hexadecimal
abbrev pub hash_or_none : Option (List ℕ) → List ℕ
hash_or_none None = codes "none"
hash_or_none (Some hash) = hex_text hash

unfoldable pub head_line : Option (List ℕ) → List ℕ
head_line hash = codes "head " ++ (hash_or_none hash ++ codes "\n")

-- the lines that tell it
abbrev pub summary_text : Summary → List ℕ
summary_text s = counts_text s ++ (volumes_line (codes "shop:fees") s.fees ++ (volumes_line (codes "shop:sales") s.sales ++ (volumes_line (codes "world") s.world ++ head_line s.head)))

-- what an account holds in dollars after the entries
abbrev pub holding : List Entry → List ℕ → Volumes
holding entries account = total (moves entries) account (codes "USD/2")

-- what the entries of the ledger `default` and the answers come to
abbrev pub summary_of : ℕ → List Entry → List Answer → Summary
summary_of lines entries answers = record {
  lines = lines;
  accepted = accepted answers;
  entries = length entries;
  fees = holding entries (codes "shop:fees");
  sales = holding entries (codes "shop:sales");
  world = holding entries (codes "world");
  head = head entries;
}

-- the text is the summary of a history of one thread of the made script
pub record IsSummary (seed lines : ℕ) (text : List ℕ) : Type 0 where
  pub script : List ScriptLine
  pub are_lines : AreLines (made_script seed lines) script
  pub events : List Event
  pub answers : List Answer
  pub alone : AreAnswered events script answers
  pub text_is : text ≡ summary_text (summary_of lines (log events (codes "default")) answers)

-- how a run of a made script ends: with the summary written, or a front of it where the sink failed; with nothing
abbrev pub EndsSummary : {K : Type 0} → SinkGhosts K → ℕ → ℕ → K → K → RunEnd → Type 0
EndsSummary sink seed lines old new Done = (text : List ℕ) × IsSummary seed lines text × HoldsWhole sink old new text
EndsSummary sink seed lines old new WriteFault = Rose (sink.faults old) (sink.faults new) × ((text : List ℕ) × IsSummary seed lines text × HoldsFront sink old new text)
EndsSummary sink seed lines old new NoMemory = new ≡ old

-- how the writing of a made script ends: with all of it written, or a front of it where the sink failed; with nothing
abbrev pub EndsScript : {K : Type 0} → SinkGhosts K → ℕ → ℕ → K → K → RunEnd → Type 0
EndsScript sink seed lines old new Done = HoldsWhole sink old new (made_script seed lines)
EndsScript sink seed lines old new WriteFault = Rose (sink.faults old) (sink.faults new) × HoldsFront sink old new (made_script seed lines)
EndsScript sink seed lines old new NoMemory = new ≡ old
