-- What the readers of a line's parts answer.
use Rattle.std.specs.Prelude.{◌≡◌, ℕ, List, [], ◌∷◌, ◌++◌, Option, Some, None, Result, Ok, Err}
use Rattle.std.specs.Borrow.{Bor}
use Rattle.lg_codec.specs.declared.stop.CodecStop.{CodecStop}
use Rattle.lg_codec.specs.declared.stop.CodecStop.TheVariants.{Refused, NoMemory}
use Rattle.lg_types.specs.declared.refusals.Refusal.{Refusal}
use Rattle.lg_views.specs.declared.lines.ScriptLine.{ScriptLine}
use Rattle.lg_readings.specs.Answers.{Answer}
use Rattle.lg_readings.specs.Script as script
use Rattle.lg_batch.specs.declared.content.LineContent.{LineContent}
use Rattle.lg_batch.specs.Lines.{IsLine}

-- what a call answers, seen by `seen`, is an answer of the reading; nothing is said where memory is wanting
abbrev pub AnswersAs : {A B : Type 0} → (B → A) → (Answer A → Type 0) → Result B CodecStop → Type 0
AnswersAs seen reading (Ok b) = reading (Ok (seen b))
AnswersAs seen reading (Err (Refused refusal)) = reading (Err refusal)
AnswersAs seen reading (Err NoMemory) = Unit {0}

pub record ReadsAs {A B : Type 0} (seen : B → A) (reading : Answer A → Type 0) (result : Result B CodecStop) : Type 0 where
  pub answers : AnswersAs seen reading result

-- bytes that are lent
abbrev pub lent_bytes : Bor (List ℕ) → List ℕ
lent_bytes b = b.now

abbrev pub content_seen : LineContent → script.LineContent
content_seen c = script.content c.moment c.caller c.phase c.call

-- the refusal of a fault, or want of memory
abbrev pub stop_of : Option Refusal → CodecStop
stop_of None = NoMemory
stop_of (Some refusal) = Refused refusal

-- the line of this number and these bytes stands at the end, where it has bytes, and the next phase is no earlier than its own
abbrev pub Appends : ℕ → ℕ → List ℕ → List ScriptLine → List ScriptLine → ℕ → Type 0
Appends phase number [] old new after = (new ≡ old) × (after ≡ phase)
Appends phase number (b ∷ bs) old new after = (l : ScriptLine) × IsLine phase (number, b ∷ bs) l × (new ≡ old ++ l ∷ []) × (after ≡ l.phase)
