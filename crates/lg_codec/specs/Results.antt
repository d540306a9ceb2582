-- The answer of a call that reads.
use Rattle.std.specs.Prelude.{Result, Ok, Err}
use Rattle.lg_readings.specs.Answers.{Answer}
use Rattle.lg_codec.specs.declared.stop.CodecStop.{CodecStop}
use Rattle.lg_codec.specs.declared.stop.CodecStop.TheVariants.{Refused, NoMemory}

-- what a call answers is an answer of the reading; nothing is said where memory is wanting
abbrev pub AnswersBy : {A : Type 0} → (Answer A → Type 0) → Result A CodecStop → Type 0
AnswersBy reading (Ok a) = reading (Ok a)
AnswersBy reading (Err (Refused refusal)) = reading (Err refusal)
AnswersBy reading (Err NoMemory) = Unit {0}

pub record Reads {A : Type 0} (reading : Answer A → Type 0) (result : Result A CodecStop) : Type 0 where
  pub answers : AnswersBy reading result
