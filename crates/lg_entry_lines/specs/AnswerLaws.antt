-- What a JSON value is read as is one answer: a value or the first refusal.
use Rattle.std.specs.Prelude.{◌≡◌, Bool}
use Rattle.lg_codec.specs.Writes.{WriteOf}
use Rattle.lg_codec.specs.declared.kind.WriteKind.{WriteKind}
use Rattle.lg_json.specs.Tree.{Tree}
use Rattle.lg_readings.specs.Answers.{Answer}
use Rattle.lg_readings.specs.Bodies.{LedgerOf}
use Rattle.lg_readings.specs.Elements.{ElementsOf}
use Rattle.lg_readings.specs.EntryLines.{LineOf}

-- the reading has at most one answer
pub record HasOneAnswer {A : Type 0} (reading : Answer A → Type 0) : Type 0 where
  pub same : (r s : Answer A) → reading r → reading s → r ≡ s

abbrev pub WritesHaveOneAnswer : Type 0
WritesHaveOneAnswer = (kind : WriteKind) (body : Tree) → HasOneAnswer (WriteOf kind body)

abbrev pub LedgersHaveOneAnswer : Type 0
LedgersHaveOneAnswer = (body : Tree) → HasOneAnswer (LedgerOf body)

abbrev pub ElementsHaveOneAnswer : Type 0
ElementsHaveOneAnswer = (body : Tree) → HasOneAnswer (ElementsOf body)

abbrev pub LinesHaveOneAnswer : Type 0
LinesHaveOneAnswer = (recompute : Bool) (line : Tree) → HasOneAnswer (LineOf recompute line)
