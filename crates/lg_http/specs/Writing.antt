-- Writing a text to a sink through a buffer.
use Rattle.std.specs.Prelude.{ℕ, List, ◌++◌, Result, OnOk, OnErr}
use Rattle.lg_base.specs.Buffering.{ToldInPart}
use Rattle.lg_base.specs.Growth.{HasCause, Grows}
use Rattle.lg_base.specs.Told.{Told}
use Rattle.lg_base.specs.declared.sink.Sink.{Ghosts as SinkGhosts}

-- the sink holds what it held before, followed by the text
abbrev pub HoldsWhole : {K : Type 0} → SinkGhosts K → K → K → List ℕ → Type 0
HoldsWhole sink old new text = Grows (λ k m. Told (sink.written k) m) old new text

-- the sink holds some front of that
abbrev pub HoldsFront : {K : Type 0} → SinkGhosts K → K → K → List ℕ → Type 0
HoldsFront sink old new text = (m : List ℕ) → Told (sink.written old) m → ToldInPart (sink.written new) (m ++ text)

-- the call wrote the text, whole after an Ok and a front of it after an error, which comes only by a fault of the sink
pub record WritesThrough {K T E : Type 0} (sink : SinkGhosts K) (old new : K) (text : List ℕ) (result : Result T E) : Type 0 where
  pub ok : OnOk result (HoldsWhole sink old new text)
  pub stopped : OnErr result (HoldsFront sink old new text)
  pub cause : HasCause (sink.faults old) (sink.faults new) result
