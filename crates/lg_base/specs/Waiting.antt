-- What waits in a buffer in front of a sink.
use Rattle.std.specs.Prelude.{ℕ, List, take, drop, Option}
use Rattle.lg_base.specs.Buffering.{Ahead}
use Rattle.lg_base.specs.declared.output_buffer.OutputBuffer.{OutputBuffer}

-- the bytes that aren't written yet
abbrev pub waiting : OutputBuffer → List ℕ
waiting b = drop b.start (take b.end b.bytes.items)

-- what a sink with this buffer in front of it stands for
abbrev pub AheadOf : {K : Type 0} → (K → Option (List ℕ)) → (K × OutputBuffer) → List ℕ → Type 0
AheadOf written p m = Ahead (written p.0) (waiting p.1) m
