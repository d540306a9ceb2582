use Rattle.std.proofs.Common.{refl}
use Rattle.lg_codec.proofs.Readings.{onward, halted}
use Rattle.lg_codec.proofs.writes.metadata_of.Goals as goal

pub returns-in_err-metadata : goal.returns-in_err-metadata
returns-in_err-metadata c = halted _ c.from_residual.ensures.1 (rw c.present.ensures at c.in_err-metadata.ensures)

pub returns : goal.returns
returns c = onward (rw c.present.ensures at c.in_ok-metadata.ensures) (record { answers = refl })
