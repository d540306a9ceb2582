use Rattle.std.proofs.Common.{refl}
use Rattle.lg_codec.proofs.Readings.{onward, halted}
use Rattle.lg_codec.proofs.entry_bodies.some_reference_of.Goals as goal

pub returns-in_err-reference : goal.returns-in_err-reference
returns-in_err-reference c = halted _ c.from_residual.ensures.1 c.in_err-reference.ensures

pub returns : goal.returns
returns c = onward c.in_ok-reference.ensures (record { answers = refl })
