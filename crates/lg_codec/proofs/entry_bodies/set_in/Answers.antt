use Rattle.std.proofs.Common.{refl}
use Rattle.lg_codec.proofs.Readings.{onward, halted}
use Rattle.lg_codec.proofs.entry_bodies.set_in.Goals as goal

pub returns-in_err-target : goal.returns-in_err-target
returns-in_err-target c = halted _ c.from_residual.ensures.1 c.in_err-target.ensures

pub returns-in_err-metadata : goal.returns-in_err-metadata
returns-in_err-metadata c = onward c.in_ok-target.ensures (halted _ c.from_residual-in_err-metadata.ensures.1 (rw c.under.ensures at c.in_err-metadata.ensures))

pub returns : goal.returns
returns c = onward c.in_ok-target.ensures (onward (rw c.under.ensures at c.in_ok-metadata.ensures) (record { answers = refl }))
