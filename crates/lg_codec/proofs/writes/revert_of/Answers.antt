use Rattle.std.proofs.Common.{refl}
use Rattle.lg_codec.proofs.Readings.{onward, halted}
use Rattle.lg_codec.proofs.writes.revert_of.Goals as goal

pub returns-in_err-check_revert : goal.returns-in_err-check_revert
returns-in_err-check_revert c = halted _ c.from_residual.ensures.1 (rw c.present.ensures at c.in_err-check_revert.ensures)

pub returns : goal.returns
returns c = onward (rw c.present.ensures at c.in_ok-check_revert.ensures) (record { answers = refl })
