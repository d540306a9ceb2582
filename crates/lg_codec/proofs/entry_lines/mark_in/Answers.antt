use Rattle.lg_codec.proofs.Readings.{onward, halted}
use Rattle.lg_codec.proofs.entry_lines.mark_in.Goals as goal

pub returns-in_err-key : goal.returns-in_err-key
returns-in_err-key c = halted _ c.from_residual.ensures.1 (rw c.under.ensures at c.in_err-key.ensures)

pub returns : goal.returns
returns c = onward (rw c.under.ensures at c.in_ok-key.ensures) (rw c.under-2.ensures at c.mark_of.ensures)
