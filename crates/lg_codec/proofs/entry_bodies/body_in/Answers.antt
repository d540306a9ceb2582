use Rattle.lg_codec.proofs.Readings.{onward, halted}
use Rattle.lg_codec.proofs.entry_bodies.body_in.Goals as goal

pub returns-in_err-kind : goal.returns-in_err-kind
returns-in_err-kind c = halted _ c.from_residual.ensures.1 (rw c.under.ensures at c.in_err-kind.ensures)

pub returns : goal.returns
returns c = onward (rw c.under.ensures at c.in_ok-kind.ensures) (rw c.under-2.ensures at c.data_of.ensures)
