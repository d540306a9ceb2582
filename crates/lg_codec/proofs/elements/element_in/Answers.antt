use Rattle.std.proofs.Common.{refl}
use Rattle.lg_codec.proofs.Readings.{onward, halted}
use Rattle.lg_codec.proofs.elements.element_in.Goals as goal

pub returns-in_err-action : goal.returns-in_err-action
returns-in_err-action c = halted _ c.from_residual.ensures.1 (rw c.under.ensures at c.in_err-action.ensures)

pub returns-in_err-key : goal.returns-in_err-key
returns-in_err-key c = onward (rw c.under.ensures at c.in_ok-action.ensures) (halted _ c.from_residual-in_err-key.ensures.1 (rw c.under-2.ensures at c.in_err-key.ensures))

pub returns-in_err-write : goal.returns-in_err-write
returns-in_err-write c = onward (rw c.under.ensures at c.in_ok-action.ensures) (onward (rw c.under-2.ensures at c.in_ok-key.ensures) (halted _ c.from_residual-in_err-write.ensures.1 (rw c.under-3.ensures at c.in_err-write.ensures)))

pub returns : goal.returns
returns c = onward (rw c.under.ensures at c.in_ok-action.ensures) (onward (rw c.under-2.ensures at c.in_ok-key.ensures) (onward (rw c.under-3.ensures at c.in_ok-write.ensures) (record { answers = refl })))
