use Rattle.std.proofs.Common.{refl}
use Rattle.lg_codec.proofs.Readings.{onward, halted}
use Rattle.lg_codec.proofs.elements.revert_in.Goals as goal

pub returns-in_err-id : goal.returns-in_err-id
returns-in_err-id c = halted _ c.from_residual.ensures.1 (rw c.under.ensures at c.in_err-id.ensures)

pub returns-in_err-force : goal.returns-in_err-force
returns-in_err-force c = onward (rw c.under.ensures at c.in_ok-id.ensures) (halted _ c.from_residual-in_err-force.ensures.1 (rw c.under-2.ensures at c.in_err-force.ensures))

pub returns-in_err-at_effective_date : goal.returns-in_err-at_effective_date
returns-in_err-at_effective_date c = onward (rw c.under.ensures at c.in_ok-id.ensures) (onward (rw c.under-2.ensures at c.in_ok-force.ensures) (halted _ c.from_residual-in_err-at_effective_date.ensures.1 (rw c.under-3.ensures at c.in_err-at_effective_date.ensures)))

pub returns : goal.returns
returns c = onward (rw c.under.ensures at c.in_ok-id.ensures) (onward (rw c.under-2.ensures at c.in_ok-force.ensures) (onward (rw c.under-3.ensures at c.in_ok-at_effective_date.ensures) (record { answers = refl })))
