use Rattle.std.proofs.Common.{refl}
use Rattle.lg_codec.proofs.Readings.{onward, halted}
use Rattle.lg_codec.proofs.entry_bodies.reverted_in.Goals as goal

pub returns-in_err-reverted : goal.returns-in_err-reverted
returns-in_err-reverted c = halted _ c.from_residual.ensures.1 (rw c.under.ensures at c.in_err-reverted.ensures)

pub returns-in_err-transaction : goal.returns-in_err-transaction
returns-in_err-transaction c = onward (rw c.under.ensures at c.in_ok-reverted.ensures) (halted _ c.from_residual-in_err-transaction.ensures.1 (rw c.under-2.ensures at c.in_err-transaction.ensures))

pub returns : goal.returns
returns c = onward (rw c.under.ensures at c.in_ok-reverted.ensures) (onward (rw c.under-2.ensures at c.in_ok-transaction.ensures) (record { answers = refl }))
