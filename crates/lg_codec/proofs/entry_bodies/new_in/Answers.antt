use Rattle.std.proofs.Common.{refl}
use Rattle.lg_codec.proofs.Readings.{onward, halted}
use Rattle.lg_codec.proofs.entry_bodies.new_in.Goals as goal

pub returns-in_err-transaction : goal.returns-in_err-transaction
returns-in_err-transaction c = halted _ c.from_residual.ensures.1 (rw c.under.ensures at c.in_err-transaction.ensures)

pub returns-in_err-accounts : goal.returns-in_err-accounts
returns-in_err-accounts c = onward (rw c.under.ensures at c.in_ok-transaction.ensures) (halted _ c.from_residual-in_err-accounts.ensures.1 (rw c.under-2.ensures at c.in_err-accounts.ensures))

pub returns : goal.returns
returns c = onward (rw c.under.ensures at c.in_ok-transaction.ensures) (onward (rw c.under-2.ensures at c.in_ok-accounts.ensures) (record { answers = refl }))
