use Rattle.std.proofs.Common.{refl}
use Rattle.lg_codec.proofs.Readings.{onward, halted}
use Rattle.lg_codec.proofs.transactions.posting_in.Goals as goal

pub returns-in_err-source : goal.returns-in_err-source
returns-in_err-source c = halted _ c.from_residual.ensures.1 (rw c.under.ensures at c.in_err-source.ensures)

pub returns-in_err-destination : goal.returns-in_err-destination
returns-in_err-destination c = onward (rw c.under.ensures at c.in_ok-source.ensures) (halted _ c.from_residual-in_err-destination.ensures.1 (rw c.under-2.ensures at c.in_err-destination.ensures))

pub returns-in_err-amount : goal.returns-in_err-amount
returns-in_err-amount c = onward (rw c.under.ensures at c.in_ok-source.ensures) (onward (rw c.under-2.ensures at c.in_ok-destination.ensures) (halted _ c.from_residual-in_err-amount.ensures.1 (rw c.under-3.ensures at c.in_err-amount.ensures)))

pub returns-in_err-asset : goal.returns-in_err-asset
returns-in_err-asset c = onward (rw c.under.ensures at c.in_ok-source.ensures) (onward (rw c.under-2.ensures at c.in_ok-destination.ensures) (onward (rw c.under-3.ensures at c.in_ok-amount.ensures) (halted _ c.from_residual-in_err-asset.ensures.1 (rw c.under-4.ensures at c.in_err-asset.ensures))))

pub returns : goal.returns
returns c = onward (rw c.under.ensures at c.in_ok-source.ensures) (onward (rw c.under-2.ensures at c.in_ok-destination.ensures) (onward (rw c.under-3.ensures at c.in_ok-amount.ensures) (onward (rw c.under-4.ensures at c.in_ok-asset.ensures) (record { answers = refl }))))
