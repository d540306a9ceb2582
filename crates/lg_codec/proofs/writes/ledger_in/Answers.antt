use Rattle.std.proofs.Common.{refl}
use Rattle.lg_codec.proofs.Readings.{onward, halted}
use Rattle.lg_codec.proofs.writes.ledger_in.Goals as goal

pub returns-in_err-bucket : goal.returns-in_err-bucket
returns-in_err-bucket c = halted _ c.from_residual.ensures.1 (rw c.under.ensures at c.in_err-bucket.ensures)

pub returns-in_err-metadata : goal.returns-in_err-metadata
returns-in_err-metadata c = onward (rw c.under.ensures at c.in_ok-bucket.ensures) (halted _ c.from_residual-in_err-metadata.ensures.1 (rw c.under-2.ensures at c.in_err-metadata.ensures))

pub returns-in_err-check_nothing : goal.returns-in_err-check_nothing
returns-in_err-check_nothing c = onward (rw c.under.ensures at c.in_ok-bucket.ensures) (onward (rw c.under-2.ensures at c.in_ok-metadata.ensures) (halted _ c.from_residual-in_err-check_nothing.ensures.1 (rw c.under-3.ensures at c.in_err-check_nothing.ensures)))

pub returns : goal.returns
returns c = onward (rw c.under.ensures at c.in_ok-bucket.ensures) (onward (rw c.under-2.ensures at c.in_ok-metadata.ensures) (onward (rw c.under-3.ensures at c.in_ok-check_nothing.ensures) (record { answers = refl })))
