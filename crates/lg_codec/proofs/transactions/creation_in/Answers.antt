use Rattle.std.proofs.Common.{refl}
use Rattle.lg_codec.proofs.Readings.{onward, halted}
use Rattle.lg_codec.proofs.transactions.creation_in.Goals as goal

pub returns-in_err-check_script : goal.returns-in_err-check_script
returns-in_err-check_script c = halted _ c.from_residual.ensures.1 (rw c.under.ensures at c.in_err-check_script.ensures)

pub returns-in_err-postings : goal.returns-in_err-postings
returns-in_err-postings c = onward (rw c.under.ensures at c.in_ok-check_script.ensures) (halted _ c.from_residual-in_err-postings.ensures.1 (rw c.under-2.ensures at c.in_err-postings.ensures))

pub returns-in_err-timestamp : goal.returns-in_err-timestamp
returns-in_err-timestamp c = onward (rw c.under.ensures at c.in_ok-check_script.ensures) (onward (rw c.under-2.ensures at c.in_ok-postings.ensures) (halted _ c.from_residual-in_err-timestamp.ensures.1 (rw c.under-3.ensures at c.in_err-timestamp.ensures)))

pub returns-in_err-reference : goal.returns-in_err-reference
returns-in_err-reference c = onward (rw c.under.ensures at c.in_ok-check_script.ensures) (onward (rw c.under-2.ensures at c.in_ok-postings.ensures) (onward (rw c.under-3.ensures at c.in_ok-timestamp.ensures) (halted _ c.from_residual-in_err-reference.ensures.1 (rw c.under-4.ensures at c.in_err-reference.ensures))))

pub returns-in_err-metadata : goal.returns-in_err-metadata
returns-in_err-metadata c = onward (rw c.under.ensures at c.in_ok-check_script.ensures) (onward (rw c.under-2.ensures at c.in_ok-postings.ensures) (onward (rw c.under-3.ensures at c.in_ok-timestamp.ensures) (onward (rw c.under-4.ensures at c.in_ok-reference.ensures) (halted _ c.from_residual-in_err-metadata.ensures.1 (rw c.under-5.ensures at c.in_err-metadata.ensures)))))

pub returns-in_err-accounts : goal.returns-in_err-accounts
returns-in_err-accounts c = onward (rw c.under.ensures at c.in_ok-check_script.ensures) (onward (rw c.under-2.ensures at c.in_ok-postings.ensures) (onward (rw c.under-3.ensures at c.in_ok-timestamp.ensures) (onward (rw c.under-4.ensures at c.in_ok-reference.ensures) (onward (rw c.under-5.ensures at c.in_ok-metadata.ensures) (halted _ c.from_residual-in_err-accounts.ensures.1 (rw c.under-6.ensures at c.in_err-accounts.ensures))))))

pub returns-in_err-force : goal.returns-in_err-force
returns-in_err-force c = onward (rw c.under.ensures at c.in_ok-check_script.ensures) (onward (rw c.under-2.ensures at c.in_ok-postings.ensures) (onward (rw c.under-3.ensures at c.in_ok-timestamp.ensures) (onward (rw c.under-4.ensures at c.in_ok-reference.ensures) (onward (rw c.under-5.ensures at c.in_ok-metadata.ensures) (onward (rw c.under-6.ensures at c.in_ok-accounts.ensures) (halted _ c.from_residual-in_err-force.ensures.1 (rw c.under-7.ensures at c.in_err-force.ensures)))))))

pub returns : goal.returns
returns c = onward (rw c.under.ensures at c.in_ok-check_script.ensures) (onward (rw c.under-2.ensures at c.in_ok-postings.ensures) (onward (rw c.under-3.ensures at c.in_ok-timestamp.ensures) (onward (rw c.under-4.ensures at c.in_ok-reference.ensures) (onward (rw c.under-5.ensures at c.in_ok-metadata.ensures) (onward (rw c.under-6.ensures at c.in_ok-accounts.ensures) (onward (rw c.under-7.ensures at c.in_ok-force.ensures) (record { answers = refl })))))))
