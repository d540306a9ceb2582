use Rattle.lg_codec.proofs.Readings.{onward, halted}
use Rattle.lg_codec.proofs.targets.target_in.Goals as goal

pub returns-in_err-is_account : goal.returns-in_err-is_account
returns-in_err-is_account c = halted _ c.from_residual.ensures.1 (rw c.under.ensures at c.in_err-is_account.ensures)

pub returns : goal.returns
returns c = onward (rw c.under.ensures at c.in_ok-is_account.ensures) (rw c.under-2.ensures at c.target_of.ensures)
