use Rattle.std.proofs.Common.{refl}
use Rattle.lg_codec.proofs.Readings.{onward, halted}
use Rattle.lg_codec.proofs.metadata.account_in.Goals as goal

pub returns-in_err-address : goal.returns-in_err-address
returns-in_err-address c = halted _ c.from_residual.ensures.1 (rw c.bytes.ensures.value at c.in_err-address.ensures)

pub returns-in_err-meta : goal.returns-in_err-meta
returns-in_err-meta c = onward (rw c.bytes.ensures.value at c.in_ok-address.ensures) (halted _ c.from_residual-in_err-meta.ensures.1 c.in_err-meta.ensures)

pub returns : goal.returns
returns c = onward (rw c.bytes.ensures.value at c.in_ok-address.ensures) (onward c.in_ok-meta.ensures (record { answers = refl }))
