use Rattle.std.proofs.Common.{refl}
use Rattle.lg_codec.proofs.Readings.{onward, halted}
use Rattle.lg_routes.proofs.writes.import_call.Goals as goal

pub returns-in_err-ledger : goal.returns-in_err-ledger
returns-in_err-ledger c = halted _ c.from_residual.ensures.1 c.in_err-ledger.ensures

pub returns-in_err-check_hashes : goal.returns-in_err-check_hashes
returns-in_err-check_hashes c = onward c.in_ok-ledger.ensures (halted _ c.from_residual-in_err-check_hashes.ensures.1 c.in_err-check_hashes.ensures)

pub returns-in_err-refuse_order : goal.returns-in_err-refuse_order
returns-in_err-refuse_order c = onward c.in_ok-ledger.ensures (onward c.in_ok-check_hashes.ensures (halted _ c.from_residual-in_err-refuse_order.ensures.1 c.in_err-refuse_order.ensures))

pub returns-in_err-batch : goal.returns-in_err-batch
returns-in_err-batch c = onward c.in_ok-ledger.ensures (onward c.in_ok-check_hashes.ensures (onward c.in_ok-refuse_order.ensures (halted _ c.from_residual-in_err-batch.ensures.1 c.in_err-batch.ensures)))

pub returns : goal.returns
returns c = onward c.in_ok-ledger.ensures (onward c.in_ok-check_hashes.ensures (onward c.in_ok-refuse_order.ensures (onward c.in_ok-batch.ensures (record { answers = refl }))))
