use Rattle.std.proofs.Common.{refl}
use Rattle.lg_codec.proofs.Readings.{onward, halted}
use Rattle.lg_routes.proofs.reads.account_read.Goals as goal

pub returns-in_err-ledger : goal.returns-in_err-ledger
returns-in_err-ledger c = halted _ c.from_residual.ensures.1 c.in_err-ledger.ensures

pub returns-in_err-address : goal.returns-in_err-address
returns-in_err-address c = onward c.in_ok-ledger.ensures (halted _ c.from_residual-in_err-address.ensures.1 c.in_err-address.ensures)

pub returns-in_err-pit : goal.returns-in_err-pit
returns-in_err-pit c = onward c.in_ok-ledger.ensures (onward c.in_ok-address.ensures (halted _ c.from_residual-in_err-pit.ensures.1 c.in_err-pit.ensures))

pub returns-in_err-expand : goal.returns-in_err-expand
returns-in_err-expand c = onward c.in_ok-ledger.ensures (onward c.in_ok-address.ensures (onward c.in_ok-pit.ensures (halted _ c.from_residual-in_err-expand.ensures.1 c.in_err-expand.ensures)))

pub returns-in_err-refuse_order : goal.returns-in_err-refuse_order
returns-in_err-refuse_order c = onward c.in_ok-ledger.ensures (onward c.in_ok-address.ensures (onward c.in_ok-pit.ensures (onward c.in_ok-expand.ensures (halted _ c.from_residual-in_err-refuse_order.ensures.1 c.in_err-refuse_order.ensures))))

pub returns : goal.returns
returns c = onward c.in_ok-ledger.ensures (onward c.in_ok-address.ensures (onward c.in_ok-pit.ensures (onward c.in_ok-expand.ensures (onward c.in_ok-refuse_order.ensures (record { answers = refl })))))
