use Rattle.std.proofs.Common.{refl}
use Rattle.lg_codec.proofs.Readings.{onward, halted}
use Rattle.lg_routes.proofs.writes.drop_call.Goals as goal

pub returns-in_err-ledger : goal.returns-in_err-ledger
returns-in_err-ledger c = halted _ c.from_residual.ensures.1 c.in_err-ledger.ensures

pub returns-in_err-target : goal.returns-in_err-target
returns-in_err-target c = onward c.in_ok-ledger.ensures (halted _ c.from_residual-in_err-target.ensures.1 c.in_err-target.ensures)

pub returns-in_err-name : goal.returns-in_err-name
returns-in_err-name c = onward c.in_ok-ledger.ensures (onward c.in_ok-target.ensures (halted _ c.from_residual-in_err-name.ensures.1 c.in_err-name.ensures))

pub returns-in_err-refuse_order : goal.returns-in_err-refuse_order
returns-in_err-refuse_order c = onward c.in_ok-ledger.ensures (onward c.in_ok-target.ensures (onward c.in_ok-name.ensures (halted _ c.from_residual-in_err-refuse_order.ensures.1 c.in_err-refuse_order.ensures)))

pub returns-in_err-key : goal.returns-in_err-key
returns-in_err-key c = onward c.in_ok-ledger.ensures (onward c.in_ok-target.ensures (onward c.in_ok-name.ensures (onward c.in_ok-refuse_order.ensures (halted _ c.from_residual-in_err-key.ensures.1 c.in_err-key.ensures))))

pub returns : goal.returns
returns c = onward c.in_ok-ledger.ensures (onward c.in_ok-target.ensures (onward c.in_ok-name.ensures (onward c.in_ok-refuse_order.ensures (onward c.in_ok-key.ensures (record { answers = refl })))))
