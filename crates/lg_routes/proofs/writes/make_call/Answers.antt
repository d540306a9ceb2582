use Rattle.std.proofs.Common.{refl}
use Rattle.lg_codec.proofs.Readings.{onward, halted}
use Rattle.lg_routes.proofs.Readings.{onward_tree, halted_tree}
use Rattle.lg_routes.proofs.writes.make_call.Goals as goal

pub returns-in_err-ledger : goal.returns-in_err-ledger
returns-in_err-ledger c = halted _ c.from_residual.ensures.1 c.in_err-ledger.ensures

pub returns-in_err-refuse_order : goal.returns-in_err-refuse_order
returns-in_err-refuse_order c = onward c.in_ok-ledger.ensures (halted _ c.from_residual-in_err-refuse_order.ensures.1 c.in_err-refuse_order.ensures)

pub returns-in_err-value : goal.returns-in_err-value
returns-in_err-value c = onward c.in_ok-ledger.ensures (onward c.in_ok-refuse_order.ensures (halted_tree _ c.from_residual-in_err-value.ensures.1 c.in_err-value.ensures))

pub returns-in_err-bucket : goal.returns-in_err-bucket
returns-in_err-bucket c = onward c.in_ok-ledger.ensures (onward c.in_ok-refuse_order.ensures (onward_tree c.in_ok-value.ensures (halted _ c.from_residual-in_err-bucket.ensures.1 c.in_err-bucket.ensures)))

pub returns : goal.returns
returns c = onward c.in_ok-ledger.ensures (onward c.in_ok-refuse_order.ensures (onward_tree c.in_ok-value.ensures (onward c.in_ok-bucket.ensures (record { answers = refl }))))
