use Rattle.std.proofs.Common.{refl}
use Rattle.lg_codec.proofs.Readings.{onward, halted}
use Rattle.lg_routes.proofs.Readings.{onward_tree, halted_tree}
use Rattle.lg_routes.proofs.writes.create_call.Goals as goal

pub returns-in_err-ledger : goal.returns-in_err-ledger
returns-in_err-ledger c = halted _ c.from_residual.ensures.1 c.in_err-ledger.ensures

pub returns-in_err-dry_run : goal.returns-in_err-dry_run
returns-in_err-dry_run c = onward c.in_ok-ledger.ensures (halted _ c.from_residual-in_err-dry_run.ensures.1 c.in_err-dry_run.ensures)

pub returns-in_err-refuse_true : goal.returns-in_err-refuse_true
returns-in_err-refuse_true c = onward c.in_ok-ledger.ensures (onward c.in_ok-dry_run.ensures (halted _ c.from_residual-in_err-refuse_true.ensures.1 c.in_err-refuse_true.ensures))

pub returns-in_err-refuse_order : goal.returns-in_err-refuse_order
returns-in_err-refuse_order c = onward c.in_ok-ledger.ensures (onward c.in_ok-dry_run.ensures (onward c.in_ok-refuse_true.ensures (halted _ c.from_residual-in_err-refuse_order.ensures.1 c.in_err-refuse_order.ensures)))

pub returns-in_err-key : goal.returns-in_err-key
returns-in_err-key c = onward c.in_ok-ledger.ensures (onward c.in_ok-dry_run.ensures (onward c.in_ok-refuse_true.ensures (onward c.in_ok-refuse_order.ensures (halted _ c.from_residual-in_err-key.ensures.1 c.in_err-key.ensures))))

pub returns-in_err-value : goal.returns-in_err-value
returns-in_err-value c = onward c.in_ok-ledger.ensures (onward c.in_ok-dry_run.ensures (onward c.in_ok-refuse_true.ensures (onward c.in_ok-refuse_order.ensures (onward c.in_ok-key.ensures (halted_tree _ c.from_residual-in_err-value.ensures.1 c.in_err-value.ensures)))))

pub returns-in_err-write : goal.returns-in_err-write
returns-in_err-write c = onward c.in_ok-ledger.ensures (onward c.in_ok-dry_run.ensures (onward c.in_ok-refuse_true.ensures (onward c.in_ok-refuse_order.ensures (onward c.in_ok-key.ensures (onward_tree c.in_ok-value.ensures (halted _ c.from_residual-in_err-write.ensures.1 c.in_err-write.ensures))))))

pub returns : goal.returns
returns c = onward c.in_ok-ledger.ensures (onward c.in_ok-dry_run.ensures (onward c.in_ok-refuse_true.ensures (onward c.in_ok-refuse_order.ensures (onward c.in_ok-key.ensures (onward_tree c.in_ok-value.ensures (onward c.in_ok-write.ensures (record { answers = refl })))))))
