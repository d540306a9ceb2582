use Rattle.std.proofs.Common.{refl}
use Rattle.lg_codec.proofs.Readings.{onward, halted}
use Rattle.lg_routes.proofs.Readings.{onward_tree, halted_tree}
use Rattle.lg_routes.proofs.writes.bulk_call.Goals as goal

pub returns-in_err-ledger : goal.returns-in_err-ledger
returns-in_err-ledger c = halted _ c.from_residual.ensures.1 c.in_err-ledger.ensures

pub returns-in_err-atomic : goal.returns-in_err-atomic
returns-in_err-atomic c = onward c.in_ok-ledger.ensures (halted _ c.from_residual-in_err-atomic.ensures.1 c.in_err-atomic.ensures)

pub returns-in_err-go_on : goal.returns-in_err-go_on
returns-in_err-go_on c = onward c.in_ok-ledger.ensures (onward c.in_ok-atomic.ensures (halted _ c.from_residual-in_err-go_on.ensures.1 c.in_err-go_on.ensures))

pub returns-in_err-parallel : goal.returns-in_err-parallel
returns-in_err-parallel c = onward c.in_ok-ledger.ensures (onward c.in_ok-atomic.ensures (onward c.in_ok-go_on.ensures (halted _ c.from_residual-in_err-parallel.ensures.1 c.in_err-parallel.ensures)))

pub returns-in_err-refuse_parallel : goal.returns-in_err-refuse_parallel
returns-in_err-refuse_parallel c = onward c.in_ok-ledger.ensures (onward c.in_ok-atomic.ensures (onward c.in_ok-go_on.ensures (onward c.in_ok-parallel.ensures (halted _ c.from_residual-in_err-refuse_parallel.ensures.1 c.in_err-refuse_parallel.ensures))))

pub returns-in_err-refuse_order : goal.returns-in_err-refuse_order
returns-in_err-refuse_order c = onward c.in_ok-ledger.ensures (onward c.in_ok-atomic.ensures (onward c.in_ok-go_on.ensures (onward c.in_ok-parallel.ensures (onward c.in_ok-refuse_parallel.ensures (halted _ c.from_residual-in_err-refuse_order.ensures.1 c.in_err-refuse_order.ensures)))))

pub returns-in_err-value : goal.returns-in_err-value
returns-in_err-value c = onward c.in_ok-ledger.ensures (onward c.in_ok-atomic.ensures (onward c.in_ok-go_on.ensures (onward c.in_ok-parallel.ensures (onward c.in_ok-refuse_parallel.ensures (onward c.in_ok-refuse_order.ensures (halted_tree _ c.from_residual-in_err-value.ensures.1 c.in_err-value.ensures))))))

pub returns-in_err-elements : goal.returns-in_err-elements
returns-in_err-elements c = onward c.in_ok-ledger.ensures (onward c.in_ok-atomic.ensures (onward c.in_ok-go_on.ensures (onward c.in_ok-parallel.ensures (onward c.in_ok-refuse_parallel.ensures (onward c.in_ok-refuse_order.ensures (onward_tree c.in_ok-value.ensures (halted _ c.from_residual-in_err-elements.ensures.1 c.in_err-elements.ensures)))))))

pub returns : goal.returns
returns c = onward c.in_ok-ledger.ensures (onward c.in_ok-atomic.ensures (onward c.in_ok-go_on.ensures (onward c.in_ok-parallel.ensures (onward c.in_ok-refuse_parallel.ensures (onward c.in_ok-refuse_order.ensures (onward_tree c.in_ok-value.ensures (onward c.in_ok-elements.ensures (record { answers = refl }))))))))
