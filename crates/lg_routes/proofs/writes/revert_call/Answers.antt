use Rattle.std.proofs.Common.{refl}
use Rattle.lg_codec.proofs.Readings.{onward, halted}
use Rattle.lg_routes.proofs.Readings.{onward_tree, halted_tree, onward_by, halted_by}
use Rattle.lg_types.specs.declared.calls.Write.TheVariants.{Revert}
use Rattle.lg_readings.specs.Requests.{WriteOf}
use Rattle.lg_routes.proofs.writes.revert_call.Goals as goal

pub returns-in_err-ledger : goal.returns-in_err-ledger
returns-in_err-ledger c = halted _ c.from_residual.ensures.1 c.in_err-ledger.ensures

pub returns-in_err-id : goal.returns-in_err-id
returns-in_err-id c = onward c.in_ok-ledger.ensures (halted _ c.from_residual-in_err-id.ensures.1 c.in_err-id.ensures)

pub returns-in_err-force : goal.returns-in_err-force
returns-in_err-force c = onward c.in_ok-ledger.ensures (onward c.in_ok-id.ensures (halted _ c.from_residual-in_err-force.ensures.1 c.in_err-force.ensures))

pub returns-in_err-at_effective_date : goal.returns-in_err-at_effective_date
returns-in_err-at_effective_date c = onward c.in_ok-ledger.ensures (onward c.in_ok-id.ensures (onward c.in_ok-force.ensures (halted _ c.from_residual-in_err-at_effective_date.ensures.1 c.in_err-at_effective_date.ensures)))

pub returns-in_err-refuse_order : goal.returns-in_err-refuse_order
returns-in_err-refuse_order c = onward c.in_ok-ledger.ensures (onward c.in_ok-id.ensures (onward c.in_ok-force.ensures (onward c.in_ok-at_effective_date.ensures (halted _ c.from_residual-in_err-refuse_order.ensures.1 c.in_err-refuse_order.ensures))))

pub returns-in_err-key : goal.returns-in_err-key
returns-in_err-key c = onward c.in_ok-ledger.ensures (onward c.in_ok-id.ensures (onward c.in_ok-force.ensures (onward c.in_ok-at_effective_date.ensures (onward c.in_ok-refuse_order.ensures (halted _ c.from_residual-in_err-key.ensures.1 c.in_err-key.ensures)))))

pub returns-in_err-value : goal.returns-in_err-value
returns-in_err-value c = onward c.in_ok-ledger.ensures (onward c.in_ok-id.ensures (onward c.in_ok-force.ensures (onward c.in_ok-at_effective_date.ensures (onward c.in_ok-refuse_order.ensures (onward c.in_ok-key.ensures (halted_tree _ c.from_residual-in_err-value.ensures.1 c.in_err-value.ensures))))))

pub returns-in_err-write : goal.returns-in_err-write
returns-in_err-write c = onward c.in_ok-ledger.ensures (onward c.in_ok-id.ensures (onward c.in_ok-force.ensures (onward c.in_ok-at_effective_date.ensures (onward c.in_ok-refuse_order.ensures (onward c.in_ok-key.ensures (onward_tree c.in_ok-value.ensures (halted_by (λ _. Revert c.in_ok-id.id c.in_ok-force.force c.in_ok-at_effective_date.at_effective_date) (WriteOf c.in_ok-ledger.ledger c.in_ok-key.key) c.from_residual-in_err-write.ensures.1 c.in_err-write.ensures)))))))

pub returns : goal.returns
returns c = onward c.in_ok-ledger.ensures (onward c.in_ok-id.ensures (onward c.in_ok-force.ensures (onward c.in_ok-at_effective_date.ensures (onward c.in_ok-refuse_order.ensures (onward c.in_ok-key.ensures (onward_tree c.in_ok-value.ensures (onward_by (λ _. Revert c.in_ok-id.id c.in_ok-force.force c.in_ok-at_effective_date.at_effective_date) (WriteOf c.in_ok-ledger.ledger c.in_ok-key.key) c.in_ok-write.ensures (record { answers = refl }))))))))
