use Rattle.std.proofs.Common.{refl}
use Rattle.lg_codec.proofs.Readings.{onward, halted}
use Rattle.lg_routes.proofs.Readings.{onward_tree, halted_tree, onward_by, halted_by}
use Rattle.lg_types.specs.declared.calls.Write.TheVariants.{SetMeta}
use Rattle.lg_readings.specs.Requests.{WriteOf}
use Rattle.lg_routes.proofs.writes.set_call.Goals as goal

pub returns-in_err-ledger : goal.returns-in_err-ledger
returns-in_err-ledger c = halted _ c.from_residual.ensures.1 c.in_err-ledger.ensures

pub returns-in_err-target : goal.returns-in_err-target
returns-in_err-target c = onward c.in_ok-ledger.ensures (halted _ c.from_residual-in_err-target.ensures.1 c.in_err-target.ensures)

pub returns-in_err-refuse_order : goal.returns-in_err-refuse_order
returns-in_err-refuse_order c = onward c.in_ok-ledger.ensures (onward c.in_ok-target.ensures (halted _ c.from_residual-in_err-refuse_order.ensures.1 c.in_err-refuse_order.ensures))

pub returns-in_err-key : goal.returns-in_err-key
returns-in_err-key c = onward c.in_ok-ledger.ensures (onward c.in_ok-target.ensures (onward c.in_ok-refuse_order.ensures (halted _ c.from_residual-in_err-key.ensures.1 c.in_err-key.ensures)))

pub returns-in_err-value : goal.returns-in_err-value
returns-in_err-value c = onward c.in_ok-ledger.ensures (onward c.in_ok-target.ensures (onward c.in_ok-refuse_order.ensures (onward c.in_ok-key.ensures (halted_tree _ c.from_residual-in_err-value.ensures.1 c.in_err-value.ensures))))

pub returns-in_err-write : goal.returns-in_err-write
returns-in_err-write c = onward c.in_ok-ledger.ensures (onward c.in_ok-target.ensures (onward c.in_ok-refuse_order.ensures (onward c.in_ok-key.ensures (onward_tree c.in_ok-value.ensures (halted_by (λ metadata. SetMeta c.in_ok-target.target metadata) (WriteOf c.in_ok-ledger.ledger c.in_ok-key.key) c.from_residual-in_err-write.ensures.1 c.in_err-write.ensures)))))

pub returns : goal.returns
returns c = onward c.in_ok-ledger.ensures (onward c.in_ok-target.ensures (onward c.in_ok-refuse_order.ensures (onward c.in_ok-key.ensures (onward_tree c.in_ok-value.ensures (onward_by (λ metadata. SetMeta c.in_ok-target.target metadata) (WriteOf c.in_ok-ledger.ledger c.in_ok-key.key) c.in_ok-write.ensures (record { answers = refl }))))))
