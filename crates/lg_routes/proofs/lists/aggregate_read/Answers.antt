use Rattle.std.proofs.Common.{refl}
use Rattle.lg_codec.proofs.Readings.{onward, halted}
use Rattle.lg_routes.proofs.lists.aggregate_read.Goals as goal

pub returns-in_err-ledger : goal.returns-in_err-ledger
returns-in_err-ledger g c = halted _ c.from_residual.ensures.1 c.in_err-ledger.ensures

pub returns-in_err-pit : goal.returns-in_err-pit
returns-in_err-pit g c = onward c.in_ok-ledger.ensures (halted _ c.from_residual-in_err-pit.ensures.1 c.in_err-pit.ensures)

pub returns-in_err-by_insertion : goal.returns-in_err-by_insertion
returns-in_err-by_insertion g c = onward c.in_ok-ledger.ensures (onward c.in_ok-pit.ensures (halted _ c.from_residual-in_err-by_insertion.ensures.1 c.in_err-by_insertion.ensures))

pub returns-in_err-refuse_order : goal.returns-in_err-refuse_order
returns-in_err-refuse_order g c = onward c.in_ok-ledger.ensures (onward c.in_ok-pit.ensures (onward c.in_ok-by_insertion.ensures (halted _ c.from_residual-in_err-refuse_order.ensures.1 c.in_err-refuse_order.ensures)))

pub returns-in_err-filter : goal.returns-in_err-filter
returns-in_err-filter g c = onward c.in_ok-ledger.ensures (onward c.in_ok-pit.ensures (onward c.in_ok-by_insertion.ensures (onward c.in_ok-refuse_order.ensures (halted _ c.from_residual-in_err-filter.ensures.1 c.in_err-filter.ensures))))

pub returns : goal.returns
returns g c = onward c.in_ok-ledger.ensures (onward c.in_ok-pit.ensures (onward c.in_ok-by_insertion.ensures (onward c.in_ok-refuse_order.ensures (onward c.in_ok-filter.ensures (record { answers = refl })))))
