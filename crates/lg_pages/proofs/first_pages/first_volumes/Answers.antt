use Rattle.std.proofs.Common.{refl}
use Rattle.lg_codec.proofs.Readings.{onward, halted}
use Rattle.lg_pages.proofs.first_pages.first_volumes.Goals as goal

pub returns-in_err-page_size : goal.returns-in_err-page_size
returns-in_err-page_size c = halted _ c.from_residual.ensures.1 c.in_err-page_size.ensures

pub returns-in_err-from : goal.returns-in_err-from
returns-in_err-from c = onward c.in_ok-page_size.ensures (halted _ c.from_residual-in_err-from.ensures.1 c.in_err-from.ensures)

pub returns-in_err-to : goal.returns-in_err-to
returns-in_err-to c = onward c.in_ok-page_size.ensures (onward c.in_ok-from.ensures (halted _ c.from_residual-in_err-to.ensures.1 c.in_err-to.ensures))

pub returns-in_err-by_insertion : goal.returns-in_err-by_insertion
returns-in_err-by_insertion c = onward c.in_ok-page_size.ensures (onward c.in_ok-from.ensures (onward c.in_ok-to.ensures (halted _ c.from_residual-in_err-by_insertion.ensures.1 c.in_err-by_insertion.ensures)))

pub returns-in_err-group : goal.returns-in_err-group
returns-in_err-group c = onward c.in_ok-page_size.ensures (onward c.in_ok-from.ensures (onward c.in_ok-to.ensures (onward c.in_ok-by_insertion.ensures (halted _ c.from_residual-in_err-group.ensures.1 c.in_err-group.ensures))))

pub returns-in_err-refuse_order : goal.returns-in_err-refuse_order
returns-in_err-refuse_order c = onward c.in_ok-page_size.ensures (onward c.in_ok-from.ensures (onward c.in_ok-to.ensures (onward c.in_ok-by_insertion.ensures (onward c.in_ok-group.ensures (halted _ c.from_residual-in_err-refuse_order.ensures.1 c.in_err-refuse_order.ensures)))))

pub returns-in_err-filter : goal.returns-in_err-filter
returns-in_err-filter c = onward c.in_ok-page_size.ensures (onward c.in_ok-from.ensures (onward c.in_ok-to.ensures (onward c.in_ok-by_insertion.ensures (onward c.in_ok-group.ensures (onward c.in_ok-refuse_order.ensures (halted _ c.from_residual-in_err-filter.ensures.1 c.in_err-filter.ensures))))))

pub returns : goal.returns
returns c = rw c.no_expand.ensures (onward c.in_ok-page_size.ensures (onward c.in_ok-from.ensures (onward c.in_ok-to.ensures (onward c.in_ok-by_insertion.ensures (onward c.in_ok-group.ensures (onward c.in_ok-refuse_order.ensures (onward c.in_ok-filter.ensures (record { answers = refl }))))))))
