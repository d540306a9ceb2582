use Rattle.std.proofs.Common.{refl}
use Rattle.lg_codec.proofs.Readings.{onward, halted}
use Rattle.lg_pages.proofs.first_pages.first_logs.Goals as goal

pub returns-in_err-page_size : goal.returns-in_err-page_size
returns-in_err-page_size c = halted _ c.from_residual.ensures.1 c.in_err-page_size.ensures

pub returns-in_err-pit : goal.returns-in_err-pit
returns-in_err-pit c = onward c.in_ok-page_size.ensures (halted _ c.from_residual-in_err-pit.ensures.1 c.in_err-pit.ensures)

pub returns-in_err-refuse_order : goal.returns-in_err-refuse_order
returns-in_err-refuse_order c = onward c.in_ok-page_size.ensures (onward c.in_ok-pit.ensures (halted _ c.from_residual-in_err-refuse_order.ensures.1 c.in_err-refuse_order.ensures))

pub returns-in_err-filter : goal.returns-in_err-filter
returns-in_err-filter c = onward c.in_ok-page_size.ensures (onward c.in_ok-pit.ensures (onward c.in_ok-refuse_order.ensures (halted _ c.from_residual-in_err-filter.ensures.1 c.in_err-filter.ensures)))

pub returns : goal.returns
returns c = rw c.no_expand.ensures (rw c.no_span.ensures (onward c.in_ok-page_size.ensures (onward c.in_ok-pit.ensures (onward c.in_ok-refuse_order.ensures (onward c.in_ok-filter.ensures (record { answers = refl }))))))
