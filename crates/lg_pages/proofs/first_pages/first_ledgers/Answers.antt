use Rattle.std.proofs.Common.{refl}
use Rattle.lg_codec.proofs.Readings.{onward, halted}
use Rattle.lg_pages.proofs.first_pages.first_ledgers.Goals as goal

pub returns-in_err-page_size : goal.returns-in_err-page_size
returns-in_err-page_size c = halted _ c.from_residual.ensures.1 c.in_err-page_size.ensures

pub returns-in_err-refuse_order : goal.returns-in_err-refuse_order
returns-in_err-refuse_order c = onward c.in_ok-page_size.ensures (halted _ c.from_residual-in_err-refuse_order.ensures.1 c.in_err-refuse_order.ensures)

pub returns : goal.returns
returns c = rw c.no_expand.ensures (rw c.no_span.ensures (onward c.in_ok-page_size.ensures (onward c.in_ok-refuse_order.ensures (record { answers = refl }))))
