use Rattle.lg_base.proofs.Feeds.{then, stop}
use Rattle.lg_batch.proofs.output.feed_event.Goals as goal

pub returns-in_err-event_text : goal.returns-in_err-event_text
returns-in_err-event_text g c = stop _ c.from_residual.ensures.0 c.in_err-event_text.ensures

pub returns : goal.returns
returns g c = then c.in_ok-event_text.ensures c.piece.ensures
