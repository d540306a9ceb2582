use Rattle.lg_base.proofs.Feeds.{then, stop}
use Rattle.lg_chain.proofs.sealing.feed_sealed.Goals as goal

pub returns-in_err-feed_before : goal.returns-in_err-feed_before
returns-in_err-feed_before g c = stop _ c.from_residual.ensures.0 c.in_err-feed_before.ensures

pub returns-in_err-entry_text : goal.returns-in_err-entry_text
returns-in_err-entry_text g c = then c.in_ok-feed_before.ensures (stop _ c.from_residual-in_err-entry_text.ensures.0 c.in_err-entry_text.ensures)

pub returns : goal.returns
returns g c = then c.in_ok-feed_before.ensures (then c.in_ok-entry_text.ensures c.piece.ensures)
