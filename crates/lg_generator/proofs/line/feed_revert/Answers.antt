use Rattle.lg_base.proofs.Feeds.{then, stop}
use Rattle.lg_generator.proofs.line.feed_revert.Goals as goal

pub returns-in_err-feed_opening : goal.returns-in_err-feed_opening
returns-in_err-feed_opening g c = stop _ c.from_residual.ensures.0 c.in_err-feed_opening.ensures

pub returns : goal.returns
returns g c = then c.in_ok-feed_opening.ensures (rw (c.reverted.ensures) at c.feed_all.ensures)
