use Rattle.lg_base.proofs.Feeds.{then, stop}
use Rattle.lg_generator.proofs.line.feed_sale.Goals as goal

pub returns-in_err-feed_opening : goal.returns-in_err-feed_opening
returns-in_err-feed_opening g c = stop _ c.from_residual.ensures.0 c.in_err-feed_opening.ensures

pub returns-in_err-feed_postings : goal.returns-in_err-feed_postings
returns-in_err-feed_postings g c = then c.in_ok-feed_opening.ensures (stop _ c.from_residual-in_err-feed_postings.ensures.0 c.in_err-feed_postings.ensures)

pub returns-in_err-feed_timestamp : goal.returns-in_err-feed_timestamp
returns-in_err-feed_timestamp g c =
    then c.in_ok-feed_opening.ensures (then c.in_ok-feed_postings.ensures (stop _ c.from_residual-in_err-feed_timestamp.ensures.0 c.in_err-feed_timestamp.ensures))

pub returns : goal.returns
returns g c = then c.in_ok-feed_opening.ensures (then c.in_ok-feed_postings.ensures (then c.in_ok-feed_timestamp.ensures c.piece.ensures))
