use Rattle.lg_base.proofs.Feeds.{then, stop}
use Rattle.lg_generator.proofs.summary.feed_summary.Goals as goal

pub returns-in_err-feed_counts : goal.returns-in_err-feed_counts
returns-in_err-feed_counts g c = stop _ c.from_residual.ensures.0 c.in_err-feed_counts.ensures

pub returns-in_err-feed_volumes : goal.returns-in_err-feed_volumes
returns-in_err-feed_volumes g c = then c.in_ok-feed_counts.ensures (stop _ c.from_residual-in_err-feed_volumes.ensures.0 c.in_err-feed_volumes.ensures)

pub returns-in_err-feed_volumes-2 : goal.returns-in_err-feed_volumes-2
returns-in_err-feed_volumes-2 g c =
    then c.in_ok-feed_counts.ensures (then c.in_ok-feed_volumes.ensures (stop _ c.from_residual-in_err-feed_volumes-2.ensures.0 c.in_err-feed_volumes-2.ensures))

pub returns-in_err-feed_volumes-3 : goal.returns-in_err-feed_volumes-3
returns-in_err-feed_volumes-3 g c =
    then c.in_ok-feed_counts.ensures
    (then c.in_ok-feed_volumes.ensures (then c.in_ok-feed_volumes-2.ensures (stop _ c.from_residual-in_err-feed_volumes-3.ensures.0 c.in_err-feed_volumes-3.ensures)))

pub returns : goal.returns
returns g c =
    then c.in_ok-feed_counts.ensures (then c.in_ok-feed_volumes.ensures (then c.in_ok-feed_volumes-2.ensures (then c.in_ok-feed_volumes-3.ensures c.feed_head.ensures)))
