use Rattle.lg_base.proofs.Feeds.{then, stop}
use Rattle.lg_generator.specs.Summaries.{head_line}
use Rattle.lg_generator.proofs.summary.feed_head.Goals as goal

pub returns-in_err-piece : goal.returns-in_err-piece
unfolding head_line
returns-in_err-piece g c = stop _ c.from_residual.ensures.0 c.in_err-piece.ensures

pub returns-in_err-feed_hash : goal.returns-in_err-feed_hash
unfolding head_line
returns-in_err-feed_hash g c = then c.in_ok-piece.ensures (stop _ c.from_residual-in_err-feed_hash.ensures.0 c.in_err-feed_hash.ensures)

pub returns : goal.returns
unfolding head_line
returns g c = then c.in_ok-piece.ensures (then c.in_ok-feed_hash.ensures c.piece-2.ensures)
