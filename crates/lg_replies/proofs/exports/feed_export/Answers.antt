use Rattle.lg_base.proofs.Feeds.{then, stop}
use Rattle.lg_replies.proofs.exports.feed_export.Goals as goal

pub returns-in_err-piece : goal.returns-in_err-piece
returns-in_err-piece g c = stop _ c.from_residual.ensures.0 c.in_err-piece.ensures

pub returns-in_err-feed_escaped_lines : goal.returns-in_err-feed_escaped_lines
returns-in_err-feed_escaped_lines g c =
    then c.in_ok-piece.ensures (stop _ c.from_residual-in_err-feed_escaped_lines.ensures.0 c.in_err-feed_escaped_lines.ensures)

pub returns : goal.returns
returns g c = then c.in_ok-piece.ensures (then c.in_ok-feed_escaped_lines.ensures c.piece-2.ensures)
