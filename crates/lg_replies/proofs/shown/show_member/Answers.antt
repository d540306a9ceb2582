use Rattle.lg_base.proofs.Feeds.{then, stop}
use Rattle.lg_replies.proofs.shown.show_member.Goals as goal

pub returns-in_err-feed_to : goal.returns-in_err-feed_to
returns-in_err-feed_to g c = stop _ c.from_residual.ensures.0 c.in_err-feed_to.ensures

pub returns-in_err-piece : goal.returns-in_err-piece
returns-in_err-piece g c = then c.in_ok-feed_to.ensures (stop _ c.from_residual-in_err-piece.ensures.0 c.in_err-piece.ensures)

pub returns : goal.returns
returns g c = then c.in_ok-feed_to.ensures (then c.in_ok-piece.ensures c.show.ensures)
