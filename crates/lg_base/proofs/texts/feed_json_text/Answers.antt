use Rattle.lg_base.proofs.Feeds.{then, stop}
use Rattle.lg_base.proofs.texts.feed_json_text.Goals as goal

pub returns-in_err-piece : goal.returns-in_err-piece
returns-in_err-piece g c = stop _ c.from_residual.ensures.0 c.in_err-piece.ensures

pub returns-in_err-feed_escaped : goal.returns-in_err-feed_escaped
returns-in_err-feed_escaped g c = then c.in_ok-piece.ensures (stop _ c.from_residual-in_err-feed_escaped.ensures.0 c.in_err-feed_escaped.ensures)

pub returns : goal.returns
returns g c = then c.in_ok-piece.ensures (then c.in_ok-feed_escaped.ensures c.piece-2.ensures)
