use Rattle.lg_base.proofs.Feeds.{then, stop}
use Rattle.lg_tokens.proofs.written_queries.feed_present_filter.Goals as goal

pub returns-in_err-piece : goal.returns-in_err-piece
returns-in_err-piece g c = stop _ c.from_residual.ensures.0 c.in_err-piece.ensures

pub returns : goal.returns
returns g c = then c.in_ok-piece.ensures c.feed_filter.ensures
