use Rattle.lg_base.proofs.Feeds.{then, stop}
use Rattle.lg_types.proofs.part_texts.feed_between_quotes.Goals as goal

pub returns-in_err-piece : goal.returns-in_err-piece
returns-in_err-piece g c = stop _ c.from_residual.ensures.0 c.in_err-piece.ensures

pub returns-in_err-piece-2 : goal.returns-in_err-piece-2
returns-in_err-piece-2 g c = then c.in_ok-piece.ensures (stop _ c.from_residual-in_err-piece-2.ensures.0 c.in_err-piece-2.ensures)

pub returns : goal.returns
returns g c = then c.in_ok-piece.ensures (then c.in_ok-piece-2.ensures c.piece-3.ensures)
