use Rattle.lg_base.proofs.Feeds.{then, stop, last, same_text}
use Rattle.lg_http.proofs.TextLemmas.{counts_are}
use Rattle.lg_http.proofs.head_lines.feed_count_lines.Goals as goal

pub returns-in_err-piece : goal.returns-in_err-piece
returns-in_err-piece g c = stop _ c.from_residual.ensures.0 c.in_err-piece.ensures

pub returns-in_err-feed_decimal : goal.returns-in_err-feed_decimal
returns-in_err-feed_decimal g c = then c.in_ok-piece.ensures (stop _ c.from_residual-in_err-feed_decimal.ensures.0 c.in_err-feed_decimal.ensures)

pub returns-in_err-piece-2 : goal.returns-in_err-piece-2
returns-in_err-piece-2 g c = then c.in_ok-piece.ensures (then c.in_ok-feed_decimal.ensures (stop _ c.from_residual-in_err-piece-2.ensures.0 c.in_err-piece-2.ensures))

pub returns-in_err-feed_decimal-2 : goal.returns-in_err-feed_decimal-2
returns-in_err-feed_decimal-2 g c = then c.in_ok-piece.ensures (then c.in_ok-feed_decimal.ensures (then c.in_ok-piece-2.ensures (stop _ c.from_residual-in_err-feed_decimal-2.ensures.0 c.in_err-feed_decimal-2.ensures)))

pub returns-in_err-piece-3 : goal.returns-in_err-piece-3
returns-in_err-piece-3 g c = then c.in_ok-piece.ensures (then c.in_ok-feed_decimal.ensures (then c.in_ok-piece-2.ensures (then c.in_ok-feed_decimal-2.ensures (stop _ c.from_residual-in_err-piece-3.ensures.0 c.in_err-piece-3.ensures))))

pub returns : goal.returns
returns g c =
    same_text (counts_are c.args.head.now c.hit.result.now c.hit.ensures)
    (then c.in_ok-piece.ensures (then c.in_ok-feed_decimal.ensures (then c.in_ok-piece-2.ensures (then c.in_ok-feed_decimal-2.ensures (then c.in_ok-piece-3.ensures (last c.piece-4.ensures))))))
