use Rattle.lg_base.proofs.Feeds.{then, stop, last, same_text}
use Rattle.lg_http.proofs.TextLemmas.{status_is}
use Rattle.lg_http.proofs.head_lines.feed_status_line.Goals as goal

pub returns-in_err-piece : goal.returns-in_err-piece
returns-in_err-piece g c = stop _ c.from_residual.ensures.0 c.in_err-piece.ensures

pub returns-in_err-feed_status : goal.returns-in_err-feed_status
returns-in_err-feed_status g c = then c.in_ok-piece.ensures (stop _ c.from_residual-in_err-feed_status.ensures.0 c.in_err-feed_status.ensures)

pub returns-in_err-piece-2 : goal.returns-in_err-piece-2
returns-in_err-piece-2 g c = then c.in_ok-piece.ensures (then c.in_ok-feed_status.ensures (stop _ c.from_residual-in_err-piece-2.ensures.0 c.in_err-piece-2.ensures))

pub returns-in_err-piece-3 : goal.returns-in_err-piece-3
returns-in_err-piece-3 g c =
    same_text (status_is c.args.status c.phrase.result.now c.phrase.ensures)
    (then c.in_ok-piece.ensures (then c.in_ok-feed_status.ensures (then c.in_ok-piece-2.ensures (stop _ c.from_residual-in_err-piece-3.ensures.0 c.in_err-piece-3.ensures))))

pub returns : goal.returns
returns g c =
    same_text (status_is c.args.status c.phrase.result.now c.phrase.ensures)
    (then c.in_ok-piece.ensures (then c.in_ok-feed_status.ensures (then c.in_ok-piece-2.ensures (then c.in_ok-piece-3.ensures (last c.piece-4.ensures)))))
