use Rattle.std.proofs.Common.{length, refl}
use Rattle.lg_base.proofs.Feeds.{then, stop, last, same_text}
use Rattle.lg_http.proofs.TextLemmas.{refusal_is}
use Rattle.lg_http.proofs.texts.feed_refusal.Goals as goal

pub returns-in_err-feed_status_line : goal.returns-in_err-feed_status_line
returns-in_err-feed_status_line g c =
    same_text (refusal_is c.args.why c.status_of_refusal.result (length c.body_of_refusal-body.result.now) c.body_of_refusal-body.result.now c.status_of_refusal.ensures refl c.body_of_refusal-body.ensures)
    (stop _ c.from_residual.ensures.0 c.in_err-feed_status_line.ensures)

pub returns-in_err-feed_content_lines : goal.returns-in_err-feed_content_lines
returns-in_err-feed_content_lines g c =
    same_text (refusal_is c.args.why c.status_of_refusal.result (length c.body_of_refusal-body.result.now) c.body_of_refusal-body.result.now c.status_of_refusal.ensures refl c.body_of_refusal-body.ensures)
    (then c.in_ok-feed_status_line.ensures (stop _ c.from_residual-in_err-feed_content_lines.ensures.0 c.in_err-feed_content_lines.ensures))

pub returns-in_err-feed_last_lines : goal.returns-in_err-feed_last_lines
returns-in_err-feed_last_lines g c =
    same_text (refusal_is c.args.why c.status_of_refusal.result (length c.body_of_refusal-body.result.now) c.body_of_refusal-body.result.now c.status_of_refusal.ensures refl c.body_of_refusal-body.ensures)
    (then c.in_ok-feed_status_line.ensures (then c.in_ok-feed_content_lines.ensures (stop _ c.from_residual-in_err-feed_last_lines.ensures.0 c.in_err-feed_last_lines.ensures)))

pub returns : goal.returns
returns g c =
    same_text (refusal_is c.args.why c.status_of_refusal.result (length c.body_of_refusal-body.result.now) c.body_of_refusal-body.result.now c.status_of_refusal.ensures refl c.body_of_refusal-body.ensures)
    (then c.in_ok-feed_status_line.ensures (then c.in_ok-feed_content_lines.ensures (then c.in_ok-feed_last_lines.ensures (last c.piece.ensures))))
