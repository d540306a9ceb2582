use Rattle.lg_base.proofs.Feeds.{then, stop, last, same_text}
use Rattle.lg_http.proofs.TextLemmas.{text_is}
use Rattle.lg_http.proofs.texts.feed_reply.Goals as goal

pub returns-in_err-feed_status_line : goal.returns-in_err-feed_status_line
returns-in_err-feed_status_line g c =
    same_text (text_is c.args.closes c.head-head.result (g.R.HttpReply.head_of c.args.reply.now) c.args.size (g.R.HttpReply.body_of c.args.reply.now) c.head-head.ensures c.requires)
    (stop _ c.from_residual.ensures.0 c.in_err-feed_status_line.ensures)

pub returns-in_err-feed_body_lines : goal.returns-in_err-feed_body_lines
returns-in_err-feed_body_lines g c =
    same_text (text_is c.args.closes c.head-head.result (g.R.HttpReply.head_of c.args.reply.now) c.args.size (g.R.HttpReply.body_of c.args.reply.now) c.head-head.ensures c.requires)
    (then c.in_ok-feed_status_line.ensures (stop _ c.from_residual-in_err-feed_body_lines.ensures.0 c.in_err-feed_body_lines.ensures))

pub returns-in_err-feed_count_lines : goal.returns-in_err-feed_count_lines
returns-in_err-feed_count_lines g c =
    same_text (text_is c.args.closes c.head-head.result (g.R.HttpReply.head_of c.args.reply.now) c.args.size (g.R.HttpReply.body_of c.args.reply.now) c.head-head.ensures c.requires)
    (then c.in_ok-feed_status_line.ensures (then c.in_ok-feed_body_lines.ensures (stop _ c.from_residual-in_err-feed_count_lines.ensures.0 c.in_err-feed_count_lines.ensures)))

pub returns-in_err-feed_last_lines : goal.returns-in_err-feed_last_lines
returns-in_err-feed_last_lines g c =
    same_text (text_is c.args.closes c.head-head.result (g.R.HttpReply.head_of c.args.reply.now) c.args.size (g.R.HttpReply.body_of c.args.reply.now) c.head-head.ensures c.requires)
    (then c.in_ok-feed_status_line.ensures (then c.in_ok-feed_body_lines.ensures (then c.in_ok-feed_count_lines.ensures (stop _ c.from_residual-in_err-feed_last_lines.ensures.0 c.in_err-feed_last_lines.ensures))))

pub returns : goal.returns
returns g c =
    same_text (text_is c.args.closes c.head-head.result (g.R.HttpReply.head_of c.args.reply.now) c.args.size (g.R.HttpReply.body_of c.args.reply.now) c.head-head.ensures c.requires)
    (then c.in_ok-feed_status_line.ensures (then c.in_ok-feed_body_lines.ensures (then c.in_ok-feed_count_lines.ensures (then c.in_ok-feed_last_lines.ensures (last c.feed_shown_body.ensures)))))
