use Rattle.lg_base.specs.Texts.{escaped}
use Rattle.lg_base.proofs.Feeds.{then, stop, same_text}
use Rattle.lg_replies.proofs.Nested.{member_parts}
use Rattle.lg_replies.proofs.messages.feed_member.Goals as goal

pub returns-in_err-feed_escaped : goal.returns-in_err-feed_escaped
returns-in_err-feed_escaped g c =
    same_text (member_parts escaped c.bytes-bytes.result.now c.args.name.now _ c.bytes-bytes.ensures.value c.is_empty.ensures c.if-is_empty.false)
    (stop _ c.from_residual.ensures.0 c.in_err-feed_escaped.ensures)

pub returns : goal.returns
returns g c =
    same_text (member_parts escaped c.bytes-bytes.result.now c.args.name.now _ c.bytes-bytes.ensures.value c.is_empty.ensures c.if-is_empty.false)
    (then c.in_ok-feed_escaped.ensures c.feed_escaped-3.ensures)
