use Rattle.lg_base.proofs.Feeds.{then, stop}
use Rattle.lg_replies.proofs.messages.feed_bad_member.Goals as goal

pub returns-in_err-feed_escaped : goal.returns-in_err-feed_escaped
returns-in_err-feed_escaped g c = stop _ c.from_residual.ensures.0 c.in_err-feed_escaped.ensures

pub returns : goal.returns
returns g c = then c.in_ok-feed_escaped.ensures (rw c.bytes.ensures.value at c.feed_escaped-2.ensures)
