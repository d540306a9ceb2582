use Rattle.std.proofs.Common.{codes, decimal}
use Rattle.lg_base.proofs.Feeds.{then, stop, same_text}
use Rattle.lg_views.specs.RefusalTexts.{message_text}
use Rattle.lg_replies.proofs.Nested.{four_parts}
use Rattle.lg_replies.proofs.refusals.feed_description.Goals as goal

pub returns-in_err-feed_to : goal.returns-in_err-feed_to
returns-in_err-feed_to g c =
    same_text (four_parts (codes "element ") (decimal c.args.element) (codes ": ") (message_text c.args.refusal.now))
    (stop _ c.from_residual.ensures.0 c.in_err-feed_to.ensures)

pub returns-in_err-feed_to-2 : goal.returns-in_err-feed_to-2
returns-in_err-feed_to-2 g c =
    same_text (four_parts (codes "element ") (decimal c.args.element) (codes ": ") (message_text c.args.refusal.now))
    (then c.in_ok-feed_to.ensures (stop _ c.from_residual-in_err-feed_to-2.ensures.0 c.in_err-feed_to-2.ensures))

pub returns-in_err-feed_to-3 : goal.returns-in_err-feed_to-3
returns-in_err-feed_to-3 g c =
    same_text (four_parts (codes "element ") (decimal c.args.element) (codes ": ") (message_text c.args.refusal.now))
    (then c.in_ok-feed_to.ensures (then c.in_ok-feed_to-2.ensures (stop _ c.from_residual-in_err-feed_to-3.ensures.0 c.in_err-feed_to-3.ensures)))

pub returns : goal.returns
returns g c =
    same_text (four_parts (codes "element ") (decimal c.args.element) (codes ": ") (message_text c.args.refusal.now))
    (then c.in_ok-feed_to.ensures (then c.in_ok-feed_to-2.ensures (then c.in_ok-feed_to-3.ensures c.feed_message.ensures)))
