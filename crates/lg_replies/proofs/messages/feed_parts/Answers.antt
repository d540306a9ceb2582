use Rattle.lg_base.specs.Texts.{escaped}
use Rattle.lg_base.proofs.Feeds.{same_text}
use Rattle.lg_replies.specs.MessageTexts.{message_part_text}
use Rattle.lg_replies.proofs.Nested.{nested}
use Rattle.lg_replies.proofs.messages.feed_parts.Goals as goal

pub returns : goal.returns
returns g c = same_text (nested message_part_text escaped c.args.parts.now) c.feed_all.ensures
