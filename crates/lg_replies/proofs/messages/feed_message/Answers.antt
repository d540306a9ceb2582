use Rattle.lg_replies.proofs.messages.feed_message.Goals as goal

pub returns-in-Lack : goal.returns-in-Lack
returns-in-Lack g c = rw c.in-Lack.is c.feed_lack.ensures
