use Rattle.lg_replies.proofs.pages.BulkItemShown.show.Goals as goal

pub returns-in-Good : goal.returns-in-Good
returns-in-Good g c = rw c.in-Good.is c.feed_all.ensures
