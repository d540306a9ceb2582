use Rattle.lg_chain.proofs.sealing.feed_before.Goals as goal

pub returns-in-Some : goal.returns-in-Some
returns-in-Some g c = rw c.in-Some.is c.feed_all.ensures
