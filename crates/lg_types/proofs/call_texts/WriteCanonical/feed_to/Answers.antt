use Rattle.lg_types.proofs.call_texts.WriteCanonical.feed_to.Goals as goal

pub returns-in-Create : goal.returns-in-Create
returns-in-Create g c = rw c.in-Create.is c.feed_all.ensures

pub returns-in-Revert : goal.returns-in-Revert
returns-in-Revert g c = rw c.in-Revert.is c.feed_all-in-Revert.ensures

pub returns-in-DropMeta : goal.returns-in-DropMeta
returns-in-DropMeta g c = rw c.in-DropMeta.is c.feed_all-in-DropMeta.ensures
