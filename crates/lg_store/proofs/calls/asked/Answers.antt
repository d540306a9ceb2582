use Rattle.lg_store.proofs.LentLists.{always_ready}
use Rattle.lg_store.proofs.calls.asked.Goals as goal

pub answer-requires : goal.answer-requires
answer-requires c = always_ready c.args.book.now.events c.args.shards.now c.args.ledger.now c.args.read.now c.requires
