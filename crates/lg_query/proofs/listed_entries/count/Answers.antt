use Rattle.lg_query.proofs.Numbered.{none_counted}
use Rattle.lg_query.proofs.listed_entries.count.Goals as goal

pub returns-in-None : goal.returns-in-None
returns-in-None c = none_counted c.args.book.now.events c.args.ledger.now c.len-grown.ensures.grown (c.in-None.ensures)
