use Rattle.lg_query.proofs.Numbered.{log_numbered}
use Rattle.lg_query.proofs.listed_entries.EntryListing.dated.Goals as goal

pub invariant_of-result : goal.invariant_of-result
invariant_of-result c = record { within = c.shown_count-count.ensures.within; numbered = log_numbered c.args.book.now.events c.args.ledger.now c.len-grown.ensures.grown }
