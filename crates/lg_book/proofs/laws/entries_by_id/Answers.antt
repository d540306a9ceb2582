use Rattle.lg_book.proofs.laws.entries_by_id.Goals as goal
use Rattle.lg_book.proofs.EntryIds as ids

pub returns : goal.returns
returns c = ids.entries_by_id
