use Rattle.lg_types.proofs.MoveSums.{with_own_postings, with_own_postings_by_rank}
use Rattle.lg_types.proofs.laws.with_own_postings.Goals as goal

pub returns-clause-id : goal.returns-clause-id
returns-clause-id c = with_own_postings

pub returns-clause-rank : goal.returns-clause-rank
returns-clause-rank c = with_own_postings_by_rank
