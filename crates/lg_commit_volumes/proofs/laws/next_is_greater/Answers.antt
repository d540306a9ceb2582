use Rattle.lg_commit_volumes.proofs.NumberLemmas.{next_is_greater}
use Rattle.lg_commit_volumes.proofs.laws.next_is_greater.Goals as goal

pub returns : goal.returns
returns c = next_is_greater
