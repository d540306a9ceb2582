use Rattle.lg_commit_volumes.proofs.LawLemmas.{tried_is_within}
use Rattle.lg_commit_volumes.proofs.laws.tried_is_within.Goals as goal

pub returns : goal.returns
returns c = tried_is_within
