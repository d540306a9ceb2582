use Rattle.std.proofs.Common.{drop}
use Rattle.lg_commit_volumes.proofs.TotalLemmas.{IsGathered}
use Rattle.lg_commit_volumes.proofs.totals.posting_totals.Given as goal

abbrev pub invariant-loop-posting : goal.invariant-loop-posting
invariant-loop-posting l = IsGathered l.totals (drop l.posting-index l.postings) l.postings
