use Rattle.std.proofs.Common.{◌≡◌, drop}
use Rattle.lg_base.specs.Volumes.{sum_of}
use Rattle.lg_commit_volumes.proofs.SumLemmas.{tried_total}
use Rattle.lg_listed.proofs.amounts.with_postings.Given as goal

abbrev pub invariant-loop-posting : goal.invariant-loop-posting
invariant-loop-posting l = sum_of l.sum (tried_total l.account l.asset (drop l.posting-index l.postings)) ≡ sum_of l.fn.known (tried_total l.account l.asset l.postings)
