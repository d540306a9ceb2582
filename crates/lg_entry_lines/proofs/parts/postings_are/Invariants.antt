use Rattle.std.proofs.Common.{drop}
use Rattle.lg_types.specs.Records.{IsPosting}
use Rattle.lg_entry_lines.proofs.Walks.{GoesOn}
use Rattle.lg_entry_lines.proofs.parts.postings_are.Given as goal

abbrev pub invariant-loop-posting : goal.invariant-loop-posting
invariant-loop-posting l = GoesOn IsPosting (drop l.posting-index l.postings) l.postings
