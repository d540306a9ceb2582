use Rattle.lg_sheet.specs.Working.{SameVolumes}
use Rattle.lg_sheet.proofs.WorkingLemmas.{OpenTo}
use Rattle.lg_sheet.proofs.working.open_all.Given as goal

abbrev pub invariant-loop-posting : goal.invariant-loop-posting
invariant-loop-posting l = record { same : SameVolumes l.fn.working l.working; places : OpenTo l.working l.postings l.posting-index }
