use Rattle.std.proofs.Common.{◌≤◌}
use Rattle.lg_sheet.specs.Lines.{ordered}
use Rattle.lg_sheet.specs.Working.{StaysOpen}
use Rattle.lg_sheet.proofs.BookLemmas.{IsBack}
use Rattle.lg_sheet.proofs.trial.take_back.Given as goal

abbrev pub invariant-loop-left : goal.invariant-loop-left
invariant-loop-left l = record {
  bound : l.left ≤ l.booked;
  back : IsBack l.fn.working l.working (ordered l.order l.postings) l.booked l.left;
  stays : StaysOpen l.fn.working l.working;
}

abbrev pub decreases-loop-left : goal.decreases-loop-left
decreases-loop-left l = l.left
