use Rattle.std.proofs.Common.{◌≡◌, List, ◌++◌, take, drop}
use Rattle.std.specs.List.{flat_map}
use Rattle.lg_types.specs.Moves.{Placed}
use Rattle.lg_types.specs.Trial.{tried_moves, trial_from}
use Rattle.lg_sheet.specs.Lines.{ordered}
use Rattle.lg_sheet.specs.Working.{StaysOpen}
use Rattle.lg_sheet.specs.Trials.{present, HaveTotals, Booked, StaysWithin}
use Rattle.lg_sheet.proofs.trial.book.Given as goal

abbrev pub invariant-loop-place : goal.invariant-loop-place
invariant-loop-place g l = record {
  booked : Booked l.fn.working l.working (take l.place (ordered l.order l.postings));
  stays : StaysOpen l.fn.working l.working;
  within : StaysWithin (g.B.Balances.totals l.lent) l.fn.working l.working;
  rest : (ms : List Placed) → HaveTotals (present (g.B.Balances.totals l.lent) l.fn.working) l.postings ms
      → trial_from (ms ++ flat_map tried_moves (take l.place (ordered l.order l.postings))) l.place (drop l.place (ordered l.order l.postings)) l.force ≡ trial_from ms 0 (ordered l.order l.postings) l.force;
}
