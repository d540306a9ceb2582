use Rattle.std.proofs.Common.{◌≡◌, List, drop}
use Rattle.lg_types.specs.Moves.{Placed}
use Rattle.lg_types.specs.Trial.{reverting, below_in}
use Rattle.lg_sheet.specs.Trials.{present, HaveTotals}
use Rattle.lg_sheet.proofs.revert.find_below.Given as goal

abbrev pub invariant-loop-place : goal.invariant-loop-place
invariant-loop-place g l = record {
  rest : (ms : List Placed) → HaveTotals (present (g.B.Balances.totals l.lent) l.working) l.postings ms → below_in ms (drop l.place (reverting l.postings)) ≡ below_in ms (reverting l.postings);
}
