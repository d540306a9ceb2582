use Rattle.std.proofs.Common.{◌-◌}
use Rattle.lg_types.specs.Log.{log}
use Rattle.lg_query.proofs.Dates.{Halves}
use Rattle.lg_query.proofs.listed_entries.count_to.Given as goal

abbrev pub invariant-halving : goal.invariant-halving
invariant-halving l = Halves (log l.book.events l.ledger) l.date l.low l.high

abbrev pub decreases-halving : goal.decreases-halving
decreases-halving l = l.high - l.low
