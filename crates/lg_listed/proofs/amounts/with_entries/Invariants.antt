use Rattle.std.proofs.Common.{◌≡◌, drop}
use Rattle.lg_base.specs.Volumes.{sum_of}
use Rattle.lg_types.specs.Moves.{moves, total}
use Rattle.lg_listed.proofs.amounts.with_entries.Given as goal

abbrev pub invariant-loop-entry : goal.invariant-loop-entry
invariant-loop-entry l = sum_of l.sum (total (moves (drop l.entry-index l.entries)) l.account l.asset) ≡ sum_of l.fn.known (total (moves l.entries) l.account l.asset)
