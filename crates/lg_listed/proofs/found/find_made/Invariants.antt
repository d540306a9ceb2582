use Rattle.std.proofs.Common.{◌≡◌, drop}
use Rattle.lg_decide.specs.Looking.{transaction_at}
use Rattle.lg_listed.proofs.found.find_made.Given as goal

abbrev pub invariant-loop-entry : goal.invariant-loop-entry
invariant-loop-entry l = transaction_at l.entries l.id ≡ transaction_at (drop l.entry-index l.entries) l.id
