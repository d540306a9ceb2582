use Rattle.std.proofs.Common.{◌≡◌, ◌+◌, drop, length}
use Rattle.lg_types.specs.Known.{transactions}
use Rattle.lg_listed.proofs.found.count_with.Given as goal

abbrev pub invariant-loop-entry : goal.invariant-loop-entry
invariant-loop-entry l = l.total + length (transactions (drop l.entry-index l.entries)) ≡ l.fn.count + length (transactions l.entries)
