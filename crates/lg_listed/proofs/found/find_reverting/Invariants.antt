use Rattle.std.proofs.Common.{◌≡◌, drop}
use Rattle.lg_decide.specs.Looking.{reverted_by}
use Rattle.lg_listed.proofs.found.find_reverting.Given as goal

abbrev pub invariant-loop-entry : goal.invariant-loop-entry
invariant-loop-entry l = reverted_by l.entries l.id ≡ reverted_by (drop l.entry-index l.entries) l.id
