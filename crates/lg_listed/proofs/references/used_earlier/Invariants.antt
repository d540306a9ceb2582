use Rattle.std.proofs.Common.{◌≡◌, drop}
use Rattle.lg_types.specs.Known.{used}
use Rattle.lg_listed.proofs.references.used_earlier.Given as goal

abbrev pub invariant-loop-entry : goal.invariant-loop-entry
invariant-loop-entry l = used l.entries l.reference ≡ used (drop l.entry-index l.entries) l.reference
