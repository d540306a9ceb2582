use Rattle.std.proofs.Common.{◌≡◌, drop}
use Rattle.lg_weigh.specs.Weighing.{kept_in}
use Rattle.lg_listed.proofs.keys.kept_earlier.Given as goal

abbrev pub invariant-loop-entry : goal.invariant-loop-entry
invariant-loop-entry l = kept_in l.entries l.key ≡ kept_in (drop l.entry-index l.entries) l.key
