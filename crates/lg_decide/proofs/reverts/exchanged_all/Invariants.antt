use Rattle.std.proofs.Common.{◌≡◌, map, take}
use Rattle.lg_types.specs.Trial.{exchanged}
use Rattle.lg_decide.proofs.reverts.exchanged_all.Given as goal

abbrev pub invariant-loop-posting : goal.invariant-loop-posting
invariant-loop-posting l = l.items.items ≡ map exchanged (take l.posting-index l.postings)
