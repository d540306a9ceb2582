use Rattle.std.proofs.Common.{◌≡◌, ◌++◌, map, take, drop}
use Rattle.lg_containers.specs.NameTable.{pairs_of}
use Rattle.lg_meta.proofs.Cuts.{cut_entry}
use Rattle.lg_meta.proofs.index.cut.Given as goal

abbrev pub invariant-loop-at : goal.invariant-loop-at
invariant-loop-at l = pairs_of l.index ≡ map (cut_entry l.limit) (take l.at (pairs_of l.fn.index)) ++ drop l.at (pairs_of l.fn.index)
