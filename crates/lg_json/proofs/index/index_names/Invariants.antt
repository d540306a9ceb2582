-- The index has the names of the members so far.
use Rattle.std.proofs.Common.{take}
use Rattle.lg_json.specs.Places.{IsIndexed, names_view}
use Rattle.lg_json.proofs.index.index_names.Given as goal

abbrev pub invariant-loop-place : goal.invariant-loop-place
invariant-loop-place l = IsIndexed (names_view (take l.place l.members)) l.index
