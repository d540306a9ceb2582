-- The name is among the members exactly where it is among those that are left.
use Rattle.std.proofs.Common.{◌≡◌, drop}
use Rattle.lg_json.specs.Places.{has, names_view}
use Rattle.lg_json.proofs.index.has_name.Given as goal

abbrev pub invariant-loop-member : goal.invariant-loop-member
invariant-loop-member l =
    has l.name (names_view (drop l.member-index l.members)) ≡ has l.name (names_view l.members)
