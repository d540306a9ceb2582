use Rattle.std.proofs.Common.{◌≡◌, ◌≤◌}
use Rattle.std.specs.List.{range_with_len}
use Rattle.std.specs.Vec.{vec_capacity}
use Rattle.lg_maps.proofs.room.place_all.Given as goal

abbrev pub invariant-loop-place : goal.invariant-loop-place
invariant-loop-place l = record {
  items : l.places.items ≡ range_with_len 0 l.place;
  capacity : vec_capacity l.fn.places ≤ vec_capacity l.places;
}
