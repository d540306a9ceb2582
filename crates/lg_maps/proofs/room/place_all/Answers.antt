use Rattle.std.proofs.Common.{ap, insert, length, ◌∙◌, arith}
use Rattle.std.proofs.lemmas.List.FromFn.{length-range_with_len}
use Rattle.lg_maps.proofs.Changed.{range_more}
use Rattle.lg_maps.proofs.room.place_all.Goals as goal

pub insert_within-requires-clause-room : goal.insert_within-requires-clause-room
insert_within-requires-clause-room c = omega (arith, ap length c.loop-place.invariant.items, length-range_with_len 0 c.loop-place.place)

pub insert_within-requires-clause-place : goal.insert_within-requires-clause-place
insert_within-requires-clause-place c = omega (arith, ap length c.loop-place.invariant.items, length-range_with_len 0 c.loop-place.place)

pub loop-place-preserved : goal.loop-place-preserved
loop-place-preserved c = record {
  items = c.insert_within.ensures.items ∙ ap (λ xs. insert xs c.loop-place.place c.loop-place.place) c.loop-place.invariant.items ∙ range_more c.loop-place.place;
  capacity = omega arith;
}
