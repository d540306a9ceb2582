use Rattle.std.proofs.Common.{refl, ap}
use Rattle.lg_containers.specs.NameTable.{insert}
use Rattle.lg_maps.proofs.Shown.{name_there, not_absent, place_within, same_contents, value_there}
use Rattle.lg_maps.proofs.prepared.PreparedMap.value_mut.Goals as goal

pub value_at_mut-requires : goal.value_at_mut-requires
value_at_mut-requires g c = place_within c.args.self.now.table c.args.name.now c.in-Ok.place c.in-Ok.ensures

pub unreachable-requires : goal.unreachable-requires
unreachable-requires g c = not_absent c.args.self.now.table c.args.name.now c.in-Err.field-0 c.in-Err.ensures c.requires

pub returns : goal.returns
returns g c = (
  (refl, λ w. same_contents _ _ (ap (λ n. insert c.args.self.now.table n w) (name_there c.args.self.now.table c.args.name.now c.in-Ok.place c.in-Ok.ensures)) refl),
  record { writes_back = tt; value = value_there c.args.self.now.table c.args.name.now c.in-Ok.place _ _ c.in-Ok.ensures c.value_at_mut.ensures.value },
)
