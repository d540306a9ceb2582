use Rattle.std.proofs.Common.{◌≡◌, ap₂, ◌∙◌}
use Rattle.lg_containers.specs.NameTable.{insert, pairs_of}
use Rattle.lg_containers.specs.Places.{IsAt}
use Rattle.lg_maps.specs.Contents.{name_at}
use Rattle.lg_maps.proofs.Shown.{name_there, place_within}
use Rattle.lg_maps.proofs.map.NameMap.put.Goals as goal
use Rattle.lg_maps.proofs.map.NameMap.put.Goals.{in-Long-2, in-Short-2}

pub value_at_mut-requires : goal.value_at_mut-requires
value_at_mut-requires g c =
    let at : IsAt c.args.name (pairs_of c.self.inside.names.table) c.in-Ok.place = rw (← c.bytes.ensures.value) c.in-Ok.ensures in
    place_within c.self.inside.names.table c.args.name c.in-Ok.place at

pub returns-in-Ok-clause-ok : goal.returns-in-Ok-clause-ok
returns-in-Ok-clause-ok g c =
    let at : IsAt c.args.name (pairs_of c.self.inside.names.table) c.in-Ok.place = rw (← c.bytes.ensures.value) c.in-Ok.ensures in
    let is : insert c.self.inside.names.table (name_at c.self.inside.names.table c.in-Ok.place) c.args.value ≡ insert c.args.self.now c.args.name c.args.value =
    ap₂ (λ t n. insert t n c.args.value) c.self.view_is (name_there c.self.inside.names.table c.args.name c.in-Ok.place at) in
    elim c.match-name.branch [ in-Long-2 w ↦ w.self-is ∙ is | in-Short-2 w ↦ w.self-is ∙ is ]
