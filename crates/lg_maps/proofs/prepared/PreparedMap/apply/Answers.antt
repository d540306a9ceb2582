use Rattle.lg_containers.specs.NameTable.{pairs_of}
use Rattle.lg_containers.specs.Places.{IsAt}
use Rattle.lg_maps.proofs.Shown.{not_present}
use Rattle.lg_maps.proofs.prepared.PreparedMap.apply.Goals as goal

pub unreachable-requires : goal.unreachable-requires
unreachable-requires g c =
    let at : IsAt c.args.name (pairs_of c.args.self.now.table) c.in-Ok.field-0 = rw (← c.bytes.ensures.value) c.in-Ok.ensures in
    not_present c.args.self.now.table c.args.name c.in-Ok.field-0 at c.requires.absent
