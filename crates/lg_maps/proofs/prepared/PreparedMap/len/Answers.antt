use Rattle.std.proofs.Common.{sym, ap, ◌∙◌}
use Rattle.lg_containers.proofs.Tables.{len_here}
use Rattle.lg_maps.proofs.Chosen.{length-chosen}
use Rattle.lg_maps.proofs.prepared.PreparedMap.len.Goals as goal

pub returns : goal.returns
returns g c =
    c.len.ensures
    ∙ c.self.inside.entries.ok.0
    ∙ sym (length-chosen c.self.inside.entries.items c.self.inside.places.items c.self.invariant.order.whole)
    ∙ len_here _ _ c.self.invariant.order.rising (ap (λ v. v.table) c.self.view_is)
