use Rattle.std.proofs.Common.{ap, ap₂, ◌∙◌}
use Rattle.std.specs.FinMap.Entries.{find}
use Rattle.lg_containers.specs.NameOrder.{name_order}
use Rattle.lg_containers.proofs.Tables.{get_here}
use Rattle.lg_maps.specs.Chosen.{chosen}
use Rattle.lg_maps.proofs.prepared.PreparedMap.find.Goals as goal

pub returns : goal.returns
returns g c =
    c.find_entry.ensures
    ∙ ap₂ (λ ps es. find name_order c.args.name.now (chosen ps es)) c.deref-2.ensures.value c.deref.ensures.value
    ∙ get_here _ _ c.args.name.now c.self.invariant.order.rising (ap (λ v. v.table) c.self.view_is)
