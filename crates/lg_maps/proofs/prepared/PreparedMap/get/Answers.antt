use Rattle.std.proofs.Common.{slice_get, ap, ap₂, ◌∙◌}
use Rattle.lg_containers.proofs.Tables.{pairs_here}
use Rattle.lg_maps.specs.Chosen.{chosen}
use Rattle.lg_maps.proofs.prepared.PreparedMap.get.Goals as goal

pub returns : goal.returns
returns g c =
    c.entry_at.ensures
    ∙ ap₂ (λ ps es. slice_get (chosen ps es) c.args.place) c.deref-2.ensures.value c.deref.ensures.value
    ∙ ap (λ ps. slice_get ps c.args.place) (pairs_here _ _ c.self.invariant.order.rising (ap (λ v. v.table) c.self.view_is))
