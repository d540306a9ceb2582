use Rattle.std.proofs.Common.{ap, ap₂, subst, ◌∙◌}
use Rattle.lg_containers.specs.Places.{IsPlace}
use Rattle.lg_containers.proofs.Tables.{pairs_here}
use Rattle.lg_maps.specs.Chosen.{chosen}
use Rattle.lg_maps.proofs.prepared.PreparedMap.place_of.Goals as goal

pub returns : goal.returns
returns g c =
    subst (λ ps. IsPlace c.args.name.now ps c.place_of.result)
    (ap₂ chosen c.deref-2.ensures.value c.deref.ensures.value ∙ pairs_here _ _ c.self.invariant.order.rising (ap (λ v. v.table) c.self.view_is)) c.place_of.ensures
