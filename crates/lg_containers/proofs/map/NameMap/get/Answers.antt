use Rattle.std.proofs.Common.{slice_get, ap, ◌∙◌}
use Rattle.lg_containers.proofs.Tables.{pairs_here}
use Rattle.lg_containers.proofs.map.NameMap.get.Goals as goal

pub returns : goal.returns
returns g c = c.entry_at.ensures ∙ ap (λ ps. slice_get ps c.args.place) (c.deref.ensures.value ∙ pairs_here _ _ c.self.invariant c.self.view_is)
