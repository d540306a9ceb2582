use Rattle.std.proofs.Common.{◌∙◌}
use Rattle.lg_containers.proofs.Tables.{len_here}
use Rattle.lg_containers.proofs.map.NameMap.len.Goals as goal

pub returns : goal.returns
returns g c = c.len.ensures ∙ c.self.inside.entries.ok.0 ∙ len_here _ _ c.self.invariant c.self.view_is
