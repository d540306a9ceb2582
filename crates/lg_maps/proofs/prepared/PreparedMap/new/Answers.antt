use Rattle.std.proofs.Common.{refl, ap₂}
use Rattle.lg_containers.proofs.Tables.{from_pairs-empty}
use Rattle.lg_maps.specs.Chosen.{chosen}
use Rattle.lg_maps.proofs.Shown.{same_contents}
use Rattle.lg_maps.proofs.prepared.PreparedMap.new.Goals as goal

pub returns : goal.returns
returns g c = same_contents _ _ (from_pairs-empty _ (ap₂ chosen c.new-2.ensures.items c.new.ensures.items)) refl
