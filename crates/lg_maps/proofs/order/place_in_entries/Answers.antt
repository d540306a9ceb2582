use Rattle.std.proofs.Common.{rules}
use Rattle.std.proofs.lemmas.Fn.{always_returns_same}
use Rattle.lg_containers.specs.NameOrder.{name_order}
use Rattle.lg_containers.proofs.Placed.{searched}
use Rattle.lg_maps.proofs.order.place_in_entries.Goals as goal

-- the closure compares the name of an entry with the name
pub returns : goal.returns
returns g c =
    let facts = c.binary_search_by.ensures in
    searched c.args.name.now c.args.entries.now c.binary_search_by.result c.requires facts.bound
    (facts.position (λ p. name_order p.0 c.args.name.now) (always_returns_same _ _ _ (λ a r f called. search rules)))
