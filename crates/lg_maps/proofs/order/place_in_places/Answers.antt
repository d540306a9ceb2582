use Rattle.std.proofs.Common.{slice_get, rules}
use Rattle.std.proofs.lemmas.Fn.{always_returns_same}
use Rattle.lg_maps.specs.Searching.{order_at}
use Rattle.lg_maps.proofs.Chosen.{placed_all, placed_search}
use Rattle.lg_maps.proofs.order.place_in_places.Goals as goal

-- the closure compares the name of the entry at a place with the name
pub returns : goal.returns
returns g c =
    let facts = c.binary_search_by.ensures in
    placed_search c.args.name.now c.args.entries.now c.args.places.now c.requires.order
    (placed_all c.args.entries.now c.args.places.now c.requires.order.whole c.requires.placed) c.requires.placed c.binary_search_by.result facts.bound
    (facts.position (λ q. order_at c.args.name.now (slice_get c.args.entries.now q)) (always_returns_same _ _ _ (λ a r f called. search rules)))
