use Rattle.std.proofs.Common.{ℕ, ◌<◌, List, Some, length, get_or, sym, ap, subst, ◌∙◌, arith}
use Rattle.lg_containers.specs.Places.{IsAt}
use Rattle.lg_containers.proofs.Placed.{found_at, not_found, in_range}
use Rattle.lg_maps.specs.Chosen.{chosen, IsOrder}
use Rattle.lg_maps.proofs.Chosen.{chosen_at, held_below, length-chosen}
use Rattle.lg_maps.proofs.order.find_entry.Goals as goal

within : {V : Type 0} (name : List ℕ) (entries : List (List ℕ × V)) (places : List ℕ) (place : ℕ) → IsOrder entries places → IsAt name (chosen places entries) place → place < length entries
within name entries places place order at = subst (λ n. place < n) (length-chosen entries places order.whole) (in_range name (chosen places entries) place at)

pub bounds-entries-at : goal.bounds-entries-at
bounds-entries-at g c =
    subst (λ n. n < length c.args.entries.now) (sym c.entry_place-at.ensures)
    (held_below c.args.entries.now c.args.places.now c.in-Ok.place c.requires.below c.requires.whole (within c.args.name.now c.args.entries.now c.args.places.now c.in-Ok.place c.requires c.in-Ok.ensures))

pub offset_bounds-entries-at : goal.offset_bounds-entries-at
offset_bounds-entries-at g c =
    let less : c.entry_place-at.result < length c.args.entries.now =
    subst (λ n. n < length c.args.entries.now) (sym c.entry_place-at.ensures)
    (held_below c.args.entries.now c.args.places.now c.in-Ok.place c.requires.below c.requires.whole (within c.args.name.now c.args.entries.now c.args.places.now c.in-Ok.place c.requires c.in-Ok.ensures)) in
    omega (arith, less)

pub returns-in-Ok : goal.returns-in-Ok
returns-in-Ok g c =
    ap (λ h. Some (get_or c.args.entries.now h c.index-entries-at.result).1) c.entry_place-at.ensures
    ∙ ap (λ p. Some p.1) (sym (chosen_at c.args.entries.now c.args.places.now c.in-Ok.place c.index-entries-at.result c.requires.below c.requires.whole))
    ∙ found_at c.args.name.now (chosen c.args.places.now c.args.entries.now) c.in-Ok.place c.index-entries-at.result c.in-Ok.ensures

pub returns-in-Err : goal.returns-in-Err
returns-in-Err g c = not_found c.args.name.now (chosen c.args.places.now c.args.entries.now) c.in-Err.field-0 c.in-Err.ensures
