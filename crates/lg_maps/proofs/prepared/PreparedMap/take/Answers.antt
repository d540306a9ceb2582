use Rattle.std.proofs.Common.{◌<◌, Some, refl, sym, ap, subst, ◌∙◌}
use Rattle.lg_containers.specs.Places.{IsAt, BelongsAt}
use Rattle.lg_containers.proofs.Placed.{found_at, not_found, without, in_range}
use Rattle.lg_containers.proofs.Tables.{get_here, take_table}
use Rattle.lg_maps.specs.Chosen.{chosen}
use Rattle.lg_maps.proofs.Chosen.{length-chosen}
use Rattle.lg_maps.proofs.Kept.{kept_at, kept_taken, table_taken}
use Rattle.lg_maps.proofs.Shown.{same_contents}
use Rattle.lg_maps.proofs.prepared.PreparedMap.take.Goals as goal

pub take_entry-requires-clause-within : goal.take_entry-requires-clause-within
take_entry-requires-clause-within g c =
    let at : IsAt c.args.name.now (chosen c.self.inside.places.items c.self.inside.entries.items) c.in-Ok.place = rw (← c.deref.ensures.value, ← c.deref-2.ensures.value) c.in-Ok.ensures in
    subst (λ n. c.in-Ok.place < n) (length-chosen c.self.inside.entries.items c.self.inside.places.items c.self.invariant.order.whole) (in_range c.args.name.now _ c.in-Ok.place at)

pub invariant_of-self : goal.invariant_of-self
invariant_of-self g c =
    let at : IsAt c.args.name.now (chosen c.self.inside.places.items c.self.inside.entries.items) c.in-Ok.place = rw (← c.deref.ensures.value, ← c.deref-2.ensures.value) c.in-Ok.ensures in
    kept_at _ _ _ _ _ _ _ c.take_entry.ensures.entry_room c.take_entry.ensures.place_room
    (kept_taken c.self.inside.entries.items c.self.inside.places.items _ _ _ c.self.invariant c.args.name.now c.in-Ok.place at _ _ c.take_entry.ensures.rest c.take_entry.ensures.below c.take_entry.ensures.entries c.take_entry.ensures.places)

pub returns-in-Ok-clause-value : goal.returns-in-Ok-clause-value
returns-in-Ok-clause-value g c =
    let at : IsAt c.args.name.now (chosen c.self.inside.places.items c.self.inside.entries.items) c.in-Ok.place = rw (← c.deref.ensures.value, ← c.deref-2.ensures.value) c.in-Ok.ensures in
    ap Some (c.take_entry.ensures.value (c.args.name.now, at.value))
    ∙ found_at c.args.name.now (chosen c.self.inside.places.items c.self.inside.entries.items) c.in-Ok.place (c.args.name.now, at.value) at
    ∙ get_here _ _ c.args.name.now c.self.invariant.order.rising (ap (λ v. v.table) c.self.view_is)

pub returns-in-Ok-clause-rest : goal.returns-in-Ok-clause-rest
returns-in-Ok-clause-rest g c =
    let at : IsAt c.args.name.now (chosen c.self.inside.places.items c.self.inside.entries.items) c.in-Ok.place = rw (← c.deref.ensures.value, ← c.deref-2.ensures.value) c.in-Ok.ensures in
    same_contents _ _
    (table_taken c.self.inside.entries.items c.self.inside.places.items _ _ _ c.self.invariant c.args.name.now c.in-Ok.place at c.take_entry.new.entries.items c.take_entry.new.places.items c.take_entry.ensures.rest _ (ap (λ v. v.table) c.self.view_is))
    (ap (λ v. v.spare) c.self.view_is)

pub returns-in-Err-clause-value : goal.returns-in-Err-clause-value
returns-in-Err-clause-value g c =
    let at : BelongsAt c.args.name.now (chosen c.self.inside.places.items c.self.inside.entries.items) c.in-Err.field-0 = rw (← c.deref.ensures.value, ← c.deref-2.ensures.value) c.in-Err.ensures in
    not_found c.args.name.now _ _ at ∙ get_here _ _ c.args.name.now c.self.invariant.order.rising (ap (λ v. v.table) c.self.view_is)

pub returns-in-Err-clause-rest : goal.returns-in-Err-clause-rest
returns-in-Err-clause-rest g c =
    let at : BelongsAt c.args.name.now (chosen c.self.inside.places.items c.self.inside.entries.items) c.in-Err.field-0 = rw (← c.deref.ensures.value, ← c.deref-2.ensures.value) c.in-Err.ensures in
    same_contents c.args.self.now _
    (sym (ap (λ v. v.table) c.self.view_is)
    ∙ take_table _ _ _ c.args.name.now c.self.invariant.order.rising (ap (λ v. v.table) c.self.view_is) (without c.args.name.now _ _ at))
    refl
