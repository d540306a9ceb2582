use Rattle.std.proofs.Common.{◌≡◌, ◌+◌, ap, slice_get, arith, subst}
use Rattle.std.specs.List.{find}
use Rattle.std.specs.Ordering.{is_gt}
use Rattle.lg_containers.specs.NameOrder.{name_order}
use Rattle.lg_containers.specs.Places.{IsAt, BelongsAt}
use Rattle.lg_containers.proofs.Placed.{in_range}
use Rattle.lg_containers.proofs.Tables.{pairs_here}
use Rattle.lg_maps.specs.Chosen.{chosen}
use Rattle.lg_maps.proofs.Behind.{behind_here, behind_gap}
use Rattle.lg_maps.proofs.Chosen.{length-chosen}
use Rattle.lg_maps.proofs.prepared.PreparedMap.place_behind.Goals as goal

pub overflow_add-result : goal.overflow_add-result
overflow_add-result g c =
    let at : IsAt c.args.name.now (chosen c.self.inside.places.items c.self.inside.entries.items) c.in-Ok.place = rw (← c.deref.ensures.value, ← c.deref-2.ensures.value) c.in-Ok.ensures in
    omega (arith, in_range c.args.name.now _ c.in-Ok.place at, length-chosen c.self.inside.entries.items c.self.inside.places.items c.self.invariant.order.whole, c.self.invariant.limit)

pub returns-in-Ok : goal.returns-in-Ok
returns-in-Ok g c =
    let at : IsAt c.args.name.now (chosen c.self.inside.places.items c.self.inside.entries.items) c.in-Ok.place = rw (← c.deref.ensures.value, ← c.deref-2.ensures.value) c.in-Ok.ensures in
    subst (λ ps. slice_get ps (c.in-Ok.place + 1) ≡ find (λ p. is_gt (name_order p.0 c.args.name.now)) ps) (pairs_here _ _ c.self.invariant.order.rising (ap (λ v. v.table) c.self.view_is))
    (behind_here c.args.name.now _ c.in-Ok.place at)

pub returns-in-Err : goal.returns-in-Err
returns-in-Err g c =
    let at : BelongsAt c.args.name.now (chosen c.self.inside.places.items c.self.inside.entries.items) c.in-Err.place = rw (← c.deref.ensures.value, ← c.deref-2.ensures.value) c.in-Err.ensures in
    subst (λ ps. slice_get ps c.in-Err.place ≡ find (λ p. is_gt (name_order p.0 c.args.name.now)) ps) (pairs_here _ _ c.self.invariant.order.rising (ap (λ v. v.table) c.self.view_is))
    (behind_gap c.args.name.now _ c.in-Err.place at)
