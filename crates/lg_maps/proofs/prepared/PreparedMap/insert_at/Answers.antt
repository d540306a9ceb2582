use Rattle.std.proofs.Common.{◌≡◌, ◌-◌, ◌≤◌, insert, sym, ap, subst, ◌∙◌, arith}
use Rattle.lg_containers.specs.NameTable.{from_pairs}
use Rattle.lg_containers.specs.Places.{BelongsAt}
use Rattle.lg_containers.proofs.Tables.{pairs_here}
use Rattle.lg_maps.specs.Chosen.{chosen, IsKept}
use Rattle.lg_maps.proofs.Kept.{fits_few, fits_places, kept_few, kept_many, table_few, table_many}
use Rattle.lg_maps.proofs.Shown.{same_contents}
use Rattle.lg_maps.proofs.prepared.PreparedMap.insert_at.Goals as goal

pub insert_within-requires-clause-place : goal.insert_within-requires-clause-place
insert_within-requires-clause-place g c =
    let some : 1 ≤ c.self.inside.spare = omega (arith, c.requires.room, ap (λ v. v.spare) c.self.view_is) in
    let none : c.self.inside.places.cap ≡ 0 = omega (arith, c.capacity.ensures, c.if-capacity-eq0.true) in
    let at : BelongsAt c.args.name (chosen c.self.inside.places.items c.self.inside.entries.items) c.args.place = subst (λ ps. BelongsAt c.args.name ps c.args.place) (sym (pairs_here _ _ c.self.invariant.order.rising (ap (λ v. v.table) c.self.view_is))) c.requires.place in
    fits_few _ _ _ _ _ c.self.invariant some c.args.name c.args.value c.args.place at none

pub invariant_of-self : goal.invariant_of-self
invariant_of-self g c =
    let some : 1 ≤ c.self.inside.spare = omega (arith, c.requires.room, ap (λ v. v.spare) c.self.view_is) in
    let none : c.self.inside.places.cap ≡ 0 = omega (arith, c.capacity.ensures, c.if-capacity-eq0.true) in
    let at : BelongsAt c.args.name (chosen c.self.inside.places.items c.self.inside.entries.items) c.args.place = subst (λ ps. BelongsAt c.args.name ps c.args.place) (sym (pairs_here _ _ c.self.invariant.order.rising (ap (λ v. v.table) c.self.view_is))) c.requires.place in
    subst (λ es. IsKept es c.self.inside.places.items (c.self.inside.spare - 1) c.insert_within.new.items.cap c.self.inside.places.cap) (sym c.insert_within.ensures.items)
    (kept_few _ _ _ _ _ c.self.invariant some c.args.name c.args.value c.args.place at none c.insert_within.new.items.cap c.insert_within.ensures.capacity)

pub insert_within-requires-else-capacity-eq0-2-clause-place : goal.insert_within-requires-else-capacity-eq0-2-clause-place
insert_within-requires-else-capacity-eq0-2-clause-place g c =
    let some : 1 ≤ c.self.inside.spare = omega (arith, c.requires.room, ap (λ v. v.spare) c.self.view_is) in
    let at : BelongsAt c.args.name (chosen c.self.inside.places.items c.self.inside.entries.items) c.args.place = subst (λ ps. BelongsAt c.args.name ps c.args.place) (sym (pairs_here _ _ c.self.invariant.order.rising (ap (λ v. v.table) c.self.view_is))) c.requires.place in
    fits_places _ _ _ _ _ c.self.invariant some c.args.name c.args.value c.args.place at (λ h. omega (arith, c.capacity.ensures, c.if-capacity-eq0.false, h))

pub invariant_of-self-else-capacity-eq0 : goal.invariant_of-self-else-capacity-eq0
invariant_of-self-else-capacity-eq0 g c =
    let some : 1 ≤ c.self.inside.spare = omega (arith, c.requires.room, ap (λ v. v.spare) c.self.view_is) in
    let at : BelongsAt c.args.name (chosen c.self.inside.places.items c.self.inside.entries.items) c.args.place = subst (λ ps. BelongsAt c.args.name ps c.args.place) (sym (pairs_here _ _ c.self.invariant.order.rising (ap (λ v. v.table) c.self.view_is))) c.requires.place in
    subst (λ ps. IsKept c.insert_within-else-capacity-eq0.new.items.items ps (c.self.inside.spare - 1) c.insert_within-else-capacity-eq0.new.items.cap c.insert_within-else-capacity-eq0-2.new.items.cap) (sym (c.insert_within-else-capacity-eq0-2.ensures.items ∙ ap (insert c.self.inside.places.items c.args.place) (c.len-last.ensures ∙ c.self.inside.entries.ok.0)))
    (kept_many _ _ _ _ _ c.self.invariant some c.args.name c.args.value c.args.place at (λ h. omega (arith, c.capacity.ensures, c.if-capacity-eq0.false, h))
    c.insert_within-else-capacity-eq0.new.items.items (c.insert_within-else-capacity-eq0.ensures.items ∙ ap (λ n. insert c.self.inside.entries.items n (c.args.name, c.args.value)) (c.len-last.ensures ∙ c.self.inside.entries.ok.0))
    c.insert_within-else-capacity-eq0.new.items.cap c.insert_within-else-capacity-eq0-2.new.items.cap c.insert_within-else-capacity-eq0.ensures.capacity c.insert_within-else-capacity-eq0-2.ensures.capacity)

pub returns-then-capacity-eq0 : goal.returns-then-capacity-eq0
returns-then-capacity-eq0 g c =
    let some : 1 ≤ c.self.inside.spare = omega (arith, c.requires.room, ap (λ v. v.spare) c.self.view_is) in
    let none : c.self.inside.places.cap ≡ 0 = omega (arith, c.capacity.ensures, c.if-capacity-eq0.true) in
    let at : BelongsAt c.args.name (chosen c.self.inside.places.items c.self.inside.entries.items) c.args.place = subst (λ ps. BelongsAt c.args.name ps c.args.place) (sym (pairs_here _ _ c.self.invariant.order.rising (ap (λ v. v.table) c.self.view_is))) c.requires.place in
    same_contents _ _
    (ap (λ es. from_pairs (chosen c.self.inside.places.items es)) c.insert_within.ensures.items
    ∙ table_few _ _ _ _ _ c.self.invariant some c.args.name c.args.value c.args.place at none _ (ap (λ v. v.table) c.self.view_is))
    (ap (λ v. v.spare - 1) c.self.view_is)

pub returns-else-capacity-eq0 : goal.returns-else-capacity-eq0
returns-else-capacity-eq0 g c =
    let some : 1 ≤ c.self.inside.spare = omega (arith, c.requires.room, ap (λ v. v.spare) c.self.view_is) in
    let at : BelongsAt c.args.name (chosen c.self.inside.places.items c.self.inside.entries.items) c.args.place = subst (λ ps. BelongsAt c.args.name ps c.args.place) (sym (pairs_here _ _ c.self.invariant.order.rising (ap (λ v. v.table) c.self.view_is))) c.requires.place in
    same_contents _ _
    (ap (λ ps. from_pairs (chosen ps c.insert_within-else-capacity-eq0.new.items.items)) (c.insert_within-else-capacity-eq0-2.ensures.items ∙ ap (insert c.self.inside.places.items c.args.place) (c.len-last.ensures ∙ c.self.inside.entries.ok.0))
    ∙ table_many _ _ _ _ _ c.self.invariant some c.args.name c.args.value c.args.place at (λ h. omega (arith, c.capacity.ensures, c.if-capacity-eq0.false, h))
    c.insert_within-else-capacity-eq0.new.items.items (c.insert_within-else-capacity-eq0.ensures.items ∙ ap (λ n. insert c.self.inside.entries.items n (c.args.name, c.args.value)) (c.len-last.ensures ∙ c.self.inside.entries.ok.0))
    _ (ap (λ v. v.table) c.self.view_is))
    (ap (λ v. v.spare - 1) c.self.view_is)
