use Rattle.std.proofs.Common.{◌≡◌, ap, subst, refl, ◌∙◌, length, arith}
use Rattle.std.proofs.lemmas.Result.{err_from_is_err_and}
use Rattle.lg_containers.specs.NameTable.{from_pairs}
use Rattle.lg_maps.specs.Chosen.{IsPlaceRoom, IsSpread}
use Rattle.lg_maps.proofs.Kept.{kept_more, kept_room, shown_room}
use Rattle.lg_maps.proofs.Shown.{same_contents}
use Rattle.lg_maps.proofs.prepared.PreparedMap.make_room.Goals as goal

pub invariant_of-self-in_err-reserve_places : goal.invariant_of-self-in_err-reserve_places
invariant_of-self-in_err-reserve_places g c =
    let count : c.len-count.result ≡ length c.self.inside.entries.items = c.len-count.ensures ∙ c.self.inside.entries.ok.0 in
    kept_room c.self.inside.entries.items c.reserve_items.new.items.items c.self.inside.places.items c.reserve_places.new.places.items _ _ _ _ _ c.self.invariant c.reserve_items.ensures.items
    (subst (λ n. IsSpread n c.self.inside.places.items c.reserve_places.new.places.items) count c.reserve_places.ensures.places)
    c.reserve_items.ensures.capacity
    (subst (λ n. IsPlaceRoom n (length c.reserve_places.new.places.items) c.self.inside.spare c.reserve_places.new.places.cap) count c.in_err-reserve_places.ensures.err)

pub returns-in_err-reserve_places-clause-err : goal.returns-in_err-reserve_places-clause-err
returns-in_err-reserve_places-clause-err g c =
    let count : c.len-count.result ≡ length c.self.inside.entries.items = c.len-count.ensures ∙ c.self.inside.entries.ok.0 in
    let p = err_from_is_err_and c.from_residual-in_err-reserve_places.result c.from_residual-in_err-reserve_places.ensures.1 in
    rw p.1
    (same_contents _ _
    (ap from_pairs (shown_room c.self.inside.entries.items c.reserve_items.new.items.items c.self.inside.places.items c.reserve_places.new.places.items c.self.invariant.order c.reserve_items.ensures.items
    (subst (λ n. IsSpread n c.self.inside.places.items c.reserve_places.new.places.items) count c.reserve_places.ensures.places))
    ∙ ap (λ v. v.table) c.self.view_is)
    (ap (λ v. v.spare) c.self.view_is))

pub invariant_of-self-2 : goal.invariant_of-self-2
invariant_of-self-2 g c =
    let count : c.len-count.result ≡ length c.self.inside.entries.items = c.len-count.ensures ∙ c.self.inside.entries.ok.0 in
    kept_more c.self.inside.entries.items c.reserve_items.new.items.items c.self.inside.places.items c.reserve_places.new.places.items c.args.more _ _ c.self.invariant.order c.reserve_items.ensures.items
    (subst (λ n. IsSpread n c.self.inside.places.items c.reserve_places.new.places.items) count c.reserve_places.ensures.places)
    (omega (arith, c.in_ok-reserve_items.ensures.ok, ap length c.reserve_items.ensures.items))
    (subst (λ n. IsPlaceRoom n (length c.reserve_places.new.places.items) c.args.more c.reserve_places.new.places.cap) count c.in_ok-reserve_places.ensures.ok)
    (omega (arith, count))

pub returns-clause-ok : goal.returns-clause-ok
returns-clause-ok g c =
    let count : c.len-count.result ≡ length c.self.inside.entries.items = c.len-count.ensures ∙ c.self.inside.entries.ok.0 in
    same_contents _ _
    (ap from_pairs (shown_room c.self.inside.entries.items c.reserve_items.new.items.items c.self.inside.places.items c.reserve_places.new.places.items c.self.invariant.order c.reserve_items.ensures.items
    (subst (λ n. IsSpread n c.self.inside.places.items c.reserve_places.new.places.items) count c.reserve_places.ensures.places))
    ∙ ap (λ v. v.table) c.self.view_is)
    refl
