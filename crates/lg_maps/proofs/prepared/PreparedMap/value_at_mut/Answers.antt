use Rattle.std.proofs.Common.{◌≡◌, ◌<◌, refl, sym, ap, subst, ◌∙◌}
use Rattle.lg_maps.specs.Chosen.{held}
use Rattle.lg_maps.proofs.Kept.{lent_inside, lent_kept, lent_table_at, lent_value_at}
use Rattle.lg_maps.proofs.Shown.{same_contents}
use Rattle.lg_maps.proofs.prepared.PreparedMap.value_at_mut.Goals as goal

pub index_mut-entry-requires : goal.index_mut-entry-requires
index_mut-entry-requires g c =
    let at : c.entry_place-at.result ≡ held c.self.inside.places.items c.args.place = c.entry_place-at.ensures ∙ ap (λ ps. held ps c.args.place) c.deref.ensures.value in
    subst (λ n. c.entry_place-at.result < n) (sym c.self.inside.entries.ok.0)
    (lent_inside c.self.inside.entries.items c.self.inside.places.items _ _ _ c.self.invariant c.args.place _ (ap (λ v. v.table) c.self.view_is) c.requires _ at)

pub invariant_of-self-lent : goal.invariant_of-self-lent
invariant_of-self-lent g c w =
    let at : c.entry_place-at.result ≡ held c.self.inside.places.items c.args.place = c.entry_place-at.ensures ∙ ap (λ ps. held ps c.args.place) c.deref.ensures.value in
    lent_kept c.self.inside.entries.items c.self.inside.places.items _ _ _ c.self.invariant c.args.place _ (ap (λ v. v.table) c.self.view_is) c.requires _ at
    c.index_mut-entry.result.now c.index_mut-entry.ensures.value w

pub returns : goal.returns
returns g c =
    let at : c.entry_place-at.result ≡ held c.self.inside.places.items c.args.place = c.entry_place-at.ensures ∙ ap (λ ps. held ps c.args.place) c.deref.ensures.value in (
      (refl, λ w. same_contents _ _ (lent_table_at c.self.inside.entries.items c.self.inside.places.items _ _ _ c.self.invariant c.args.place _ (ap (λ v. v.table) c.self.view_is) c.requires _ at c.index_mut-entry.result.now c.index_mut-entry.ensures.value w) (ap (λ v. v.spare) c.self.view_is)),
      record { writes_back = tt; value = lent_value_at c.self.inside.entries.items c.self.inside.places.items _ _ _ c.self.invariant c.args.place _ (ap (λ v. v.table) c.self.view_is) c.requires _ at c.index_mut-entry.result.now c.index_mut-entry.ensures.value },
    )
