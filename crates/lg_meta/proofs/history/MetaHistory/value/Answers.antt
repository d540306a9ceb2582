use Rattle.std.proofs.Common.{[], None, refl, sym, ap, ◌∙◌}
use Rattle.lg_containers.specs.NameTable.{get}
use Rattle.lg_meta.specs.MetaFold.{meta_at}
use Rattle.lg_meta.proofs.Histories.{partitioned_here, read_here, places_found}
use Rattle.lg_meta.proofs.history.MetaHistory.value.Goals as goal

pub latest-requires : goal.latest-requires
latest-requires c =
    partitioned_here c.args.date c.args.name.now _ _ c.self.inside.applied _ c.deref.ensures.value
    (c.as_slice.ensures ∙ sym (places_found _ c.args.name.now _ c.in-Some.ensures) ∙ c.self.invariant.complete c.args.name.now)
    c.self.invariant.rising

pub returns-in-None : goal.returns-in-None
returns-in-None c =
    read_here c.args.date c.args.name.now _ c.self.inside.changes.items c.self.inside.applied [] refl
    (sym (places_found c.self.inside.index c.args.name.now None c.in-None.ensures) ∙ c.self.invariant.complete c.args.name.now)
    ∙ ap (λ h. get (meta_at c.args.date h.changes) c.args.name.now) c.self.view_is

pub returns-in-Some : goal.returns-in-Some
returns-in-Some c =
    c.latest.ensures
    ∙ read_here c.args.date c.args.name.now _ _ c.self.inside.applied _ c.deref.ensures.value
    (c.as_slice.ensures ∙ sym (places_found _ c.args.name.now _ c.in-Some.ensures) ∙ c.self.invariant.complete c.args.name.now)
    ∙ ap (λ h. get (meta_at c.args.date h.changes) c.args.name.now) c.self.view_is
