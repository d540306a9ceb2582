use Rattle.std.proofs.Common.{not, List, sym, ap, ◌∙◌}
use Rattle.std.specs.List.{list_all, list_any}
use Rattle.lg_types.specs.declared.filters.Filter.{Filter}
use Rattle.lg_views.specs.Filters.{passes}
use Rattle.lg_select.proofs.Filters.{both_passes, either_passes, not_passes}
use Rattle.lg_select.proofs.filtering.+filtering.Goals as goal

pub passes-returns-in-Both : goal.passes-returns-in-Both
passes-returns-in-Both g t c =
    rw c.in-Both.is
    (c.passes_all.ensures
    ∙ ap (λ (fs : List Filter). list_all (passes (g.T.Filtered.compares c.args.item.now) (g.T.Filtered.names c.args.item.now)) fs) c.as_slice.ensures
    ∙ sym (both_passes (g.T.Filtered.compares c.args.item.now) (g.T.Filtered.names c.args.item.now) c.in-Both.filters))

pub passes-returns-in-Either : goal.passes-returns-in-Either
passes-returns-in-Either g t c =
    rw c.in-Either.is
    (c.passes_any.ensures
    ∙ ap (λ (fs : List Filter). list_any (passes (g.T.Filtered.compares c.args.item.now) (g.T.Filtered.names c.args.item.now)) fs) c.as_slice-in-Either.ensures
    ∙ sym (either_passes (g.T.Filtered.compares c.args.item.now) (g.T.Filtered.names c.args.item.now) c.in-Either.filters))

pub passes-returns-in-Not : goal.passes-returns-in-Not
passes-returns-in-Not g t c =
    rw c.in-Not.is
    (ap not (c.passes.ensures ∙ ap (λ (f : Filter). passes (g.T.Filtered.compares c.args.item.now) (g.T.Filtered.names c.args.item.now) f) c.get.ensures)
    ∙ sym (not_passes (g.T.Filtered.compares c.args.item.now) (g.T.Filtered.names c.args.item.now) c.in-Not.filter))
