use Rattle.std.proofs.Common.{◌≡◌, true, false, take}
use Rattle.std.specs.List.{list_all, list_any}
use Rattle.lg_views.specs.Filters.{passes}
use Rattle.lg_select.proofs.filtering.+filtering.Given as goal

abbrev pub invariant-passes_all-loop-filter : goal.invariant-passes_all-loop-filter
invariant-passes_all-loop-filter g l = list_all (passes (g.T.Filtered.compares l.item) (g.T.Filtered.names l.item)) (take l.filter-index l.filters) ≡ true

abbrev pub invariant-passes_any-loop-filter : goal.invariant-passes_any-loop-filter
invariant-passes_any-loop-filter g l = list_any (passes (g.T.Filtered.compares l.item) (g.T.Filtered.names l.item)) (take l.filter-index l.filters) ≡ false
