-- Filters in a row.
use Rattle.std.proofs.Common.{List, refl, sym, subst}
use Rattle.std.specs.Prelude.{codes}
use Rattle.lg_json.specs.Tree.{Tree, Trees}
use Rattle.lg_json.specs.Tree.Tree.{list}
use Rattle.lg_json.specs.Tree.Trees.{none, item}
use Rattle.lg_types.specs.declared.filters.ListKind.{ListKind}
use Rattle.lg_types.specs.declared.filters.Filter.{Filter, Row_of-Filter, end_of-Filter, more_of-Filter}
use Rattle.lg_types.specs.declared.filters.Filter as F
use Rattle.lg_types.specs.declared.filters.Filter.TheBlock as block
use denote.Hole.Carrier.{hidden}
use Rattle.lg_readings.specs.FilterReadings.{one, IsFilter, AreFilters}
use Rattle.lg_filters.specs.AtPaths.{AreFiltersOf}

row_are : (kind : ListKind) {n : _} (row : Row_of-Filter n) (ts : Trees) → AreFiltersOf kind (block.items-the_row-Filter n row) ts → AreFilters kind row ts
row_are kind end_of-Filter ts h = h
row_are kind (more_of-Filter filter filters) none h = h
row_are kind (more_of-Filter filter filters) (item t ts) h = (h.0, row_are kind filters ts h.1)

listed_are : (kind : ListKind) (fs : List Filter) (ts : Trees) → AreFiltersOf kind fs ts → AreFilters kind (block.hidden-the_row-Filter-0 fs) ts
listed_are kind fs ts h = row_are kind (block.hidden-the_row-Filter-0 fs) ts (subst (λ (l : List Filter). AreFiltersOf kind l ts) (sym (F.items_hidden-the_row-Filter-0 fs)) h)

pub both_is : (kind : ListKind) (fs : List Filter) (ts : Trees) → AreFiltersOf kind fs ts → IsFilter kind (F.Both fs) (one (codes "$and") (list ts))
both_is kind fs ts h = (ts, refl, listed_are kind fs ts h)

pub either_is : (kind : ListKind) (fs : List Filter) (ts : Trees) → AreFiltersOf kind fs ts → IsFilter kind (F.Either fs) (one (codes "$or") (list ts))
either_is kind fs ts h = (ts, refl, listed_are kind fs ts h)

alone : (kind : ListKind) (f : Filter) (t : Tree) → IsFilter kind f t → AreFilters kind (block.hidden-the_row-Filter-1 f) (item t none)
unfolding block.hidden-the_row-Filter-1 hidden
alone kind f t h = (h, refl)

pub not_is : (kind : ListKind) (f : Filter) (t : Tree) → IsFilter kind f t → IsFilter kind (F.Not f) (one (codes "$not") t)
not_is kind f t h = (t, refl, alone kind f t h)
