use Rattle.std.proofs.Common.{◌≡◌, take}
use Rattle.lg_types.proofs.filters.+filter_copies.Given as goal

abbrev pub invariant-copy_filters-loop-filter : goal.invariant-copy_filters-loop-filter
invariant-copy_filters-loop-filter l = l.copied ≡ take l.filter-index l.filter-items
