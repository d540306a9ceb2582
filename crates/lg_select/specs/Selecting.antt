-- Filters of a list, all of which an item passes.
use Rattle.std.specs.Prelude.{ℕ, Bool, List}
use Rattle.std.specs.List.{list_all}
use Rattle.lg_types.specs.declared.filters.Op.{Op}
use Rattle.lg_types.specs.declared.filters.Field.{Field}
use Rattle.lg_types.specs.declared.filters.Value.{Value}
use Rattle.lg_types.specs.declared.filters.Filter.{Filter}
use Rattle.lg_views.specs.Filters.{passes}

abbrev pub passes_each : (Op → Field → Value → Bool) → (List ℕ → Bool) → List Filter → Bool
passes_each compares names filters = list_all (passes compares names) filters
