-- From one name on to the next, in byte order.
use Rattle.std.specs.Prelude.{◌≡◌, ℕ, Bool, true, List, Option, Some, None}
use Rattle.std.specs.List.{find}
use Rattle.std.specs.Ordering.{is_gt}
use Rattle.lg_containers.specs.NameOrder.{name_order}
use Rattle.lg_shard.specs.Shown.{ListsExactly}

-- whether the name stands behind the given one; where none is given, each name does
abbrev pub is_behind : Option (List ℕ) → List ℕ → Bool
is_behind None name = true
is_behind (Some given) name = is_gt (name_order name given)

-- of the names that pass the test, the first that stands behind the given one; none where there is no such name
pub record IsNextName (test : List ℕ → Bool) (given next : Option (List ℕ)) : Type 0 where
  pub names : List (List ℕ)
  pub exactly : ListsExactly names test
  pub first : next ≡ find (is_behind given) names
