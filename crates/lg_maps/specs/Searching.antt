-- How the name of an entry compares with a name; `Less` where there is no entry.
use Rattle.std.specs.Prelude.{ℕ, List}
use Rattle.std.proofs.Common.{Option, Some, None}
use Rattle.std.specs.declared.cmp.Ordering.{Ordering}
use Rattle.std.specs.declared.cmp.Ordering.TheVariants.{Less}
use Rattle.lg_containers.specs.NameOrder.{name_order}

abbrev pub order_at : {V : Type 0} → List ℕ → Option (List ℕ × V) → Ordering
order_at name None = Less
order_at name (Some entry) = name_order entry.0 name
