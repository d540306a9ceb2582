-- The next pair behind a name: the first whose name is greater; with no name, the first of all.
use Rattle.std.specs.Prelude.{ℕ, List, slice_get}
use Rattle.std.proofs.Common.{Option, Some, None}
use Rattle.std.specs.List.{find}
use Rattle.std.specs.Ordering.{is_gt}
use Rattle.lg_containers.specs.NameOrder.{name_order}
use Rattle.lg_containers.specs.NameTable.{NameTable, pairs_of}

abbrev pub behind : {V : Type 0} → NameTable V → Option (List ℕ) → Option (List ℕ × V)
behind t None = slice_get (pairs_of t) 0
behind t (Some name) = find (λ p. is_gt (name_order p.0 name)) (pairs_of t)
