-- The order of names: that of their bytes, from the first on.
use Rattle.std.specs.Prelude.{ℕ, Bool, not, List}
use Rattle.std.specs.Cmp.Lexicographic.{slice_cmp}
use Rattle.std.specs.Ordering.{nat_cmp, eq_by_cmp}
use Rattle.std.specs.declared.cmp.Ordering.{Ordering}
use Rattle.std.specs.FinMap.Entries.{is_sorted}

abbrev pub name_order : List ℕ → List ℕ → Ordering
name_order = slice_cmp nat_cmp

-- the names strictly rise
abbrev pub is_in_order : {V : Type 0} → List (List ℕ × V) → Bool
is_in_order pairs = is_sorted name_order pairs

-- not the name
abbrev pub other_than : List ℕ → List ℕ → Bool
other_than name x = not (eq_by_cmp name_order name x)
