-- Dates of a log, and the date from which on a list of changes has one.
use Rattle.std.specs.Prelude.{◌≡◌, ℕ, ◌≤◌, ℤ, ◌≤ℤ◌, Bool, false, List, Option, Some, None, slice_get}
use Rattle.lg_types.specs.declared.records.Entry.{Entry}
use Rattle.lg_types.specs.Tally.{is_to}

-- the dates of entries never fall
abbrev pub NeverFall : List Entry → Type 0
NeverFall g = (j k : ℕ) (d e : Entry) → slice_get g j ≡ Some d → slice_get g k ≡ Some e → j ≤ k → d.date ≤ℤ e.date

-- whether there is a first date, and it is at most the given one
abbrev pub is_begun : Option ℤ → Option ℤ → Bool
is_begun pit None = false
is_begun pit (Some first) = is_to pit first
