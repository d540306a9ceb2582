-- How many lines a text has.
use Rattle.std.specs.Prelude.{ℕ, ◌+◌, ◌-◌, ◌==◌, Bool, if◌then◌else◌, List, length, Option, Some, None, count_by, slice_get}

abbrev pub is_newline : ℕ → Bool
is_newline b = b == 10

abbrev pub unended_lines : Option ℕ → ℕ
unended_lines None = 0
unended_lines (Some b) = if is_newline b then 0 else 1

-- each line ends at a newline, and a last one without a newline counts
abbrev pub line_count : List ℕ → ℕ
line_count bytes = count_by (λ b. b == 10) bytes + unended_lines (slice_get bytes (length bytes - 1))
