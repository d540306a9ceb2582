-- The lines of a head and its two limits.
use Rattle.std.specs.Prelude.{ℕ, ◌+◌, ◌-◌, ◌<◌, ◌≤◌, ◌⊎◌, ◌==◌, Bool, false, not, ◌||◌, if◌then◌else◌, List, length, fold}

-- what the lines so far come to: whether the line that isn't ended yet has a byte other than CR, and how many lines
-- with such a byte were ended by LF
pub record Lines : Type 0 where
  pub has_text : Bool
  pub ended : ℕ

-- the same with one more byte
abbrev pub line_step : Lines → ℕ → Lines
line_step l b =
    (if b == 10 then record { has_text = false; ended = (if l.has_text then l.ended + 1 else l.ended) }
    else record { has_text = l.has_text || not (b == 13); ended = l.ended })

-- before the first byte
abbrev pub no_lines : Lines
no_lines = record { has_text = false; ended = 0 }

-- the lines of the bytes
abbrev pub lines_of : List ℕ → Lines
lines_of bytes = fold line_step no_lines bytes

-- how many header lines were ended by LF: the lines behind the first, which is the request line; an empty line is none
abbrev pub header_lines : List ℕ → ℕ
header_lines bytes = (lines_of bytes).ended - 1

-- at most 16,384 bytes and 64 header lines
pub record IsWithinLimits (bytes : List ℕ) : Type 0 where
  pub bytes_fit : length bytes ≤ 16384
  pub lines_fit : header_lines bytes ≤ 64

-- more than 16,384 bytes, or more than 64 header lines
abbrev pub PassesLimits : List ℕ → Type 0
PassesLimits bytes = (16384 < length bytes) ⊎ (64 < header_lines bytes)
