-- How far a scan has come through the bytes of a head.
use Rattle.std.specs.Prelude.{◌≡◌, ℕ, ◌+◌, ◌<◌, ◌≤◌, false, List, length, take}
use Rattle.httparse.specs.Grammar.{HasNoRequest}
use Rattle.lg_heads.specs.Lines.{Lines, lines_of, IsWithinLimits, PassesLimits}
use Rattle.lg_heads.specs.declared.head_scan.HeadScan.{HeadScan}
use Rattle.lg_heads.specs.declared.head_scan.Seen.{Seen}
use Rattle.lg_heads.specs.declared.head_scan.Seen.TheVariants.{All, Empty, Full}

-- how many bytes the scan has looked at
abbrev pub place_of : HeadScan → ℕ
place_of scan = scan.at

-- the lines that the scan has counted
abbrev pub counted_lines : HeadScan → Lines
counted_lines scan = record { has_text = scan.has_text; ended = scan.lines }

-- the scan has counted the lines of the bytes before its place, which are within the limits
pub record HasCounted (scan : HeadScan) (bytes : List ℕ) : Type 0 where
  pub place : scan.at ≤ length bytes
  pub lines : lines_of (take scan.at bytes) ≡ counted_lines scan
  pub within : IsWithinLimits (take scan.at bytes)

-- the byte ends an empty line behind a line with text
pub record EndsHead (l : Lines) (b : ℕ) : Type 0 where
  pub feed : b ≡ 10
  pub empty : l.has_text ≡ false
  pub some : 0 < l.ended

-- there is no whole head before the scan's place
abbrev pub HasNoHead : HeadScan → List ℕ → Type 0
HasNoHead scan bytes = HasNoRequest (take scan.at bytes)

-- the byte at the scan's place passes a limit
pub record IsFull (scan : HeadScan) (bytes : List ℕ) : Type 0 where
  pub more : scan.at < length bytes
  pub past : PassesLimits (take (scan.at + 1) bytes)

-- why the scan stopped: it has seen all bytes, a byte that may end a head, or the place of a byte that passes a limit
abbrev pub HasStopped : HeadScan → List ℕ → Seen → Type 0
HasStopped scan bytes All = (place_of scan ≡ length bytes) × HasNoHead scan bytes
HasStopped scan bytes Empty = Unit {0}
HasStopped scan bytes Full = IsFull scan bytes × HasNoHead scan bytes
