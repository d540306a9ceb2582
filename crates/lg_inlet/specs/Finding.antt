-- What was found at the front of the unread bytes.
use Rattle.std.specs.Prelude.{◌≡◌, ℕ, ◌<◌, List, [], length, Option}
use Rattle.httparse.specs.Grammar.{RequestHead}
use Rattle.lg_base.specs.Told.{IsAtEnd}
use Rattle.lg_heads.specs.Heads.{IsHeadAt}
use Rattle.lg_heads.specs.Scanning.{HasNoHead}
use Rattle.lg_heads.specs.Verdicts.{IsBad, IsLong, IsOpen}
use Rattle.lg_heads.specs.declared.head_scan.HeadScan.{HeadScan}
use Rattle.lg_heads.specs.declared.verdict.Verdict.{Verdict}
use Rattle.lg_heads.specs.declared.verdict.Verdict.TheVariants as Verdicts
use Rattle.lg_inlet.specs.declared.found.Found.{Found}
use Rattle.lg_inlet.specs.declared.found.Found.TheVariants.{Whole, Bad, Long, Cut, Closed}

-- what the unread bytes and what the source has left say of each answer
abbrev pub IsFound : Option (List ℕ) → List ℕ → Found → Type 0
IsFound left bytes (Whole head) = (h : RequestHead) × IsHeadAt bytes head h
IsFound left bytes Bad = IsBad bytes
IsFound left bytes Long = IsLong bytes
IsFound left bytes Cut = IsOpen bytes × (0 < length bytes) × IsAtEnd left
IsFound left bytes Closed = (bytes ≡ []) × IsAtEnd left

-- what a look at the bytes before the scan's place says of them
abbrev pub IsLook : List ℕ → HeadScan → Verdict → Type 0
IsLook bytes scan (Verdicts.Whole head) = (h : RequestHead) × IsHeadAt bytes head h
IsLook bytes scan Verdicts.Bad = IsBad bytes
IsLook bytes scan Verdicts.Long = IsLong bytes
IsLook bytes scan Verdicts.Open = HasNoHead scan bytes
