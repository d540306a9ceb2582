-- The trial of postings over lent totals and what a sheet accepted before.
use Rattle.std.specs.Prelude.{◌≡◌, ℕ, ◌<◌, ◌+◌, ◌^◌, Bool, IsTrue, if◌then◌else◌, List, All, slice_get, Option, Some, None, Result, Ok, Err, IsSomeAnd, ⊤}
use Rattle.std.specs.List.{flat_map}
use Rattle.lg_base.specs.declared.amounts.Volumes.{Volumes}
use Rattle.lg_base.specs.Volumes.{IsWithinLimit, sum_of}
use Rattle.lg_types.specs.declared.records.Posting.{Posting}
use Rattle.lg_types.specs.declared.refusals.Refusal.{Refusal}
use Rattle.lg_types.specs.declared.refusals.Refusal.TheVariants as refusal
use Rattle.lg_types.specs.Moves.{Placed, total}
use Rattle.lg_types.specs.Trial.{tried_moves, lacks, lack_of, is_over}
use Rattle.lg_sheet.specs.declared.stop.SheetStop.{SheetStop}
use Rattle.lg_sheet.specs.declared.stop.SheetStop.TheVariants.{Lack, Below, Limit, NoMemory}
use Rattle.lg_sheet.specs.declared.stop.LineStop.{LineStop}
use Rattle.lg_sheet.specs.declared.stop.LineStop.TheVariants as line
use Rattle.lg_sheet.specs.Working.{Working, worked}

-- a fact of both accounts of a posting, with its asset
pub record OfBoth (P : List ℕ → List ℕ → Type 0) (p : Posting) : Type 0 where
  pub source : P p.source p.asset
  pub destination : P p.destination p.asset

-- volumes with what a sheet worked out
abbrev pub present : (List ℕ → List ℕ → Volumes) → Working → List ℕ → List ℕ → Volumes
present totals sheet account asset = sum_of (totals account asset) (worked sheet account asset)

-- the accounts of the postings are lent, and with what the sheet worked out their volumes are within the limit
pub record MayTry (lends : List ℕ → Bool) (totals : List ℕ → List ℕ → Volumes) (sheet : Working) (postings : List Posting) : Type 0 where
  pub lent : All (OfBoth (λ account asset. IsTrue (lends account))) postings
  pub within : All (OfBoth (λ account asset. IsWithinLimit (present totals sheet account asset))) postings

-- the moves add up to these volumes for the accounts of the postings
pub record HaveTotals (totals : List ℕ → List ℕ → Volumes) (postings : List Posting) (ms : List Placed) : Type 0 where
  pub each : All (OfBoth (λ account asset. total ms account asset ≡ totals account asset)) postings

-- what the sheet worked out are the totals of these moves
pub record Accepted (sheet : Working) (ms : List Placed) : Type 0 where
  pub each : (account asset : List ℕ) → worked sheet account asset ≡ total ms account asset

-- the new volumes are the old with those of the postings
pub record Booked (old new : Working) (postings : List Posting) : Type 0 where
  pub each : (account asset : List ℕ) → worked new account asset ≡ sum_of (worked old account asset) (total (flat_map tried_moves postings) account asset)

-- what is within the limit stays within it
pub record StaysWithin (totals : List ℕ → List ℕ → Volumes) (old new : Working) : Type 0 where
  pub each : (account asset : List ℕ) → IsWithinLimit (present totals old account asset) → IsWithinLimit (present totals new account asset)

-- a stop tells the refusal of a list of postings; want of memory tells nothing
abbrev pub IsToldStop : List Posting → SheetStop → Option Refusal → Type 0
IsToldStop postings (Lack place balance) o = IsSomeAnd (slice_get postings place) (λ p. o ≡ Some (refusal.Lack place p.source p.asset balance p.amount))
IsToldStop postings (Below account asset balance) o = o ≡ Some (refusal.Below account asset balance)
IsToldStop postings (Limit place) o = o ≡ Some (refusal.Limit place)
IsToldStop postings NoMemory o = ⊤

abbrev pub IsTold : List Posting → Result (Unit {0}) SheetStop → Option Refusal → Type 0
IsTold postings (Ok done) o = o ≡ None
IsTold postings (Err stop) o = IsToldStop postings stop o

-- a posting that lacks funds stands below the number of postings
abbrev pub IsLackBelow : ℕ → SheetStop → Type 0
IsLackBelow count (Lack place balance) = place < count
IsLackBelow count (Below account asset balance) = ⊤
IsLackBelow count (Limit place) = ⊤
IsLackBelow count NoMemory = ⊤

-- it isn't for want of funds
abbrev pub IsNoLack : SheetStop → Type 0
IsNoLack (Lack place balance) = ⊥
IsNoLack (Below account asset balance) = ⊤
IsNoLack (Limit place) = ⊤
IsNoLack NoMemory = ⊤

abbrev pub IsLineLimit : LineStop → Type 0
IsLineLimit (line.Lack balance) = ⊥
IsLineLimit line.Limit = ⊤

-- what one posting comes to after these moves, as the one at the place of its list
abbrev pub tried : List Placed → Bool → ℕ → Posting → Option Refusal
tried ms force place p = if lacks ms force p then Some (lack_of ms place p) else (if is_over ms p then Some (refusal.Limit place) else None)

-- the refusal of a posting at the place
abbrev pub line_refusal : ℕ → Posting → Option LineStop → Option Refusal
line_refusal place p None = None
line_refusal place p (Some (line.Lack balance)) = Some (refusal.Lack place p.source p.asset balance p.amount)
line_refusal place p (Some line.Limit) = Some (refusal.Limit place)

abbrev pub stop_at : ℕ → LineStop → SheetStop
stop_at place (line.Lack balance) = Lack place balance
stop_at place line.Limit = Limit place

-- an output and an input have room for the amount
pub record HasRoom (source destination : Volumes) (amount : ℕ) : Type 0 where
  pub output : source.output + amount < 2 ^ 127
  pub input : destination.input + amount < 2 ^ 127
