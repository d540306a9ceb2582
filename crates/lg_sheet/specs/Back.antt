-- Postings that are booked and may be taken back.
use Rattle.std.specs.Prelude.{◌≡◌, ℕ, List}
use Rattle.std.specs.List.{flat_map}
use Rattle.lg_base.specs.declared.amounts.Volumes.{Volumes}
use Rattle.lg_base.specs.Volumes.{sum_of}
use Rattle.lg_types.specs.declared.records.Posting.{Posting}
use Rattle.lg_types.specs.Moves.{total}
use Rattle.lg_types.specs.Trial.{tried_moves}
use Rattle.lg_sheet.specs.Working.{Working, worked}

-- the volumes are some volumes with those of the postings
pub record HasBooked (sheet : Working) (postings : List Posting) : Type 0 where
  pub base : List ℕ → List ℕ → Volumes
  pub each : (account asset : List ℕ) → worked sheet account asset ≡ sum_of (base account asset) (total (flat_map tried_moves postings) account asset)
