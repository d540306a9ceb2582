-- The totals of accounts over lent shards and earlier entries of the same list of writes.
use Rattle.std.specs.Prelude.{ℕ, List, Option}
use Rattle.lg_base.specs.declared.amounts.Volumes.{Volumes}
use Rattle.lg_base.specs.Volumes.{IsWithinLimit, sum_of}
use Rattle.lg_shard.specs.State.{StripeState}
use Rattle.lg_types.specs.declared.records.Entry.{Entry}
use Rattle.lg_types.specs.Moves.{moves, total}
use Rattle.lg_weigh.specs.Totals.{lent_total}

-- the volumes of all moves that the shards know, and then those of the entries
abbrev pub total_after : (ℕ → Option StripeState) → List ℕ → List Entry → List ℕ → List ℕ → Volumes
total_after lent ledger earlier account asset = sum_of (lent_total lent ledger account asset) (total (moves earlier) account asset)

-- for each account and each asset they are within the limit
pub record AreTotalsWithin (lent : ℕ → Option StripeState) (ledger : List ℕ) (earlier : List Entry) : Type 0 where
  pub each : (account asset : List ℕ) → IsWithinLimit (total_after lent ledger earlier account asset)
