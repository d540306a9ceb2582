-- The volumes of accounts as the shards that are lent know them.
use Rattle.std.specs.Prelude.{ℕ, ◌<◌, Bool, is_some, List, Option, Some, None, IfSome}
use Rattle.lg_base.specs.declared.amounts.Volumes.{Volumes}
use Rattle.lg_shard.specs.Shown.{AreWithinLimit, account_moves}
use Rattle.lg_shard.specs.State.{StripeState}
use Rattle.lg_types.specs.declared.classes.Class.TheVariants.{Account as AccountClass}
use Rattle.lg_types.specs.Stripes.{stripe}
use Rattle.lg_types.specs.Tally.{total_of}

-- the volumes of all moves of an account and an asset of the ledger, none where the shard isn't lent
abbrev pub known_total : Option StripeState → List ℕ → List ℕ → List ℕ → Volumes
known_total None ledger account asset = record { input = 0; output = 0 }
known_total (Some state) ledger account asset = total_of (account_moves state.shares ledger account asset)

-- the same of the shard of the account's stripe
abbrev pub lent_total : (ℕ → Option StripeState) → List ℕ → List ℕ → List ℕ → Volumes
lent_total lent ledger account asset = known_total (lent (stripe AccountClass ledger account)) ledger account asset

-- whether the shard of the account's stripe is lent
abbrev pub lends_account : (ℕ → Option StripeState) → List ℕ → List ℕ → Bool
lends_account lent ledger account = is_some (lent (stripe AccountClass ledger account))

-- what the shards that are lent hold adds up within the limit
pub record AreShardsWithin (lent : ℕ → Option StripeState) : Type 0 where
  pub each : (k : ℕ) → k < 16 → IfSome (lent k) (λ state. AreWithinLimit state.shares)
