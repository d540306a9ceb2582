-- Shards without shares, in the order of their stripes.
use Rattle.std.specs.Prelude.{◌≡◌, ℕ, List, [], Some, length, slice_get}
use Rattle.lg_shard.specs.State.{StripeState}

abbrev pub fresh : ℕ → StripeState
fresh stripe = record { stripe = stripe; shares = []; prepared = [] }

-- the first n of them
pub record AreFresh (n : ℕ) (shards : List StripeState) : Type 0 where
  pub count : length shards ≡ n
  pub each : (k : ℕ) (shard : StripeState) → slice_get shards k ≡ Some shard → shard ≡ fresh k
