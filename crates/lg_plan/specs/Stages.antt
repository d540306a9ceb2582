-- Shards of which the first ones have gone over to another state.
use Rattle.std.specs.Prelude.{◌≡◌, ℕ, ◌<◌, if◌then◌else◌, nat_lt, List, [], length, slice_get, Some}
use Rattle.lg_types.specs.declared.records.Event.{Event}
use Rattle.lg_types.specs.Parts.{part_of}
use Rattle.lg_shard.specs.State.{StripeState}
use Rattle.lg_plan.specs.Events.{shard_of}

-- the sixteen shards in the order of their stripes, each the part of a list, whatever is prepared on them
pub record IsPart (events : List Event) (k : ℕ) (shard : StripeState) : Type 0 where
  pub stripe : shard.stripe ≡ k
  pub shares : shard.shares ≡ part_of k events

pub record AreParts (events : List Event) (shards : List StripeState) : Type 0 where
  pub count : length shards ≡ 16
  pub each : (k : ℕ) (shard : StripeState) → slice_get shards k ≡ Some shard → IsPart events k shard

abbrev pub shards_at : List Event → List Event → ℕ → StripeState
shards_at events further k = shard_of k events further

-- the stripes before the n-th have the second state, and the others the first
abbrev pub turned : ℕ → (ℕ → StripeState) → (ℕ → StripeState) → ℕ → StripeState
turned n before after k = if nat_lt k n then after k else before k

pub record AreTurned (n : ℕ) (before after : ℕ → StripeState) (shards : List StripeState) : Type 0 where
  pub count : length shards ≡ 16
  pub each : (k : ℕ) (shard : StripeState) → slice_get shards k ≡ Some shard → shard ≡ turned n before after k

-- a shard that is the part of a list, with nothing prepared where its stripe is before the n-th
pub record IsForgotten (n : ℕ) (events : List Event) (k : ℕ) (shard : StripeState) : Type 0 where
  pub part : IsPart events k shard
  pub clean : k < n → shard.prepared ≡ []

pub record AreForgotten (n : ℕ) (events : List Event) (shards : List StripeState) : Type 0 where
  pub count : length shards ≡ 16
  pub each : (k : ℕ) (shard : StripeState) → slice_get shards k ≡ Some shard → IsForgotten n events k shard
