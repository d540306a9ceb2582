-- Shards without shares are the parts of the first events.
use Rattle.std.proofs.Common.{◌≡◌, ℕ, List, [], refl, ◌∙◌}
use Rattle.lg_types.specs.Log.{first_events}
use Rattle.lg_types.specs.Parts.{part_from}
use Rattle.lg_shard.specs.State.{StripeState}
use Rattle.lg_plan.specs.Events.{AreShards, shard_of}
use Rattle.lg_store.specs.Opening.{AreFresh, fresh}

no_shares : (k : ℕ) → fresh k ≡ shard_of k first_events []
unfolding part_from
no_shares k = refl

pub fresh_are_shards : (shards : List StripeState) → AreFresh 16 shards → AreShards first_events [] shards
fresh_are_shards shards h = record { count = h.count; each = λ k shard is. h.each k shard is ∙ no_shares k }
