-- Shards that are lent: whether those of some stripes are there, and whether they are the parts of an event list.
--     wanted   the stripes that are asked for, as a test of their numbers
--     lent     what the shard of each stripe is seen as, where it is lent
use Rattle.std.specs.Prelude.{◌≡◌, ℕ, Bool, IsTrue, List, Option, IsSome, IsSomeAnd}
use Rattle.std.specs.List.{list_any}
use Rattle.lg_shard.specs.State.{StripeState}
use Rattle.lg_types.specs.declared.records.Event.{Event}
use Rattle.lg_types.specs.Parts.{Resource, is_in, part_of}

-- the stripes of resources of a ledger
abbrev pub stripes_with : List ℕ → List Resource → ℕ → Bool
stripes_with ledger resources k = list_any (is_in k ledger) resources

-- the wanted stripes are lent
pub record AreLent (wanted : ℕ → Bool) (lent : ℕ → Option StripeState) : Type 0 where
  pub each : (k : ℕ) → IsTrue (wanted k) → IsSome (lent k)

-- the wanted stripes are lent, and each holds its part of the events
pub record AreParts (wanted : ℕ → Bool) (lent : ℕ → Option StripeState) (events : List Event) : Type 0 where
  pub each : (k : ℕ) → IsTrue (wanted k) → IsSomeAnd (lent k) (λ state. state.shares ≡ part_of k events)
