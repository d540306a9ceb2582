-- What a shard is seen as.
--     stripe     the number of its stripe
--     shares     what the events that it applied say of the resources of the stripe
--     prepared   the events that are prepared and not yet applied, each with its place in the list of all events
use Rattle.std.specs.Prelude.{ℕ, List, ◌++◌}
use Rattle.std.specs.List.{flat_map}
use Rattle.lg_types.specs.declared.records.Event.{Event}
use Rattle.lg_types.specs.Parts.{Share, shares_of}

pub record PlacedEvent : Type 0 where
  pub place : ℕ
  pub event : Event

pub record StripeState : Type 0 where
  pub stripe : ℕ
  pub shares : List Share
  pub prepared : List PlacedEvent

abbrev pub placed : ℕ → Event → PlacedEvent
placed place event = record { place = place; event = event }

-- the share of the stripe in a placed event, where it has one
abbrev pub placed_shares : ℕ → PlacedEvent → List Share
placed_shares s p = shares_of s p.place p.event

-- the shares of all placed events
abbrev pub all_shares : ℕ → List PlacedEvent → List Share
all_shares s ps = flat_map (placed_shares s) ps

-- the shares as they are once all that is prepared is applied
abbrev pub coming_shares : StripeState → List Share
coming_shares state = state.shares ++ all_shares state.stripe state.prepared
