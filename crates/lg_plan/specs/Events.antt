-- Events that are added to a list: when they may be, and what of them a stripe holds.
use Rattle.std.specs.Prelude.{◌≡◌, ℕ, ◌+◌, Bool, if◌then◌else◌, List, [], ◌∷◌, ◌++◌, length, slice_get, Some}
use Rattle.std.specs.List.{list_any}
use Rattle.lg_types.specs.declared.records.Event.{Event}
use Rattle.lg_types.specs.Parts.{touches, shares_of, part_of}
use Rattle.lg_book.specs.declared.volumes.FirstVolumes.{FirstVolumes}
use Rattle.lg_book.specs.FirstVolumes.{volumes_after}
use Rattle.lg_book.specs.Following.{MayFollow}
use Rattle.lg_shard.specs.Following.{Follows}
use Rattle.lg_shard.specs.State.{PlacedEvent, StripeState, placed}

-- whether some event of the list has a resource in the stripe
abbrev pub any_touches : List Event → ℕ → Bool
any_touches events k = list_any (touches k) events

-- an event may be prepared at the end of a list: on each shard, and with these volumes on the book
pub record MayPrepare (before : List Event) (event : Event) (volumes : FirstVolumes) : Type 0 where
  pub shards : (k : ℕ) → Follows (part_of k before) (shares_of k (length before) event)
  pub book : MayFollow before event
  pub first : volumes ≡ volumes_after before event

-- events may be prepared with these volumes, one event after the other
abbrev pub AllPrepare : List Event → List Event → List FirstVolumes → Type 0
AllPrepare before [] volumes = volumes ≡ []
AllPrepare before (event ∷ events) [] = ⊥
AllPrepare before (event ∷ events) (v ∷ volumes) = MayPrepare before event v × AllPrepare (before ++ event ∷ []) events volumes

-- those of the events that have a resource in the stripe, each with its place, where the first event has the place n
abbrev pub own_events : ℕ → ℕ → List Event → List PlacedEvent
own_events k n [] = []
own_events k n (event ∷ events) = if touches k event then placed n event ∷ own_events k (n + 1) events else own_events k (n + 1) events

-- the shard of a stripe that is the part of a list, with what it holds of further events prepared
abbrev pub shard_of : ℕ → List Event → List Event → StripeState
shard_of k events further = record { stripe = k; shares = part_of k events; prepared = own_events k (length events) further }

-- the sixteen shards in the order of their stripes, each the part of a list, with what they hold of further events prepared
pub record AreShards (events further : List Event) (shards : List StripeState) : Type 0 where
  pub count : length shards ≡ 16
  pub each : (k : ℕ) (shard : StripeState) → slice_get shards k ≡ Some shard → shard ≡ shard_of k events further
