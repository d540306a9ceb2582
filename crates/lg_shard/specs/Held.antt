-- What a shard keeps: its events, those that were applied first, and the ledgers that stand for them.
use Rattle.std.specs.Prelude.{◌≡◌, ℕ, ◌≤◌, List, map, take, drop, length, IsSome}
use Rattle.lg_containers.specs.NameTable.{NameTable, get}
use Rattle.lg_types.specs.declared.records.Event.{Event}
use Rattle.lg_types.specs.declared.records.Event.TheVariants.{Made, Logged}
use Rattle.lg_types.specs.Lists.{Each}
use Rattle.lg_types.specs.Parts.{Share}
use Rattle.lg_shard.specs.declared.kept.KeptEvent.{KeptEvent}
use Rattle.lg_shard.specs.declared.ledgers.LedgerPart.{LedgerPart}
use Rattle.lg_shard.specs.declared.names.Names.{Names}
use Rattle.lg_shard.specs.Following.{AllFollow}
use Rattle.lg_shard.specs.Names.{names_in}
use Rattle.lg_shard.specs.Shown.{AreWithinLimit}
use Rattle.lg_shard.specs.State.{PlacedEvent, StripeState, placed, all_shares}
use Rattle.lg_shard.specs.Ties.{LedgersTied}

abbrev pub shown : KeptEvent → PlacedEvent
shown k = placed k.place k.event

abbrev pub all_shown : List KeptEvent → List PlacedEvent
all_shown events = map shown events

-- the shares of the events that were applied, and of those that are prepared
abbrev pub shares_done : ℕ → ℕ → List PlacedEvent → List Share
shares_done s applied events = all_shares s (take applied events)

abbrev pub shares_ahead : ℕ → ℕ → List PlacedEvent → List Share
shares_ahead s applied events = all_shares s (drop applied events)

-- the names of a prepared event are at hand, and its ledger is there
abbrev pub IsReadyEvent : ℕ → NameTable LedgerPart → Names → Event → Type 0
IsReadyEvent s ledgers names (Made info) = Unit {0}
IsReadyEvent s ledgers names (Logged ledger e) = (names ≡ names_in s ledger e) × IsSome (get ledgers ledger)

abbrev pub IsReady : ℕ → NameTable LedgerPart → KeptEvent → Type 0
IsReady s ledgers k = IsReadyEvent s ledgers k.names k.event

pub record IsHeld (s : ℕ) (events : List KeptEvent) (applied : ℕ) (ledgers : NameTable LedgerPart) : Type 0 where
  pub within : applied ≤ length events
  pub tied : LedgersTied ledgers (shares_done s applied (all_shown events)) (shares_ahead s applied (all_shown events))
  pub follows : AllFollow s (shares_done s applied (all_shown events)) (drop applied (all_shown events))
  pub ready : Each (IsReady s ledgers) (drop applied events)
  pub limits : AreWithinLimit (shares_done s applied (all_shown events))

abbrev pub state_of : ℕ → List KeptEvent → ℕ → StripeState
state_of s events applied = record { stripe = s; shares = shares_done s applied (all_shown events); prepared = drop applied (all_shown events) }
