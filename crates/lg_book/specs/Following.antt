-- Which events may follow a list of events.
use Rattle.std.specs.Prelude.{◌≡◌, ℕ, Bool, true, false, List, take, Some, slice_get}
use Rattle.lg_types.specs.declared.records.Entry.{Entry}
use Rattle.lg_types.specs.declared.records.Event.{Event}
use Rattle.lg_types.specs.declared.records.Event.TheVariants.{Made, Logged}
use Rattle.lg_types.specs.Known.{next_entry}
use Rattle.lg_types.specs.Lists.{last_of}
use Rattle.lg_types.specs.Log.{log, is_there}
use Rattle.lg_types.specs.Moves.{body_transaction}
use Rattle.lg_views.specs.Import.{is_before, is_misnumbered, reverts_wrong, targets_wrong}

-- an entry may follow a log: its id is the next, its date isn't before the last, its transaction's id is the next, what
-- it reverts is there and isn't reverted yet, and so is a transaction that its metadata are about
pub record MayFollowLog (g : List Entry) (e : Entry) : Type 0 where
  pub id : e.id ≡ next_entry g
  pub date : is_before (last_of g) e.date ≡ false
  pub transaction : is_misnumbered g (body_transaction e.body) ≡ false
  pub revert : reverts_wrong g e.body ≡ false
  pub target : targets_wrong g e.body ≡ false

-- an event may follow a list: a ledger that is made isn't there, and a ledger that takes an entry is there
abbrev pub MayFollow : List Event → Event → Type 0
MayFollow events (Made info) = is_there events info.name ≡ false
MayFollow events (Logged ledger e) = (is_there events ledger ≡ true) × MayFollowLog (log events ledger) e

-- each event of the list may follow those before it
pub record IsGrown (events : List Event) : Type 0 where
  pub each : (k : ℕ) (event : Event) → slice_get events k ≡ Some event → MayFollow (take k events) event
