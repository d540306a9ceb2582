-- Event lists, and the log that each ledger has in one.
use Rattle.std.specs.Prelude.{ℕ, pos, Bool, false, if◌then◌else◌, List, [], ◌∷◌, codes}
use Rattle.std.specs.List.{flat_map, list_any}
use Rattle.std.specs.Str.{bytes_eq}
use Rattle.lg_containers.specs.NameTable as table
use Rattle.lg_types.specs.declared.records.Entry.{Entry}
use Rattle.lg_types.specs.declared.records.LedgerInfo.{LedgerInfo}
use Rattle.lg_types.specs.declared.records.Event.{Event}
use Rattle.lg_types.specs.declared.records.Event.TheVariants.{Made, Logged}

abbrev pub logged : List ℕ → Event → List Entry
logged ledger (Made info) = []
logged ledger (Logged name e) = if bytes_eq name ledger then e ∷ [] else []

-- the log of a ledger: its entries, in the order of the events
abbrev pub log : List Event → List ℕ → List Entry
log events ledger = flat_map (logged ledger) events

abbrev pub is_made_as : List ℕ → Event → Bool
is_made_as ledger (Made info) = bytes_eq info.name ledger
is_made_as ledger (Logged name e) = false

-- whether a ledger is there: some event made it
abbrev pub is_there : List Event → List ℕ → Bool
is_there events ledger = list_any (is_made_as ledger) events

abbrev pub made : Event → List LedgerInfo
made (Made info) = info ∷ []
made (Logged name e) = []

-- the ledgers, in the order in which they were made
abbrev pub ledgers : List Event → List LedgerInfo
ledgers events = flat_map made events

-- the ledger that is there from the start
abbrev pub first_ledger : LedgerInfo
first_ledger = record { name = codes "default"; bucket = codes "_default"; metadata = table.empty; added = pos 0 }

-- the event list that every program starts with
abbrev pub first_events : List Event
first_events = Made first_ledger ∷ []
