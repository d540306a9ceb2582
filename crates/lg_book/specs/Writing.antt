-- What an event does to the ledgers, when it is prepared, added or given up.
use Rattle.std.specs.Prelude.{◌≡◌, ℕ, List, [], ◌∷◌, IfSome, None}
use Rattle.lg_containers.specs.NameTable.{NameTable, get, insert, remove}
use Rattle.lg_types.specs.declared.records.Event.{Event}
use Rattle.lg_types.specs.declared.records.Event.TheVariants.{Made, Logged}
use Rattle.lg_book.specs.declared.volumes.FirstVolumes.{FirstVolumes}
use Rattle.lg_book.specs.Index.{LedgerView, new_index, index_made, index_prepared, index_added, index_forgotten, put_changed, CanPrepare, CanAdd}

abbrev pub Ledgers : Type 0
Ledgers = NameTable LedgerView

abbrev pub CanPrepareEvent : Ledgers → Event → Type 0
CanPrepareEvent ledgers (Made info) = get ledgers info.name ≡ None
CanPrepareEvent ledgers (Logged ledger e) = IfSome (get ledgers ledger) (λ x. CanPrepare x.transactions e.body)

abbrev pub event_prepared : ℕ → Event → FirstVolumes → Ledgers → Ledgers
event_prepared place (Made info) volumes ledgers = insert ledgers info.name (new_index place)
event_prepared place (Logged ledger e) volumes ledgers = put_changed ledger (index_prepared place e volumes) ledgers

abbrev pub CanAddEvent : Ledgers → Event → Type 0
CanAddEvent ledgers (Made info) = Unit {0}
CanAddEvent ledgers (Logged ledger e) = IfSome (get ledgers ledger) (λ x. CanAdd e x)

abbrev pub event_added : Event → Ledgers → Ledgers
event_added (Made info) ledgers = put_changed info.name index_made ledgers
event_added (Logged ledger e) ledgers = put_changed ledger (index_added e) ledgers

abbrev pub event_forgotten : Event → Ledgers → Ledgers
event_forgotten (Made info) ledgers = remove ledgers info.name
event_forgotten (Logged ledger e) ledgers = put_changed ledger (index_forgotten e.body) ledgers

abbrev pub events_forgotten : List Event → Ledgers → Ledgers
events_forgotten [] ledgers = ledgers
events_forgotten (event ∷ events) ledgers = events_forgotten events (event_forgotten event ledgers)
