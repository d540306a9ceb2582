-- Laws of the entries of a ledger.
use Rattle.std.specs.Prelude.{◌≡◌, ℕ, ◌+◌, List, Some, slice_get}
use Rattle.lg_types.specs.declared.records.Entry.{Entry}
use Rattle.lg_types.specs.declared.records.Event.{Event}
use Rattle.lg_types.specs.Log.{log}
use Rattle.lg_book.specs.Following.{IsGrown}
use Rattle.lg_book.specs.Reading.{find_entry}

-- ids count from 1 without gaps, and each entry is found by its own id
abbrev pub EntriesById : Type 0
EntriesById = (events : List Event) (ledger : List ℕ) (k : ℕ) (e : Entry) → IsGrown events → slice_get (log events ledger) k ≡ Some e → (e.id ≡ k + 1) × (find_entry (log events ledger) e.id ≡ Some e)
