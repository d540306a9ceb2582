-- Entries are found by their ids.
use Rattle.std.proofs.Common.{◌≡◌, ℕ, suc, ◌+◌, List, length, take, slice_get, Some, sym, ap, subst, ◌∙◌, add-one, arith}
use Rattle.lg_types.specs.declared.records.Entry.{Entry}
use Rattle.lg_types.specs.declared.records.Event.{Event}
use Rattle.lg_types.specs.Log.{log}
use Rattle.lg_book.specs.Following.{IsGrown}
use Rattle.lg_book.specs.Reading.{find_entry}
use Rattle.lg_book.specs.Index.{by_id}
use Rattle.lg_book.specs.EntryLaws.{EntriesById}
use Rattle.lg_book.proofs.Lists.{find-by_id}
use Rattle.lg_book.proofs.Sound.{IsSound, sound-take}
use Rattle.lg_book.proofs.BookSteps.{take_all}

-- the log of a list that grew event by event
pub sound_log : (events : List Event) (ledger : List ℕ) → IsGrown events → IsSound (log events ledger)
sound_log events ledger h = subst (λ es. IsSound (log es ledger)) (take_all events) (sound-take events h ledger (length events) (omega arith))

pub entries_by_id : EntriesById
entries_by_id events ledger k e h at =
    let sound : IsSound (log events ledger) = sound_log events ledger h in
    let id : e.id ≡ suc k = sound.ids k e at in (
      id ∙ sym (add-one k),
      ap (find_entry (log events ledger)) id ∙ find-by_id (λ (x : Entry). x.id) (log events ledger) sound.ids (suc k) ∙ at,
    )
