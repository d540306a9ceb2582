-- What callers see: passes, and what lies under the locks that a caller holds.
use Rattle.std.specs.Prelude.{◌≡◌, ℕ, ◌+◌, ◌^◌, ◌<◌, Bool, true, List, Option}
use Rattle.atomic_table.specs.Seated.{TableId}
use Rattle.lg_types.specs.declared.marks.Marked.{Marked}
use Rattle.lg_turns.specs.Rows.{AllHeld}

-- a pass: the list that was seen, how many of its events its calls appended, and its weight
pub record Told : Type 0 where
  pub table : TableId
  pub seen : List Marked
  pub made : ℕ
  pub weight : ℕ

-- What lies under the locks of a caller that holds the journal: the part of each stripe that is held, whether a change
-- is prepared on it, the journal, the list of all events, and whether a change is prepared.
pub record MetOf (P J : Type 0) : Type 0 where
  pub parts : List (Option P)
  pub dirty : List (Option Bool)
  pub journal : J
  pub seen : List Marked
  pub prepared : Bool

-- a change is prepared: on each held part of a stripe that it touches, on no other, and on the journal, which has room
pub record IsPrepared {P J : Type 0} (touched : ℕ → Bool) (on_part : P → Type 0) (on_journal : J → Type 0) (size count : ℕ) (met : MetOf P J) : Type 0 where
  pub parts : AllHeld met.parts (λ k p. touched k ≡ true → on_part p)
  pub flags : AllHeld met.dirty (λ k b. b ≡ touched k)
  pub the_journal : on_journal met.journal
  pub room : size + count < 2 ^ 64
