-- When a move may come after others, and when it comes last in the order of ranks too.
use Rattle.std.specs.Prelude.{◌≡◌, ◌-◌, ◌<◌, ◌≤◌, false, ◌≤ℤ◌, List, length, slice_index_or}
use Rattle.std.specs.List.{All}
use Rattle.lg_types.specs.declared.moves.Move.{Move}
use Rattle.lg_types.specs.Tally.{is_ranked_before}

-- the move may come after the others: its transaction id and its insertion date are at least those of the last
pub record ComesNext (moves : List Move) (m : Move) : Type 0 where
  pub transaction : (d : Move) → 0 < length moves → (slice_index_or moves (length moves - 1) d).transaction ≤ m.transaction
  pub inserted : (d : Move) → 0 < length moves → (slice_index_or moves (length moves - 1) d).inserted ≤ℤ m.inserted

-- the move comes last in the order of ranks too: it is before none of the moves
abbrev pub IsLastInRank : List Move → Move → Type 0
IsLastInRank moves m = All (λ x. is_ranked_before x.effective x.transaction m ≡ false) moves
