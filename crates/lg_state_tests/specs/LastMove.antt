-- What the last of some moves is at most.
use Rattle.std.specs.Prelude.{ℕ, ℤ, ◌-◌, ◌<◌, ◌≤◌, ◌≤ℤ◌, List, length, slice_index_or}
use Rattle.lg_types.specs.declared.moves.Move.{Move}

pub record EndsBy (moves : List Move) (transaction : ℕ) (inserted : ℤ) : Type 0 where
  pub transaction_is : (d : Move) → 0 < length moves → (slice_index_or moves (length moves - 1) d).transaction ≤ transaction
  pub inserted_is : (d : Move) → 0 < length moves → (slice_index_or moves (length moves - 1) d).inserted ≤ℤ inserted
