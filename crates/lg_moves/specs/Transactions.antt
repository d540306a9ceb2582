-- The transaction of the moves that comes before an id.
use Rattle.std.specs.Prelude.{◌≡◌, ℕ, ◌<◌, ◌≤◌, List, length, slice_index_or, Option, IfSome, IsNone}
use Rattle.std.specs.List.{All}
use Rattle.lg_types.specs.declared.moves.Move.{Move}

-- the greatest of the transaction ids of the moves that are below the id
pub record IsGreatestBelow (id : ℕ) (moves : List Move) (transaction : ℕ) : Type 0 where
  pub below : transaction < id
  pub held : (k : ℕ) × (k < length moves) × ((d : Move) → (slice_index_or moves k d).transaction ≡ transaction)
  pub greatest : All (λ m. m.transaction < id → m.transaction ≤ transaction) moves

-- it, and none where no move has an id below
pub record IsTransactionBefore (id : ℕ) (moves : List Move) (found : Option ℕ) : Type 0 where
  pub some : IfSome found (λ transaction. IsGreatestBelow id moves transaction)
  pub none : IsNone found → All (λ m. id ≤ m.transaction) moves
