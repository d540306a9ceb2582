-- Moves in the order of ranks, the pairs of effective date and transaction.
use Rattle.std.specs.Prelude.{◌≡◌, ◌-◌, ◌<◌, true, List, [], ◌∷◌, ◌++◌, length, slice_index_or}
use Rattle.std.specs.List.{sum_by}
use Rattle.lg_types.specs.declared.moves.Move.{Move}
use Rattle.lg_moves.specs.declared.sums.Sums.{Sums}
use Rattle.lg_moves.specs.declared.bounds.Key.{Key}
use Rattle.lg_moves.specs.declared.bounds.Bound.{Bound}
use Rattle.lg_moves.specs.Bounds.{is_by_rank, key_of, passes}
use Rattle.lg_moves.specs.Sums.{AreSums}

-- the first move's rank isn't after the second's: it passes each bound of ranks that the second passes
pub record IsUpToMove (x y : Move) : Type 0 where
  pub on : (b : Bound) → is_by_rank b ≡ true → passes b y ≡ true → passes b x ≡ true

-- each move has P
abbrev pub Each : (Move → Type 0) → List Move → Type 0
Each P [] = Unit {0}
Each P (x ∷ xs) = P x × Each P xs

-- no rank is after a later one
abbrev pub IsRising : List Move → Type 0
IsRising [] = Unit {0}
IsRising (x ∷ xs) = Each (IsUpToMove x) xs × IsRising xs

-- the new moves are the old ones with one more, at a place of its rank
pub record Inserts (m : Move) (old new : List Move) : Type 0 where
  pub front : List Move
  pub back : List Move
  pub was : old ≡ front ++ back
  pub is : new ≡ front ++ m ∷ back
  pub before : Each (λ x. IsUpToMove x m) front
  pub after : Each (IsUpToMove m) back

-- a block's moves with the keys of its first and its last move, and their sums
pub record IsBlock (moves : List Move) (low high : Key) (total : Sums) : Type 0 where
  pub first : (d : Move) → 0 < length moves → low ≡ key_of (slice_index_or moves 0 d)
  pub last : (d : Move) → 0 < length moves → high ≡ key_of (slice_index_or moves (length moves - 1) d)
  pub sums : AreSums total (λ part. sum_by part moves)
