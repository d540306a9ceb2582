-- What a tree of blocks is seen as.
use Rattle.std.specs.Prelude.{ℕ, List, []}
use Rattle.lg_runs.specs.Runs.{Kept}
use Rattle.lg_types.specs.declared.moves.Move.{Move}

-- its moves in order, its height, its number of blocks, and how many moves its blocks have beyond 16 each
pub record Grown : Type 0 where
  pub items : List Move
  pub height : ℕ
  pub blocks : ℕ
  pub extra : ℕ

-- an empty block with room for 32 moves
abbrev pub fresh : Kept Move
fresh = record { items = []; spare = 32 }
