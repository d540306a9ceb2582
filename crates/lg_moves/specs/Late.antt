-- What holds of the late moves: the first ones in a run, the others in a tree of blocks, and spare nodes for more.
use Rattle.std.specs.Prelude.{◌≡◌, ℕ, ◌+◌, ◌-◌, ◌*◌, ◌<◌, ◌≤◌, max, ◌++◌, length}
use Rattle.std.specs.List.{sum_by}
use Rattle.lg_runs.specs.Runs.{Kept}
use Rattle.lg_types.specs.declared.moves.Move.{Move}
use Rattle.lg_moves.specs.Sums.{IsBounded}
use Rattle.lg_moves.specs.Seen.{Grown}
use Rattle.lg_moves.specs.Tree.{IsThick}

-- how many moves can go into a tree with so many spare nodes: one at least for each node, since one move takes one node
-- at most, and as many as leave each block 16 moves
abbrev pub tree_room : Grown → ℕ → ℕ
tree_room tree pool = max pool (16 * (tree.blocks + pool) - length tree.items)

-- how many more late moves need no memory
abbrev pub late_room : Kept Move → Grown → ℕ → ℕ
late_room first tree pool = first.spare + tree_room tree pool

pub record IsLate (first : Kept Move) (tree : Grown) (pool count : ℕ) : Type 0 where
  pub bounded : IsBounded (λ part. sum_by part (first.items ++ tree.items))
  pub short : length first.items + first.spare ≤ 16
  -- nodes are spared and used only where the first moves have all their room
  pub full : 0 < tree.blocks + pool → length first.items + first.spare ≡ 16
  pub used : 0 < tree.blocks → length first.items ≡ 16
  -- no block but a lone one has fewer than 16 moves
  pub filled : 16 * tree.blocks + tree.extra ≤ length tree.items + 15
  pub empty : tree.blocks ≡ 0 → length tree.items ≡ 0
  pub thick : IsThick tree
  pub counted : count ≡ tree.blocks
