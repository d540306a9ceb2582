-- The tree of blocks: a balanced tree that is seen as its moves in order.
use Rattle.std.specs.Prelude.{◌≡◌, ℕ, ◌+◌, ◌-◌, ◌*◌, ◌/◌, ◌^◌, ◌<◌, ◌≤◌, max, List, [], ◌++◌, length}
use Rattle.std.specs.List.{sum_by}
use Rattle.lg_runs.specs.Runs.{Kept}
use Rattle.lg_types.specs.declared.moves.Move.{Move}
use Rattle.lg_moves.specs.declared.sums.Sums.{Sums}
use Rattle.lg_types.specs.Tally.{amount_in, amount_out}
use Rattle.lg_moves.specs.Sums.{IsBounded}
use Rattle.lg_moves.specs.Ranks.{IsRising, Inserts}
use Rattle.lg_moves.specs.Seen.{Grown}
use Rattle.lg_moves.specs.declared.tree.Trunk.{Trunk}
use Rattle.lg_moves.specs.declared.tree.Node.{Node}
use Rattle.lg_moves.specs.declared.tree.Node.TheVariants.{Empty, Fork}

-- the moves of a left side, a block and a right side, in order
abbrev pub whole : Grown → Kept Move → Grown → List Move
whole l b r = l.items ++ (b.items ++ r.items)

-- the sums of moves
abbrev pub sums_of : List Move → Sums
sums_of ms = record { input = sum_by amount_in ms; output = sum_by amount_out ms; count = sum_by (λ _. 1) ms }

-- what a node stores of its sides and its block
abbrev pub trunk_of : Grown → Kept Move → Grown → Trunk
trunk_of l b r = record { total = sums_of (whole l b r); height = max l.height r.height + 1 }

abbrev pub seen : Node → Grown
seen Empty = record { items = []; height = 0; blocks = 0; extra = 0 }
seen (Fork l b t r) = record {
  items = whole l.value b r.value;
  height = t.height;
  blocks = l.value.blocks + 1 + r.value.blocks;
  extra = l.value.extra + (length b.items - 16) + r.value.extra;
}

-- a height of which the blocks have half as many binary digits at least
pub record IsThick (g : Grown) : Type 0 where
  pub digits : 2 ^ (g.height / 2) ≤ g.blocks + 1

-- a left side, a block and a right side that stand in order
pub record AreInOrder (l : Grown) (b : Kept Move) (r : Grown) : Type 0 where
  pub rising : IsRising (whole l b r)
  pub bounded : IsBounded (λ part. sum_by part (whole l b r))
  pub some : 0 < length b.items
  pub room : length b.items + b.spare ≡ 32
  pub left : IsThick l
  pub right : IsThick r

-- neither height is more than this above the other
abbrev pub DifferByAtMost : ℕ → ℕ → ℕ → Type 0
DifferByAtMost by l r = (l ≤ r + by) × (r ≤ l + by)

pub record IsFork (l : Grown) (b : Kept Move) (t : Trunk) (r : Grown) : Type 0 where
  pub parts : AreInOrder l b r
  pub trunk : t ≡ trunk_of l b r
  pub balanced : DifferByAtMost 1 l.height r.height

-- the sides of a node differ by one at most in height, and what it stores is right
abbrev pub IsBalanced : Node → Type 0
IsBalanced Empty = Unit {0}
IsBalanced (Fork l b t r) = IsFork l.value b t r.value

-- a node between a change and its rebalancing
abbrev pub IsNearlyBalanced : Node → Type 0
IsNearlyBalanced Empty = Unit {0}
IsNearlyBalanced (Fork l b t r) = AreInOrder l.value b r.value × (max l.value.height r.value.height ≤ 2 ^ 62) × DifferByAtMost 2 l.value.height r.value.height

-- a tree that holds what a left side, a block and a right side hold
pub record Joins (l : Grown) (b : Kept Move) (r : Grown) (g : Grown) : Type 0 where
  pub items : g.items ≡ whole l b r
  pub blocks : g.blocks ≡ l.blocks + 1 + r.blocks
  pub extra : g.extra ≡ l.extra + (length b.items - 16) + r.extra

-- the height h that a node with sides of heights l and r settles to
pub record SettlesAt (l r h : ℕ) : Type 0 where
  pub low : max l r ≤ h
  pub high : h ≤ max l r + 1
  pub still : DifferByAtMost 1 l r → h ≡ max l r + 1

-- the new node is balanced, holds the same, and has a height that its old sides allow
abbrev pub RebalancesTo : Node → Node → Type 0
RebalancesTo Empty n = n ≡ Empty
RebalancesTo (Fork l b t r) n = IsBalanced n × Joins l.value b r.value (seen n) × SettlesAt l.value.height r.value.height (seen n).height

-- a block and the side after it, once a move was put into them, and the number of spare nodes
pub record Puts (m : Move) (b : Kept Move) (r : Grown) (c : Kept Move) (s : Grown) (before after : ℕ) : Type 0 where
  pub inserted : Inserts m (b.items ++ r.items) (c.items ++ s.items)
  pub some : 0 < length c.items
  pub room : length c.items + c.spare ≡ 32
  pub kept : s.blocks + after ≡ r.blocks + before
  pub more : r.blocks ≤ s.blocks
  pub one : s.blocks ≤ r.blocks + 1
  pub extra : 16 * s.blocks + s.extra + (length c.items - 16) ≤ 16 * r.blocks + r.extra + (length b.items - 16) + 1
  pub thick : IsThick s
  pub low : r.height ≤ s.height
  pub high : s.height ≤ r.height + 1

-- a tree once a move was put into it, and the number of spare nodes
pub record Grows (m : Move) (g h : Grown) (before after : ℕ) : Type 0 where
  pub inserted : Inserts m g.items h.items
  pub kept : h.blocks + after ≡ g.blocks + before
  pub more : g.blocks ≤ h.blocks
  pub one : h.blocks ≤ g.blocks + 1
  pub extra : 16 * h.blocks + h.extra ≤ 16 * g.blocks + g.extra + 1
  pub thick : IsThick h
  pub low : g.height ≤ h.height
  pub high : h.height ≤ g.height + 1
