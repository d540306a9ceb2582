-- What becomes of a node when a move is put into one of its sides or into its block.
use Rattle.std.proofs.Common.{◌≡◌, ℕ, ◌+◌, ◌-◌, ◌*◌, ◌^◌, ◌<◌, ◌≤◌, ◌⊎◌, min, max, [], ◌++◌, length, get_or, arith, sym, subst, inl, inr, length-append}
use Rattle.std.specs.List.{sum_by}
use Rattle.std.proofs.lemmas.Bool.{cases_lt}
use Rattle.std.proofs.lemmas.List.{get_or_append_left}
use Rattle.lg_runs.specs.Runs.{Kept}
use Rattle.lg_types.specs.declared.moves.Move.{Move}
use Rattle.lg_moves.specs.declared.tree.Node.{Node}
use Rattle.lg_moves.specs.Sums.{IsBounded}
use Rattle.lg_moves.specs.Ranks.{Each, IsUpToMove, Inserts}
use Rattle.lg_moves.specs.Seen.{Grown}
use Rattle.lg_moves.specs.Tree.{whole, seen, IsThick, AreInOrder, IsBalanced, DifferByAtMost, Joins, SettlesAt, Puts, Grows}
use Rattle.lg_moves.proofs.RankLemmas.{rising_left, rising_right, rising_inserts, inserts_left, inserts_right, each_at, each_first, each_until_first, each_last, each_after_last}
use Rattle.lg_moves.proofs.TreeLemmas.{inserts_bounded, thick_node}

-- a node's sides and block before and after, and the number of spare nodes
pub record Changes (m : Move) (l : Grown) (b : Kept Move) (r : Grown) (l' : Grown) (b' : Kept Move) (r' : Grown) (before after : ℕ) : Type 0 where
  pub inserted : Inserts m (whole l b r) (whole l' b' r')
  pub some : 0 < length b'.items
  pub room : length b'.items + b'.spare ≡ 32
  pub left : IsThick l'
  pub right : IsThick r'
  pub kept : l'.blocks + r'.blocks + after ≡ l.blocks + r.blocks + before
  pub more : l.blocks + r.blocks ≤ l'.blocks + r'.blocks
  pub one : l'.blocks + r'.blocks ≤ l.blocks + r.blocks + 1
  pub extra : 16 * (l'.blocks + r'.blocks) + (l'.extra + (length b'.items - 16) + r'.extra) ≤ 16 * (l.blocks + r.blocks) + (l.extra + (length b.items - 16) + r.extra) + 1
  pub low_left : l.height ≤ l'.height
  pub low_right : r.height ≤ r'.height
  pub high : l'.height + r'.height ≤ l.height + r.height + 1

pub change_left : (m : Move) (l g r : Grown) (b : Kept Move) (before after : ℕ) → AreInOrder l b r → Grows m l g before after → Each (IsUpToMove m) (b.items ++ r.items) → Changes m l b r g b r before after
change_left m l g r b before after w c a = record {
  inserted = inserts_left m l.items g.items (b.items ++ r.items) c.inserted a;
  some = w.some;
  room = w.room;
  left = c.thick;
  right = w.right;
  kept = omega (arith, c.kept);
  more = omega (arith, c.more);
  one = omega (arith, c.one);
  extra = omega (arith, c.extra);
  low_left = c.low;
  low_right = omega arith;
  high = omega (arith, c.high);
}

pub change_right : (m : Move) (l r g : Grown) (b : Kept Move) (before after : ℕ) → AreInOrder l b r → Grows m r g before after → Each (λ x. IsUpToMove x m) l.items → Each (λ x. IsUpToMove x m) b.items → Changes m l b r l b g before after
change_right m l r g b before after w c p q = record {
  inserted = inserts_right m l.items (b.items ++ r.items) (b.items ++ g.items) (inserts_right m b.items r.items g.items c.inserted q) p;
  some = w.some;
  room = w.room;
  left = w.left;
  right = c.thick;
  kept = omega (arith, c.kept);
  more = omega (arith, c.more);
  one = omega (arith, c.one);
  extra = omega (arith, c.extra);
  low_left = omega arith;
  low_right = c.low;
  high = omega (arith, c.high);
}

pub change_here : (m : Move) (l r g : Grown) (b b' : Kept Move) (before after : ℕ) → AreInOrder l b r → Puts m b r b' g before after → Each (λ x. IsUpToMove x m) l.items → Changes m l b r l b' g before after
change_here m l r g b b' before after w c p = record {
  inserted = inserts_right m l.items (b.items ++ r.items) (b'.items ++ g.items) c.inserted p;
  some = c.some;
  room = c.room;
  left = w.left;
  right = c.thick;
  kept = omega (arith, c.kept);
  more = omega (arith, c.more);
  one = omega (arith, c.one);
  extra = omega (arith, c.extra);
  low_left = omega arith;
  low_right = c.low;
  high = omega (arith, c.high);
}

pub change_order : {m : Move} {l r l' r' : Grown} {b b' : Kept Move} {before after : ℕ} → Changes m l b r l' b' r' before after → AreInOrder l b r → IsBounded (λ part. sum_by part (whole l b r) + part m) → AreInOrder l' b' r'
change_order {m} {l} {r} {l'} {r'} {b} {b'} c w bound = record {
  rising = rising_inserts m (whole l b r) (whole l' b' r') c.inserted w.rising;
  bounded = inserts_bounded m (whole l b r) (whole l' b' r') c.inserted bound;
  some = c.some;
  room = c.room;
  left = c.left;
  right = c.right;
}

-- the node before it is rebalanced
pub change_nearly : {m : Move} {l r l' r' : Grown} {b b' : Kept Move} {before after : ℕ} → Changes m l b r l' b' r' before after → AreInOrder l b r → IsBounded (λ part. sum_by part (whole l b r) + part m) →
    DifferByAtMost 1 l.height r.height → max l.height r.height + 1 < 2 ^ 62 → AreInOrder l' b' r' × (max l'.height r'.height ≤ 2 ^ 62) × DifferByAtMost 2 l'.height r'.height
change_nearly c w bound d fits =
    (change_order c w bound, omega (arith, c.high, c.low_left, c.low_right, d.0, d.1), (omega (arith, c.high, c.low_left, c.low_right, d.0, d.1), omega (arith, c.high, c.low_left, c.low_right, d.0, d.1)))

balanced_or_not : (x y : ℕ) → DifferByAtMost 1 x y ⊎ (2 + min x y ≤ max x y)
balanced_or_not x y = elim (cases_lt (min x y + 1) (max x y)) [ inl lt ↦ inr (omega arith) | inr le ↦ inl (omega arith, omega arith) ]

-- the tree after
pub change_grows : (m : Move) (l r l' r' g : Grown) (b b' : Kept Move) (before after : ℕ) (n : Node) → Changes m l b r l' b' r' before after → DifferByAtMost 1 l.height r.height →
    g.items ≡ whole l b r → g.blocks ≡ l.blocks + 1 + r.blocks → g.extra ≡ l.extra + (length b.items - 16) + r.extra → g.height ≡ max l.height r.height + 1 →
    IsBalanced n → Joins l' b' r' (seen n) → SettlesAt l'.height r'.height (seen n).height → Grows m g (seen n) before after
change_grows m l r l' r' g b b' before after n c d gi gb ge gh balanced joins settles = record {
  inserted = rw (gi, joins.items) c.inserted;
  kept = omega (arith, c.kept, joins.blocks);
  more = omega (arith, c.more, joins.blocks);
  one = omega (arith, c.one, joins.blocks);
  extra = omega (arith, c.extra, joins.extra, joins.blocks);
  thick = thick_node n balanced;
  low = lower c.low_left c.low_right c.high settles.low settles.still;
  high = omega (arith, c.high, c.low_left, c.low_right, settles.high, d.0, d.1);
}
  where
    lower : l.height ≤ l'.height → r.height ≤ r'.height → l'.height + r'.height ≤ l.height + r.height + 1 → max l'.height r'.height ≤ (seen n).height →
        (DifferByAtMost 1 l'.height r'.height → (seen n).height ≡ max l'.height r'.height + 1) → g.height ≤ (seen n).height
    lower a b h s still = elim (balanced_or_not l'.height r'.height) [
      | inl e ↦ omega (arith, still e, gh)
      | inr e ↦ omega (arith, gh, d.0, d.1)
    ]

-- where a move goes: before the block
pub left_after : (m : Move) (l r : Grown) (b : Kept Move) → AreInOrder l b r → ((d : Move) → IsUpToMove m (get_or b.items 0 d)) → Each (IsUpToMove m) (b.items ++ r.items)
left_after m l r b w h =
    each_first m (b.items ++ r.items) (rising_right l.items (b.items ++ r.items) w.rising) (omega (arith, length-append b.items r.items, w.some))
    (λ d. subst (λ (z : Move). IsUpToMove m z) (sym (get_or_append_left b.items r.items d 0 w.some)) (h d))

-- not before it
pub left_before : (m : Move) (l r : Grown) (b : Kept Move) → AreInOrder l b r → (l.items ≡ []) ⊎ ((d : Move) → IsUpToMove (get_or b.items 0 d) m) → Each (λ x. IsUpToMove x m) l.items
left_before m l r b w (inl e) = rw e tt
left_before m l r b w (inr h) =
    each_until_first m l.items (b.items ++ r.items) w.rising (omega (arith, length-append b.items r.items, w.some))
    (λ d. subst (λ (z : Move). IsUpToMove z m) (sym (get_or_append_left b.items r.items d 0 w.some)) (h d))

-- not before its last move
pub block_before : (m : Move) (l r : Grown) (b : Kept Move) → AreInOrder l b r → ((d : Move) → IsUpToMove (get_or b.items (length b.items - 1) d) m) → Each (λ x. IsUpToMove x m) b.items
block_before m l r b w h = each_last m b.items (rising_left b.items r.items (rising_right l.items (b.items ++ r.items) w.rising)) w.some h

pub sides_before : (m : Move) (l r : Grown) (b : Kept Move) → AreInOrder l b r → ((d : Move) → IsUpToMove (get_or b.items (length b.items - 1) d) m) → Each (λ x. IsUpToMove x m) l.items
sides_before m l r b w h = left_before m l r b w (inr (λ d. each_at (λ x. IsUpToMove x m) b.items 0 d w.some (block_before m l r b w h)))

-- before its last move
pub right_after : (m : Move) (l r : Grown) (b : Kept Move) → AreInOrder l b r → (r.items ≡ []) ⊎ ((d : Move) → IsUpToMove m (get_or b.items (length b.items - 1) d)) → Each (IsUpToMove m) r.items
right_after m l r b w (inl e) = rw e tt
right_after m l r b w (inr h) = each_after_last m b.items r.items (rising_right l.items (b.items ++ r.items) w.rising) w.some h
