-- Balanced trees of blocks: their parts stand in order, and their heights stay small.
use Rattle.std.proofs.Common.{◌≡◌, ℕ, ◌+◌, ◌-◌, ◌*◌, ◌/◌, ◌^◌, ◌<◌, ◌≤◌, max, List, ◌++◌, length, refl, arith, add-one, ap, sym, subst, inl, inr, ◌∙◌, append_assoc}
use Rattle.std.specs.List.{sum_by}
use Rattle.std.proofs.lemmas.Bool.{cases_lt}
use Rattle.std.proofs.lemmas.List.Sums.{sum_by-append}
use Rattle.std.proofs.Math.Nat.{pow-suc}
use Rattle.std.proofs.Math.Pow.{pow_mono}
use Rattle.lg_runs.specs.Runs.{Kept}
use Rattle.lg_types.specs.declared.moves.Move.{Move}
use Rattle.lg_moves.specs.declared.tree.Node.{Node}
use Rattle.lg_moves.specs.declared.tree.Node.TheVariants.{Empty, Fork}
use Rattle.lg_moves.specs.declared.tree.Trunk.{Trunk}
use Rattle.lg_moves.specs.Sums.{IsBounded}
use Rattle.lg_moves.specs.Ranks.{IsRising, Each, IsUpToMove, Inserts}
use Rattle.lg_moves.specs.Seen.{Grown}
use Rattle.lg_moves.specs.Tree.{whole, seen, trunk_of, IsBalanced, IsThick, AreInOrder, IsFork, DifferByAtMost}
use Rattle.lg_moves.proofs.SumLemmas.{bounded_below}
use Rattle.lg_moves.proofs.RankLemmas.{rising_left, rising_right, inserts_left, sum_by_inserts}

-- two sides that are thick enough make a thick node
thick_power : (l r : Grown) (h n : ℕ) → IsThick l → IsThick r → h ≡ max l.height r.height + 1 → DifferByAtMost 1 l.height r.height → n ≡ l.blocks + 1 + r.blocks → 2 ^ (h / 2) ≤ n + 1
thick_power l r h n p q e d is =
    elim (cases_lt h 2) [
      | inl lt ↦ (let z : h / 2 ≡ 0 = omega arith in rw z (omega arith))
      | inr le ↦
          (let k : h / 2 ≡ h / 2 - 1 + 1 = omega arith in
          let pw : 2 ^ (h / 2 - 1 + 1) ≡ 2 ^ (h / 2 - 1) * 2 = rw add-one (pow-suc 2 (h / 2 - 1)) in
          let lo : h / 2 - 1 ≤ l.height / 2 = omega arith in
          let ro : h / 2 - 1 ≤ r.height / 2 = omega arith in
          let lp : 2 ^ (h / 2 - 1) ≤ 2 ^ (l.height / 2) = pow_mono lo in
          let rp : 2 ^ (h / 2 - 1) ≤ 2 ^ (r.height / 2) = pow_mono ro in
          rw (k, pw) (omega (arith, p.digits, q.digits)))
    ]

pub thick_of : (l r g : Grown) → IsThick l → IsThick r → g.height ≡ max l.height r.height + 1 → DifferByAtMost 1 l.height r.height → g.blocks ≡ l.blocks + 1 + r.blocks → IsThick g
thick_of l r g p q e d is = record { digits = thick_power l r g.height g.blocks p q e d is }

-- parts of a bounded list are bounded
pub bounded_left : (xs ys : List Move) → IsBounded (λ part. sum_by part (xs ++ ys)) → IsBounded (λ part. sum_by part xs)
bounded_left xs ys h = bounded_below h (λ part. omega (arith, sum_by-append part xs ys))

pub bounded_right : (xs ys : List Move) → IsBounded (λ part. sum_by part (xs ++ ys)) → IsBounded (λ part. sum_by part ys)
bounded_right xs ys h = bounded_below h (λ part. omega (arith, sum_by-append part xs ys))

-- a left side, a block and a right side whose moves are a rising list
in_order : (l r : Grown) (b : Kept Move) (ms : List Move) → IsRising ms → IsBounded (λ part. sum_by part ms) → whole l b r ≡ ms → 0 < length b.items → length b.items + b.spare ≡ 32 → IsThick l → IsThick r → AreInOrder l b r
in_order l r b ms rise bound e some room p q = record {
  rising = subst IsRising (sym e) rise;
  bounded = subst (λ (z : List Move). IsBounded (λ part. sum_by part z)) (sym e) bound;
  some = some;
  room = room;
  left = p;
  right = q;
}

regroup : (x b y c : List Move) → (x ++ (b ++ y)) ++ c ≡ x ++ (b ++ (y ++ c))
regroup x b y c = simp append_assoc

-- the right part of a left side, before what stands after that side
pub inner_right : (l x y z : Grown) (c b : Kept Move) → l.items ≡ whole x c y → AreInOrder l b z → AreInOrder x c y → AreInOrder y b z
inner_right l x y z c b is outer inner =
    let e : whole l b z ≡ x.items ++ (c.items ++ whole y b z) = ap (λ (s : List Move). s ++ (b.items ++ z.items)) is ∙ regroup x.items c.items y.items (b.items ++ z.items) in
    let s = subst IsRising e outer.rising in
    let t = subst (λ (s : List Move). IsBounded (λ part. sum_by part s)) e outer.bounded in
    record {
      rising = rising_right c.items (whole y b z) (rising_right x.items (c.items ++ whole y b z) s);
      bounded = bounded_right c.items (whole y b z) (bounded_right x.items (c.items ++ whole y b z) t);
      some = outer.some;
      room = outer.room;
      left = inner.right;
      right = outer.right;
    }

-- the left part of a right side, after what stands before that side
pub inner_left : (x y u v : Grown) (b c : Kept Move) → y.items ≡ whole u c v → AreInOrder x b y → AreInOrder u c v → AreInOrder x b u
inner_left x y u v b c is outer inner =
    let e : whole x b y ≡ whole x b u ++ (c.items ++ v.items) =
    ap (λ (s : List Move). x.items ++ (b.items ++ s)) is ∙ sym (regroup x.items b.items u.items (c.items ++ v.items)) in
    let s = subst IsRising e outer.rising in
    let t = subst (λ (s : List Move). IsBounded (λ part. sum_by part s)) e outer.bounded in
    record {
      rising = rising_left (whole x b u) (c.items ++ v.items) s;
      bounded = bounded_left (whole x b u) (c.items ++ v.items) t;
      some = outer.some;
      room = outer.room;
      left = outer.left;
      right = inner.left;
    }

-- a block of a left side over all that stands after it
pub outer_left : (l x y z g : Grown) (c b : Kept Move) → l.items ≡ whole x c y → g.items ≡ whole y b z → AreInOrder l b z → AreInOrder x c y → IsThick g → AreInOrder x c g
outer_left l x y z g c b is gis outer inner thick =
    in_order x g c (whole l b z) outer.rising outer.bounded
    (ap (λ (s : List Move). x.items ++ (c.items ++ s)) gis ∙ (sym (regroup x.items c.items y.items (b.items ++ z.items)) ∙ ap (λ (s : List Move). s ++ (b.items ++ z.items)) (sym is)))
    inner.some inner.room inner.left thick

-- a block of a right side over all that stands before it
pub outer_right : (a r y x g : Grown) (b c : Kept Move) → r.items ≡ whole y c x → g.items ≡ whole a b y → AreInOrder a b r → AreInOrder y c x → IsThick g → AreInOrder g c x
outer_right a r y x g b c is gis outer inner thick =
    in_order g x c (whole a b r) outer.rising outer.bounded
    (ap (λ (s : List Move). s ++ (c.items ++ x.items)) gis ∙ (regroup a.items b.items y.items (c.items ++ x.items) ∙ ap (λ (s : List Move). a.items ++ (b.items ++ s)) (sym is)))
    inner.some inner.room thick inner.right

-- the moves of a double rotation to the right, and to the left
pub regrouped_left : (l x y u v z g h : Grown) (c m b : Kept Move) → l.items ≡ whole x c y → y.items ≡ whole u m v → g.items ≡ whole x c u → h.items ≡ whole v b z → whole g m h ≡ whole l b z
regrouped_left l x y u v z g h c m b is yis gis his = rw (gis, his, is, yis) (simp append_assoc)

pub regrouped_right : (a r y x u v g h : Grown) (b c m : Kept Move) → r.items ≡ whole y c x → y.items ≡ whole u m v → g.items ≡ whole a b u → h.items ≡ whole v c x → whole g m h ≡ whole a b r
regrouped_right a r y x u v g h b c m is yis gis his = rw (gis, his, is, yis) (simp append_assoc)

-- the middle block of a double rotation to the right
pub outer_middle_left : (l x y u v z g h : Grown) (c m b : Kept Move) → l.items ≡ whole x c y → y.items ≡ whole u m v → g.items ≡ whole x c u → h.items ≡ whole v b z →
    AreInOrder l b z → AreInOrder u m v → IsThick g → IsThick h → AreInOrder g m h
outer_middle_left l x y u v z g h c m b is yis gis his outer inner p q =
    in_order g h m (whole l b z) outer.rising outer.bounded (regrouped_left l x y u v z g h c m b is yis gis his) inner.some inner.room p q

-- and to the left
pub outer_middle_right : (a r y x u v g h : Grown) (b c m : Kept Move) → r.items ≡ whole y c x → y.items ≡ whole u m v → g.items ≡ whole a b u → h.items ≡ whole v c x →
    AreInOrder a b r → AreInOrder u m v → IsThick g → IsThick h → AreInOrder g m h
outer_middle_right a r y x u v g h b c m is yis gis his outer inner p q =
    in_order g h m (whole a b r) outer.rising outer.bounded (regrouped_right a r y x u v g h b c m is yis gis his) inner.some inner.room p q

-- what a fork makes of sides that differ little
pub fork_of : (l r : Grown) (b : Kept Move) → AreInOrder l b r → DifferByAtMost 1 l.height r.height → IsFork l b (trunk_of l b r) r
fork_of l r b w d = record { parts = w; trunk = refl; balanced = d }

-- a tree that a fork closes is thick
pub thick_fork : (l r : Grown) (b : Kept Move) (g : Grown) → AreInOrder l b r → DifferByAtMost 1 l.height r.height →
    g ≡ record { items = whole l b r; height = max l.height r.height + 1; blocks = l.blocks + 1 + r.blocks; extra = l.extra + (length b.items - 16) + r.extra } → IsThick g
thick_fork l r b g w d is = thick_of l r g w.left w.right (ap (λ (x : Grown). x.height) is) d (ap (λ (x : Grown). x.blocks) is)

-- a balanced node is thick
pub thick_node : (n : Node) → IsBalanced n → IsThick (seen n)
thick_node Empty w = record { digits = omega arith }
thick_node (Fork l b t r) w =
    thick_of l.value r.value (seen (Fork l b t r)) w.parts.left w.parts.right (ap (λ (x : Trunk). x.height) w.trunk) w.balanced refl

-- what stands before the moves of a node stands in order before those of its left side
pub front_rising : (front : List Move) (l : Grown) (b : Kept Move) (r : Grown) → IsRising (front ++ whole l b r) → IsRising (front ++ l.items)
front_rising front l b r h = rising_left (front ++ l.items) (b.items ++ r.items) (rw (append_assoc front l.items (b.items ++ r.items)) h)

pub front_bounded : (front : List Move) (l : Grown) (b : Kept Move) (r : Grown) → IsBounded (λ part. sum_by part (front ++ whole l b r)) → IsBounded (λ part. sum_by part (front ++ l.items))
front_bounded front l b r h =
    bounded_below h (λ part. omega (arith, sum_by-append part front (whole l b r), sum_by-append part front l.items, sum_by-append part l.items (b.items ++ r.items)))

-- an insertion into a block that is then cut in two, before a right side
pub puts_inserted : (m : Move) (b c u r : List Move) → Inserts m b (c ++ u) → Each (IsUpToMove m) r → Inserts m (b ++ r) (c ++ (u ++ r))
puts_inserted m b c u r w a = subst (λ (z : List Move). Inserts m (b ++ r) z) (append_assoc c u r) (inserts_left m b (c ++ u) r w a)

-- what an insertion leaves is bounded where the old moves with the move are
pub inserts_bounded : (m : Move) (old new : List Move) → Inserts m old new → IsBounded (λ part. sum_by part old + part m) → IsBounded (λ part. sum_by part new)
inserts_bounded m old new w b = bounded_below b (λ part. omega (arith, sum_by_inserts part m old new w))
