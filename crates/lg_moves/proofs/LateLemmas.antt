-- What holds of the late moves after one more, and how high their tree is.
use Rattle.std.proofs.Common.{◌≡◌, ℕ, ◌+◌, ◌-◌, ◌*◌, ◌/◌, ◌^◌, ◌<◌, ◌≤◌, min, max, List, ◌++◌, length, arith, ap, inl, inr, ◌∙◌, length-append}
use Rattle.std.specs.List.{sum_by}
use Rattle.std.proofs.lemmas.Bool.{cases_lt}
use Rattle.std.proofs.lemmas.List.Sums.{sum_by-append}
use Rattle.std.proofs.lemmas.Nat.{pow-add}
use Rattle.std.proofs.Math.Pow.{pow_mono}
use Rattle.lg_runs.specs.Runs.{Kept}
use Rattle.lg_types.specs.declared.moves.Move.{Move}
use Rattle.lg_moves.specs.declared.sums.Sums.{Sums}
use Rattle.lg_moves.specs.declared.bounds.Bound.{Bound}
use Rattle.lg_moves.specs.Bounds.{passes}
use Rattle.lg_types.specs.Tally.{amount_in, amount_out, if_passing}
use Rattle.lg_moves.specs.Sums.{AreSums, IsBounded}
use Rattle.lg_moves.specs.Seen.{Grown}
use Rattle.lg_moves.specs.Tree.{IsThick, Grows}
use Rattle.lg_moves.specs.Late.{late_room, IsLate}
use Rattle.lg_moves.proofs.SumLemmas.{bounded_below, sum_by_ones, FitTogether, fit_together, sum_passing_le}
use Rattle.lg_moves.proofs.RankLemmas.{sum_by_inserts, length_inserts}
use Rattle.lg_moves.proofs.LineLemmas.{searched_in}

-- a tree whose blocks a number can count isn't high
pub height_small : (g : Grown) → IsThick g → g.blocks < 2 ^ 64 → g.height < 2 ^ 62
height_small g t small =
    let h : g.height / 2 ≤ 64 = searched_in (g.height / 2) (g.blocks + 1) 64 t.digits (omega arith) in
    omega arith

-- the height of a tree beside 16 first moves, by the binary digits of the number of all
pub height_within : (g : Grown) (b : ℕ) → IsThick g → 0 < g.blocks → 16 * g.blocks + g.extra ≤ length g.items + 15 → 16 + length g.items + 1 ≤ 2 ^ b → g.height + 7 ≤ 2 * b
height_within g b t some filled le =
    let four : 4 ≤ b = elim (cases_lt b 4) [
      | inl lt ↦ (let three : b ≤ 3 = omega arith in let p : 2 ^ b ≤ 2 ^ 3 = pow_mono three in absurd (omega arith))
      | inr ge ↦ ge
    ] in
    let k = b - 4 in
    let is : b ≡ k + 4 = omega arith in
    let p : 2 ^ (k + 4) ≡ 2 ^ k * 16 = pow-add 2 k 4 in
    let le2 : 16 + length g.items + 1 ≤ 2 ^ k * 16 = rw (← p, ← is) le in
    let h : g.height / 2 ≤ k = searched_in (g.height / 2) (g.blocks + 1) k t.digits (omega arith) in
    omega arith

-- the late moves after one that went into the tree
pub late_grows : (first : Kept Move) (g h : Grown) (before after count : ℕ) (m : Move) → IsLate first g before count → 0 < g.blocks → Grows m g h before after →
    IsBounded (λ part. sum_by part (first.items ++ g.items) + part m) → IsLate first h after (count + (before - after))
late_grows first g h before after count m w some c bound =
    let n : length h.items ≡ length g.items + 1 = length_inserts m g.items h.items c.inserted in
    record {
      bounded = bounded_below bound (λ part. omega (arith, sum_by-append part first.items h.items, sum_by-append part first.items g.items, sum_by_inserts part m g.items h.items c.inserted));
      short = w.short;
      full = λ p. w.full (omega arith);
      used = λ p. w.used some;
      filled = omega (arith, c.extra, w.filled);
      empty = λ e. absurd (omega (arith, c.more));
      thick = c.thick;
      counted = omega (arith, w.counted, c.kept, c.more);
    }

-- the count of the tree's blocks still fits
pub count_fits : (first : Kept Move) (g h : Grown) (before after count : ℕ) (m : Move) → IsLate first g before count → Grows m g h before after → IsBounded (λ part. sum_by part (first.items ++ g.items) + part m) → count + (before - after) < 2 ^ 64
count_fits first g h before after count m w c bound =
    let n : sum_by (λ (_ : Move). 1) (first.items ++ g.items) ≡ length (first.items ++ g.items) = sum_by_ones (first.items ++ g.items) in
    omega (arith, w.counted, w.filled, c.one, c.kept, c.more, bound.count, n, length-append first.items g.items)

-- room after one move that went into the tree
pub room_grows : (first : Kept Move) (g h : Grown) (before after : ℕ) (m : Move) → Grows m g h before after → late_room first g before ≤ late_room first h after + 1
room_grows first g h before after m c =
    let n : length h.items ≡ length g.items + 1 = length_inserts m g.items h.items c.inserted in
    omega (arith, c.kept, c.more, c.one)

-- steps of an insertion into the tree
pub insert_cost : (first : Kept Move) (g : Grown) (pool count now next : ℕ) → IsLate first g pool count → 0 < g.blocks → next ≤ now + (6 * g.height + 54) → (b : ℕ) → length (first.items ++ g.items) + 1 ≤ 2 ^ b → next ≤ now + (12 * b + 14)
insert_cost first g pool count now next w some c b le =
    let l = length-append first.items g.items in
    let u = w.used some in
    let h = height_within g b w.thick some w.filled (omega arith) in
    omega arith

-- steps of a reading
pub sum_cost : (first : Kept Move) (g : Grown) (pool count now mid next : ℕ) → IsLate first g pool count → 0 < g.blocks → mid ≡ now + length first.items → next ≤ mid + (g.height + 32) → (b : ℕ) → length (first.items ++ g.items) + 1 ≤ 2 ^ b → next ≤ now + (2 * b + 41)
sum_cost first g pool count now mid next w some c d b le =
    let l = length-append first.items g.items in
    let u = w.used some in
    let h = height_within g b w.thick some w.filled (omega arith) in
    omega arith

-- the room after nodes were spared
pub room_spared : (first new : Kept Move) (g : Grown) (nodes pool more near : ℕ) → near ≤ new.spare → more - near ≤ max nodes (16 * (g.blocks + nodes) - length g.items) → nodes ≤ pool → more ≤ late_room new g pool
room_spared first new g nodes pool more near a b c = omega arith

-- the late moves after nodes were spared or given back
pub late_spared : (first new : Kept Move) (g : Grown) (pool after count nodes more near free : ℕ) → IsLate first g pool count → new.items ≡ first.items → first.spare ≤ new.spare → new.spare ≤ max first.spare near → near ≤ new.spare →
    free ≡ 16 - length first.items → near ≡ min more free → (more - near ≡ 0 → nodes ≡ 0) → after ≤ max pool nodes → IsLate new g after count
late_spared first new g pool after count nodes more near free w is grows most ok oi ni none less =
    let l : length new.items ≡ length first.items = ap length is in
    record {
      bounded = rw is w.bounded;
      short = omega (arith, w.short);
      full = λ p. elim (cases_lt 0 (g.blocks + pool)) [
        | inl some ↦ (let f = w.full some in omega (arith, w.short))
        | inr none_yet ↦ elim (cases_lt 0 (more - near)) [
          | inl far ↦ omega (arith, w.short)
          | inr z ↦ (let e : nodes ≡ 0 = none (omega arith) in absurd (omega arith))
        ]
      ];
      used = λ p. l ∙ w.used p;
      filled = w.filled;
      empty = w.empty;
      thick = w.thick;
      counted = w.counted;
    }

-- sums of moves that pass are within the limits of all
pub record AreWithin (s : Sums) (n : ℕ) : Type 0 where
  pub input : s.input < 2 ^ 127
  pub output : s.output < 2 ^ 127
  pub count : s.count ≤ n

passing_both : (b : Bound) (part : Move → ℕ) (xs ys : List Move) → sum_by (if_passing (passes b) part) xs + sum_by (if_passing (passes b) part) ys ≤ sum_by part (xs ++ ys)
passing_both b part xs ys = omega (arith, sum_passing_le (passes b) part xs, sum_passing_le (passes b) part ys, sum_by-append part xs ys)

pub late_fit : (b : Bound) (xs ys : List Move) (s u : Sums) → IsBounded (λ part. sum_by part (xs ++ ys)) → AreSums s (λ part. sum_by (if_passing (passes b) part) xs) → AreSums u (λ part. sum_by (if_passing (passes b) part) ys) → FitTogether s u
late_fit b xs ys s u w p q = fit_together p q w (λ part. passing_both b part xs ys)

pub late_within : (b : Bound) (xs ys : List Move) (s : Sums) → IsBounded (λ part. sum_by part (xs ++ ys)) → AreSums s (λ part. sum_by (if_passing (passes b) part) xs + sum_by (if_passing (passes b) part) ys) → AreWithin s (length (xs ++ ys))
late_within b xs ys s w p =
    let n : sum_by (λ (_ : Move). 1) (xs ++ ys) ≡ length (xs ++ ys) = sum_by_ones (xs ++ ys) in
    record {
      input = omega (arith, p.input, w.input, passing_both b amount_in xs ys);
      output = omega (arith, p.output, w.output, passing_both b amount_out xs ys);
      count = omega (arith, p.count, n, passing_both b (λ _. 1) xs ys);
    }

pub few_within : (b : Bound) (xs ys : List Move) (s : Sums) → IsBounded (λ part. sum_by part (xs ++ ys)) → AreSums s (λ part. sum_by (if_passing (passes b) part) xs) → AreWithin s (length (xs ++ ys))
few_within b xs ys s w p =
    let n : sum_by (λ (_ : Move). 1) (xs ++ ys) ≡ length (xs ++ ys) = sum_by_ones (xs ++ ys) in
    record {
      input = omega (arith, p.input, w.input, passing_both b amount_in xs ys);
      output = omega (arith, p.output, w.output, passing_both b amount_out xs ys);
      count = omega (arith, p.count, n, passing_both b (λ _. 1) xs ys);
    }
