-- Entries whose transactions never fall, searched by an id.
use Rattle.std.proofs.Common.{◌≡◌, ℕ, ◌+◌, ◌-◌, ◌*◌, ◌/◌, ◌^◌, ◌<◌, ◌≤◌, true, List, map, length, get_or, arith, add-one, ap, sym, subst, inl, inr, ◌∙◌}
use Rattle.std.specs.List.{All}
use Rattle.std.proofs.lemmas.Bool.{cases_lt}
use Rattle.std.proofs.Math.Nat.{pow-suc}
use Rattle.std.proofs.lemmas.List.{length-map, get_or-map}
use Rattle.lg_types.specs.declared.moves.Move.{Move}
use Rattle.lg_moves.specs.declared.entries.Entry.{Entry}
use Rattle.lg_moves.specs.Entries.{move_of, entry_of}
use Rattle.lg_moves.specs.Line.{IsCutBefore, IsOrdered, IsSearchingBefore}
use Rattle.lg_moves.specs.Transactions.{IsGreatestBelow}
use Rattle.lg_moves.proofs.LineLemmas.{searched_step, searched_in}

-- the entry in the middle is of a transaction before the id: the search goes on behind it
pub before_near : (id : ℕ) (entries : List Entry) (low size before now next : ℕ) (entry : Entry) → IsSearchingBefore id entries low size before now → 0 < size → next ≡ now + 1 → IsOrdered entries →
    ((d : Entry) → entry ≡ get_or entries (low + size / 2) d) → entry.transaction < id →
    IsSearchingBefore id entries (low + (size / 2 + 1)) (size - (size / 2 + 1)) before next
before_near id entries low size before now next entry s some e order is near =
    let mid : size / 2 < size = omega arith in
    let left : 2 * (size - (size / 2 + 1)) ≤ size = omega arith in
    let n : next - before ≡ now - before + 1 = omega (arith, s.later) in
    record {
      within = omega (arith, s.within);
      near = λ k d lt.
          (let at : (get_or entries (low + size / 2) d).transaction < id = subst (λ (z : Entry). z.transaction < id) (is d) near in
          let le : (get_or entries k d).transaction ≤ (get_or entries (low + size / 2) d).transaction = order.on k (low + size / 2) d (omega arith) (omega (arith, s.within)) in
          omega (arith, at, le));
      far = λ k d le lt. s.far k d (omega arith) lt;
      later = omega (arith, s.later);
      cost = rw n (searched_step (now - before) size (length entries) (size - (size / 2 + 1)) s.cost some left);
    }

-- it isn't: the search goes on before it
pub before_far : (id : ℕ) (entries : List Entry) (low size before now next : ℕ) (entry : Entry) → IsSearchingBefore id entries low size before now → 0 < size → next ≡ now + 1 → IsOrdered entries →
    ((d : Entry) → entry ≡ get_or entries (low + size / 2) d) → id ≤ entry.transaction →
    IsSearchingBefore id entries low (size / 2) before next
before_far id entries low size before now next entry s some e order is far =
    let n : next - before ≡ now - before + 1 = omega (arith, s.later) in
    record {
      within = omega (arith, s.within);
      near = s.near;
      far = λ k d le lt.
          (let at : id ≤ (get_or entries (low + size / 2) d).transaction = subst (λ (z : Entry). id ≤ z.transaction) (is d) far in
          let more : (get_or entries (low + size / 2) d).transaction ≤ (get_or entries k d).transaction = order.on (low + size / 2) k d le lt in
          omega (arith, at, more));
      later = omega (arith, s.later);
      cost = rw n (searched_step (now - before) size (length entries) (size / 2) s.cost some (omega arith));
    }

-- at the end of a search the entries bound its steps
pub before_cost : (id : ℕ) (entries : List Entry) (low size before now : ℕ) → IsSearchingBefore id entries low size before now → (n : ℕ) → length entries + 1 ≤ 2 ^ n → now ≤ before + (n + 1)
before_cost id entries low size before now s n le =
    let k : 2 ^ (now - before) ≤ 2 * length entries + 1 = s.cost.cost in
    let p : 2 ^ (n + 1) ≡ 2 ^ n * 2 = rw add-one (pow-suc 2 n) in
    let q : 2 * length entries + 1 ≤ 2 ^ (n + 1) = rw p (omega (arith, le)) in
    omega (arith, s.later, searched_in (now - before) (2 * length entries + 1) (n + 1) k q)

-- the move at a place is that of its entry
move_here : (entries : List Entry) (k : ℕ) (d : Move) → k < length (map move_of entries) → (get_or (map move_of entries) k d) ≡ move_of (get_or entries k (entry_of d true))
move_here entries k d lt = get_or-map move_of entries k (entry_of d true) d (omega (arith, lt, length-map entries move_of))

-- the last entry before the cut has the greatest transaction
pub greatest_before : (id : ℕ) (entries : List Entry) (place : ℕ) (e : Entry) → IsCutBefore id entries place → 0 < place → IsOrdered entries → ((d : Entry) → e ≡ get_or entries (place - 1) d) → IsGreatestBelow id (map move_of entries) e.transaction
greatest_before id entries place e cut some order is =
    let l : length (map move_of entries) ≡ length entries = length-map entries move_of in
    record {
      below = subst (λ (z : Entry). z.transaction < id) (sym (is e)) (cut.before (place - 1) e (omega arith));
      held = (
        place - 1,
        omega (arith, l, cut.within),
        λ d. ap (λ (z : Move). z.transaction) (move_here entries (place - 1) d (omega (arith, l, cut.within))) ∙ ap (λ (z : Entry). z.transaction) (sym (is (entry_of d true))),
      );
      greatest = λ k d lt.
          subst (λ (m : Move). m.transaction < id → m.transaction ≤ e.transaction) (sym (move_here entries k d lt))
          (λ low. elim (cases_lt k place) [
            | inl near ↦ subst (λ (z : Entry). (get_or entries k (entry_of d true)).transaction ≤ z.transaction) (sym (is (entry_of d true))) (order.on k (place - 1) (entry_of d true) (omega arith) (omega (arith, cut.within)))
            | inr far ↦
                (let up : id ≤ (get_or entries k (entry_of d true)).transaction = cut.after k (entry_of d true) far (omega (arith, lt, l)) in
                absurd (omega (arith, up, low)))
          ]);
    }

-- where the cut is at the front, no transaction is below
pub none_before : (id : ℕ) (entries : List Entry) (place : ℕ) → IsCutBefore id entries place → place ≡ 0 → All (λ m. id ≤ m.transaction) (map move_of entries)
none_before id entries place cut none k d lt =
    subst (λ (m : Move). id ≤ m.transaction) (sym (move_here entries k d lt)) (cut.after k (entry_of d true) (omega arith) (omega (arith, lt, length-map entries move_of)))
