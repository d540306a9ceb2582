-- What a line keeps when a move comes after the others, and what its marks say of a reading.
use Rattle.std.proofs.Common.{◌≡◌, ℕ, ◌+◌, ◌-◌, ◌*◌, ◌%◌, ◌/◌, ◌^◌, ◌<◌, ◌≤◌, min, Bool, true, false, ◌&&◌, cond, ℤ, ◌≤ℤ◌, List, [], ◌∷◌, ◌++◌, map, length, take, drop, get_or, refl, arith, add-one, ap, sym, subst, inl, inr, ◌∙◌}
use Rattle.std.specs.List.{sum_by, All}
use Rattle.std.proofs.lemmas.Bool.{false≢true, cases_eq, cases_lt}
use Rattle.std.proofs.lemmas.List.{take-append-le, drop-append-le, take_all, drop_all, length_push, get_or_append_left, get_or_push, length-take, length-map, get_or-map}
use Rattle.std.proofs.lemmas.List.Sums.{sum_by_push, sum_by-le-sum_by, sum_by-take-le, sum_by_more, sum_by-take-drop}
use Rattle.std.proofs.lemmas.List.Elements.{All-nil, All-push}
use Rattle.std.proofs.Math.Nat.{pow-suc, mul-le-mul_left, mul_assoc}
use Rattle.std.proofs.Math.Pow.{pow-lt}
use Rattle.lg_types.specs.declared.moves.Move.{Move}
use Rattle.lg_moves.specs.declared.sums.Sums.{Sums}
use Rattle.lg_moves.specs.declared.marks.Mark.{Mark}
use Rattle.lg_moves.specs.declared.entries.Entry.{Entry}
use Rattle.lg_moves.specs.declared.bounds.Key.{Key}
use Rattle.lg_moves.specs.declared.bounds.Bound.{Bound}
use Rattle.lg_moves.specs.declared.bounds.Bound.TheVariants.{InsertedTo, InsertedBefore, EffectiveTo, EffectiveBefore, TransactionTo, RankTo, RankBefore}
use Rattle.lg_runs.specs.Runs.{Kept}
use Rattle.lg_types.specs.Tally.{amount_in, amount_out, is_ranked_before}
use Rattle.lg_moves.specs.Moves.{ComesNext, IsLastInRank}
use Rattle.lg_moves.specs.Sums.{AreSums, IsBounded}
use Rattle.lg_moves.specs.Bounds.{is_near, is_by_rank, key_of, passes}
use Rattle.lg_moves.specs.Entries.{move_of, entry_of, counts, hits, every_part, timely_part, counted_part, hit_part}
use Rattle.lg_moves.specs.Line.{Covers, IsUpTo, IsMark, IsMarked, IsLine, mark_after, Follows, IsCutAt, IsOrdered, IsSearched, IsSearching, sums_in}
use Rattle.lg_moves.proofs.SumLemmas.{true_or_false, sum_by_same, sum_by_none, sum_by_ones, same_total, with_move, bounded_below, cond_le, FitsOneMore, fits_one_more}
use Rattle.lg_moves.proofs.BoundLemmas.{near_by_insertion, near_by_rank}

timely_le : (part : Move → ℕ) (e : Entry) → timely_part part e ≤ every_part part e
timely_le part e = cond_le e.timely (part (move_of e))

hit_le : (b : Bound) (part : Move → ℕ) (e : Entry) → hit_part b part e ≤ every_part part e
hit_le b part e = cond_le (hits b e) (part (move_of e))

-- the sums of the timely entries have room for one more move, where those of all entries do
pub timely_fits : (entries : List Entry) (m : Move) (s : Sums) → AreSums s (λ part. sum_by (timely_part part) entries) → IsBounded (λ part. sum_by (every_part part) entries + part m) → FitsOneMore s
timely_fits entries m s h b =
    fits_one_more h b
    (λ part. omega (arith, sum_by-le-sum_by (timely_part part) (every_part part) entries (timely_le part)))
    (omega (arith, sum_by-le-sum_by (timely_part (λ _. 1)) (every_part (λ _. 1)) entries (timely_le (λ _. 1))))

-- the key of a move that follows is no lower than that of the end, in the orders in which the move stands
follows_near : (entries : List Entry) (end : Mark) (m : Move) (timely : Bool) → Follows entries end m timely → 0 < length entries →
    (b : Bound) → counts b (entry_of m timely) ≡ true → is_near b (key_of m) ≡ true → is_near b end.key ≡ true
follows_near entries end m timely f some b c n =
    let by : (r : Bool) → is_by_rank b ≡ r → is_near b end.key ≡ true = λ r e. elim r as (λ r. is_by_rank b ≡ r → is_near b end.key ≡ true) [
      | true ↦ λ e. near_by_rank b end.key (key_of m) e (f.ranked some (rw e at c)) n
      | false ↦ λ e. near_by_insertion b end.key (key_of m) e (f.inserted some) (f.transaction some) n
    ] e in
    by (is_by_rank b) refl

-- by insertion a new key stands where the move does
after_by_insertion : (b : Bound) (end : Mark) (m : Move) (timely : Bool) → is_by_rank b ≡ false → is_near b (mark_after end m timely).key ≡ is_near b (key_of m)
after_by_insertion (InsertedTo date) end m true e = refl
after_by_insertion (InsertedTo date) end m false e = refl
after_by_insertion (InsertedBefore date) end m true e = refl
after_by_insertion (InsertedBefore date) end m false e = refl
after_by_insertion (TransactionTo id) end m true e = refl
after_by_insertion (TransactionTo id) end m false e = refl
after_by_insertion (EffectiveTo date) end m timely e = absurd (cc)
after_by_insertion (EffectiveBefore date) end m timely e = absurd (cc)
after_by_insertion (RankTo date id) end m timely e = absurd (cc)
after_by_insertion (RankBefore date id) end m timely e = absurd (cc)

-- by rank it stays where it was, where the move isn't timely
after_by_rank : (b : Bound) (end : Mark) (m : Move) → is_by_rank b ≡ true → is_near b (mark_after end m false).key ≡ is_near b end.key
after_by_rank (InsertedTo date) end m e = absurd (cc)
after_by_rank (InsertedBefore date) end m e = absurd (cc)
after_by_rank (TransactionTo id) end m e = absurd (cc)
after_by_rank (EffectiveTo date) end m e = refl
after_by_rank (EffectiveBefore date) end m e = refl
after_by_rank (RankTo date id) end m e = refl
after_by_rank (RankBefore date id) end m e = refl

-- the new key covers the new entry
after_covers : (b : Bound) (end : Mark) (m : Move) (timely : Bool) → is_near b (mark_after end m timely).key ≡ true → counts b (entry_of m timely) ≡ true → is_near b (key_of m) ≡ true
after_covers b end m true n c = n
after_covers b end m false n c =
    let by : (r : Bool) → is_by_rank b ≡ r → is_near b (key_of m) ≡ true = λ r e. elim r as (λ r. is_by_rank b ≡ r → is_near b (key_of m) ≡ true) [
      | true ↦ λ e. absurd (false≢true (rw e at c))
      | false ↦ λ e. sym (after_by_insertion b end m false e) ∙ n
    ] e in
    by (is_by_rank b) refl

-- the new key is no lower than the old one
pub after_up : (entries : List Entry) (end : Mark) (m : Move) (timely : Bool) → Follows entries end m timely → 0 < length entries → IsUpTo end.key (mark_after end m timely).key
after_up entries end m true f some = record { on = λ b n. follows_near entries end m true f some b (elim (is_by_rank b) as (λ r. cond r true true ≡ true) [ true ↦ refl | false ↦ refl ]) n }
after_up entries end m false f some = record {
  on = λ b n.
      (let by : (r : Bool) → is_by_rank b ≡ r → is_near b end.key ≡ true = λ r e. elim r as (λ r. is_by_rank b ≡ r → is_near b end.key ≡ true) [
        | true ↦ λ e. sym (after_by_rank b end m e) ∙ n
        | false ↦ λ e. near_by_insertion b end.key (key_of m) e (f.inserted some) (f.transaction some) (sym (after_by_insertion b end m false e) ∙ n)
      ] e in
      by (is_by_rank b) refl);
}

same_key : (k : Key) → IsUpTo k k
same_key k = record { on = λ b n. n }

up_then : {a b c : Key} → IsUpTo a b → IsUpTo b c → IsUpTo a c
up_then h k = record { on = λ x n. h.on x (k.on x n) }

-- the sums of the timely entries with one more entry
timely_push : (entries : List Entry) (end : Mark) (m : Move) (timely : Bool) → AreSums end.timely (λ part. sum_by (timely_part part) entries) →
    AreSums (mark_after end m timely).timely (λ part. sum_by (timely_part part) (entries ++ entry_of m timely ∷ []))
timely_push entries end m true h = same_total (with_move h m) (λ part. sym (sum_by_push (timely_part part) entries (entry_of m true)))
timely_push entries end m false h = same_total h (λ part. omega (arith, sum_by_push (timely_part part) entries (entry_of m false)))

-- the mark at the end after one more entry
whole_push : (entries : List Entry) (end : Mark) (m : Move) (timely : Bool) → IsMark end entries [] end.key → Follows entries end m timely →
    IsMark (mark_after end m timely) (entries ++ entry_of m timely ∷ []) [] (mark_after end m timely).key
whole_push entries end m timely w f = record {
  all = same_total (with_move w.all m) (λ part. sym (sum_by_push (every_part part) entries (entry_of m timely)));
  timely = timely_push entries end m timely w.timely;
  covers = record {
    on = λ b n. All-push (λ e. counts b e ≡ true → passes b (move_of e) ≡ true) entries (entry_of m timely)
        (λ k d l. w.covers.on b ((after_up entries end m timely f (omega arith)).on b n) k d l)
        (after_covers b end m timely n);
  };
  precedes = record { on = λ b n. All-nil (λ e. hits b e ≡ false) };
  low = same_key _;
}

-- an entry that follows doesn't pass beyond an earlier key
not_hit : (entries : List Entry) (end : Mark) (m : Move) (timely : Bool) → Follows entries end m timely → 0 < length entries → (low : Key) → IsUpTo low end.key →
    (b : Bound) → is_near b low ≡ false → hits b (entry_of m timely) ≡ false
not_hit entries end m timely f some low up b n =
    let by : (x y : Bool) → counts b (entry_of m timely) ≡ x → passes b m ≡ y → (x && y) ≡ false = λ x y p q.
    elim x as (λ x. counts b (entry_of m timely) ≡ x → (x && y) ≡ false) [
      | false ↦ λ p. refl
      | true ↦ λ p. elim y as (λ y. passes b m ≡ y → y ≡ false) [
        | false ↦ λ q. refl
        | true ↦ λ q. absurd (false≢true (sym n ∙ up.on b (follows_near entries end m timely f some b p q)))
      ] q
    ] p in
    by _ _ refl refl

-- an earlier mark, with one more entry after it
mark_push : (before after entries : List Entry) (mark end : Mark) (m : Move) (timely : Bool) → IsMark mark before after end.key → Follows entries end m timely → 0 < length entries →
    IsMark mark before (after ++ entry_of m timely ∷ []) (mark_after end m timely).key
mark_push before after entries mark end m timely w f some = record {
  all = w.all;
  timely = w.timely;
  covers = w.covers;
  precedes = record { on = λ b n. All-push (λ e. hits b e ≡ false) after (entry_of m timely) (w.precedes.on b n) (not_hit entries end m timely f some mark.key w.low b n) };
  low = up_then w.low (after_up entries end m timely f some);
}

-- the same where the places before it are the first n
mark_push_at : (n : ℕ) (entries : List Entry) (mark end : Mark) (m : Move) (timely : Bool) → n ≤ length entries → 0 < length entries → Follows entries end m timely →
    IsMark mark (take n entries) (drop n entries) end.key →
    IsMark mark (take n (entries ++ entry_of m timely ∷ [])) (drop n (entries ++ entry_of m timely ∷ [])) (mark_after end m timely).key
mark_push_at n entries mark end m timely le some f w =
    rw (take-append-le n entries (entry_of m timely ∷ []), drop-append-le n entries (entry_of m timely ∷ []))
    (mark_push (take n entries) (drop n entries) entries mark end m timely w f some)

-- the place of the last entry after one more
last_push : (entries : List Entry) (end : Mark) (m : Move) (timely : Bool) (d : Entry) →
    ((get_or (entries ++ entry_of m timely ∷ []) (length (entries ++ entry_of m timely ∷ []) - 1) d).transaction ≡ (mark_after end m timely).key.transaction)
    × ((get_or (entries ++ entry_of m timely ∷ []) (length (entries ++ entry_of m timely ∷ []) - 1) d).inserted ≡ (mark_after end m timely).key.inserted)
last_push entries end m timely d =
    let e : get_or (entries ++ entry_of m timely ∷ []) (length (entries ++ entry_of m timely ∷ []) - 1) d ≡ entry_of m timely =
    get_or_push entries (entry_of m timely) d (length (entries ++ entry_of m timely ∷ []) - 1) (omega (arith, length_push entries (entry_of m timely))) in
    rw e (elim timely as (λ t. (m.transaction ≡ (mark_after end m t).key.transaction) × (m.inserted ≡ (mark_after end m t).key.inserted)) [ true ↦ (refl, refl) | false ↦ (refl, refl) ])

-- the entry of the greatest rank after one more
reached_push : (entries : List Entry) (marks : List Mark) (end : Mark) (m : Move) (timely : Bool) (d : Entry) → IsMarked entries marks end → Follows entries end m timely →
    (k : ℕ) × (k < length (entries ++ entry_of m timely ∷ [])) × ((get_or (entries ++ entry_of m timely ∷ []) k d).effective ≡ (mark_after end m timely).key.date)
    × ((get_or (entries ++ entry_of m timely ∷ []) k d).transaction ≡ (mark_after end m timely).key.id)
reached_push entries marks end m true d w f =
    let e : get_or (entries ++ entry_of m true ∷ []) (length entries) d ≡ entry_of m true = get_or_push entries (entry_of m true) d (length entries) refl in
    (length entries, omega (arith, length_push entries (entry_of m true)), rw e refl, rw e refl)
reached_push entries marks end m false d w f =
    let some : 0 < length entries = elim (cases_eq (length entries) 0) [ inl z ↦ absurd (false≢true (f.first z)) | inr ne ↦ omega arith ] in
    let old = w.reached d some in
    let at : old.0 < length entries = old.1 in
    let e : get_or (entries ++ entry_of m false ∷ []) old.0 d ≡ get_or entries old.0 d = get_or_append_left entries (entry_of m false ∷ []) d old.0 at in
    (old.0, omega (arith, length_push entries (entry_of m false)), rw e old.2, rw e old.3)

-- the transactions never fall after one more
ordered_push : (entries : List Entry) (marks : List Mark) (end : Mark) (m : Move) (timely : Bool) → IsMarked entries marks end → Follows entries end m timely → IsOrdered (entries ++ entry_of m timely ∷ [])
ordered_push entries marks end m timely w f = record {
  on = λ i j d le lt.
      (let l = length_push entries (entry_of m timely) in
      elim (cases_eq j (length entries)) [
        | inl e ↦
            rw (get_or_push entries (entry_of m timely) d j (sym e)) (elim (cases_eq i (length entries)) [
              | inl e2 ↦ rw (get_or_push entries (entry_of m timely) d i (sym e2)) (omega arith)
              | inr ne ↦
                  (let some : 0 < length entries = omega arith in
                  let a : (get_or entries i d).transaction ≤ (get_or entries (length entries - 1) d).transaction = w.ordered.on i (length entries - 1) d (omega arith) (omega arith) in
                  let b : (get_or entries (length entries - 1) d).transaction ≡ end.key.transaction = (w.last d some).0 in
                  let c : end.key.transaction ≤ m.transaction = f.transaction some in
                  rw (get_or_append_left entries (entry_of m timely ∷ []) d i (omega arith)) (omega (arith, a, b, c)))
            ])
        | inr ne ↦
            rw (get_or_append_left entries (entry_of m timely ∷ []) d j (omega arith), get_or_append_left entries (entry_of m timely ∷ []) d i (omega arith)) (w.ordered.on i j d le (omega arith))
      ]);
}

bounded_push : (entries : List Entry) (m : Move) (timely : Bool) → IsBounded (λ part. sum_by (every_part part) entries + part m) → IsBounded (λ part. sum_by (every_part part) (entries ++ entry_of m timely ∷ []))
bounded_push entries m timely h = record {
  input = omega (arith, h.input, sum_by_push (every_part amount_in) entries (entry_of m timely));
  output = omega (arith, h.output, sum_by_push (every_part amount_out) entries (entry_of m timely));
  count = omega (arith, h.count, sum_by_push (every_part (λ _. 1)) entries (entry_of m timely));
}

-- a line after one more entry, where no mark is due
pub marked_push : (entries : List Entry) (marks : List Mark) (end : Mark) (m : Move) (timely : Bool) → IsMarked entries marks end → Follows entries end m timely →
    IsBounded (λ part. sum_by (every_part part) entries + part m) → (length (entries ++ entry_of m timely ∷ []) % 16 ≡ 0 → ⊥) →
    IsMarked (entries ++ entry_of m timely ∷ []) marks (mark_after end m timely)
marked_push entries marks end m timely w f b n =
    let l = length_push entries (entry_of m timely) in
    record {
      whole = whole_push entries end m timely w.whole f;
      each = λ k d lt. mark_push_at ((k + 1) * 16) entries _ end m timely (omega (arith, w.few)) (omega (arith, w.few)) f (w.each k d lt);
      rising = w.rising;
      few = omega (arith, w.few);
      enough = omega (arith, w.enough, w.few, n);
      last = λ d some. last_push entries end m timely d;
      reached = λ d some. reached_push entries marks end m timely d w f;
      ordered = ordered_push entries marks end m timely w f;
      bounded = bounded_push entries m timely b;
    }

-- a line after one more entry, where a mark is due
pub marked_push_due : (entries : List Entry) (marks : List Mark) (end : Mark) (m : Move) (timely : Bool) → IsMarked entries marks end → Follows entries end m timely →
    IsBounded (λ part. sum_by (every_part part) entries + part m) → length (entries ++ entry_of m timely ∷ []) % 16 ≡ 0 →
    IsMarked (entries ++ entry_of m timely ∷ []) (marks ++ mark_after end m timely ∷ []) (mark_after end m timely)
marked_push_due entries marks end m timely w f b n =
    let new = mark_after end m timely in
    let l = length_push entries (entry_of m timely) in
    let ml = length_push marks new in
    let due : (length marks + 1) * 16 ≡ length entries + 1 = omega (arith, w.few, w.enough, n) in
    record {
      whole = whole_push entries end m timely w.whole f;
      each = λ k d lt.
          elim (cases_eq k (length marks)) [
            | inl e ↦
                (let at : get_or (marks ++ new ∷ []) k d ≡ new = get_or_push marks new d k (sym e) in
                let t : take ((k + 1) * 16) (entries ++ entry_of m timely ∷ []) ≡ entries ++ entry_of m timely ∷ [] = take_all ((k + 1) * 16) (entries ++ entry_of m timely ∷ []) (omega arith) in
                let u : drop ((k + 1) * 16) (entries ++ entry_of m timely ∷ []) ≡ [] = drop_all ((k + 1) * 16) (entries ++ entry_of m timely ∷ []) (omega arith) in
                rw (at, t, u) (whole_push entries end m timely w.whole f))
            | inr ne ↦
                (let at : get_or (marks ++ new ∷ []) k d ≡ get_or marks k d = get_or_append_left marks (new ∷ []) d k (omega arith) in
                rw at (mark_push_at ((k + 1) * 16) entries _ end m timely (omega (arith, w.few)) (omega (arith, w.few)) f (w.each k d (omega arith))))
          ];
      rising = λ i j d le lt.
          elim (cases_eq j (length marks)) [
            | inl e ↦
                (let at : get_or (marks ++ new ∷ []) j d ≡ new = get_or_push marks new d j (sym e) in
                rw at (elim (cases_eq i (length marks)) [
                  | inl e2 ↦ rw (get_or_push marks new d i (sym e2)) (same_key _)
                  | inr ne ↦ rw (get_or_append_left marks (new ∷ []) d i (omega arith)) (up_then (w.each i d (omega arith)).low (after_up entries end m timely f (omega (arith, w.few))))
                ]))
            | inr ne ↦ rw (get_or_append_left marks (new ∷ []) d j (omega arith), get_or_append_left marks (new ∷ []) d i (omega arith)) (w.rising i j d le (omega arith))
          ];
      few = omega (arith, w.few);
      enough = omega (arith, w.enough);
      last = λ d some. last_push entries end m timely d;
      reached = λ d some. reached_push entries marks end m timely d w f;
      ordered = ordered_push entries marks end m timely w f;
      bounded = bounded_push entries m timely b;
    }

-- a move that comes next follows
pub follows_from_next : (entries : List Entry) (marks : List Mark) (end : Mark) (m : Move) (timely : Bool) → ComesNext (map move_of entries) m → IsMarked entries marks end →
    (length entries ≡ 0 → timely ≡ true) → (0 < length entries → timely ≡ true → is_near (RankBefore end.key.date end.key.id) (key_of m) ≡ false) → Follows entries end m timely
follows_from_next entries marks end m timely next w first ranked =
    let d = entry_of m timely in
    let l : length (map move_of entries) ≡ length entries = length-map entries move_of in
    let e : 0 < length entries → get_or (map move_of entries) (length (map move_of entries) - 1) m ≡ move_of (get_or entries (length entries - 1) d) =
    λ some. rw l (get_or-map move_of entries (length entries - 1) d m (omega arith)) in
    record {
      inserted = λ some.
          (let h : (move_of (get_or entries (length entries - 1) d)).inserted ≤ℤ m.inserted = subst (λ (z : Move). z.inserted ≤ℤ m.inserted) (e some) (next.inserted m (omega arith)) in
          subst (λ (z : ℤ). z ≤ℤ m.inserted) (w.last d some).1 h);
      transaction = λ some.
          (let h : (move_of (get_or entries (length entries - 1) d)).transaction ≤ m.transaction = subst (λ (z : Move). z.transaction ≤ m.transaction) (e some) (next.transaction m (omega arith)) in
          subst (λ (z : ℕ). z ≤ m.transaction) (w.last d some).0 h);
      ranked = ranked;
      first = first;
    }

pub line_push : (entries : List Entry) (spare : ℕ) (marks : Kept Mark) (end : Mark) (m : Move) (timely : Bool) (new : Kept Entry) →
    IsLine (record { items = entries; spare = spare }) marks end → Follows entries end m timely → IsBounded (λ part. sum_by (every_part part) entries + part m) →
    new.items ≡ entries ++ entry_of m timely ∷ [] → new.spare + 1 ≡ spare → (length new.items % 16 ≡ 0 → ⊥) →
    IsLine new marks (mark_after end m timely)
line_push entries spare marks end m timely new w f b is s n =
    let l = length_push entries (entry_of m timely) in
    let k : length new.items ≡ length entries + 1 = ap length is ∙ l in
    record {
      marked = rw is (marked_push entries marks.items end m timely w.marked f b (λ e. n (omega (arith, ap length is))));
      room = omega (arith, w.room);
    }

pub line_push_due : (entries : List Entry) (spare : ℕ) (marks more : Kept Mark) (end : Mark) (m : Move) (timely : Bool) (new : Kept Entry) →
    IsLine (record { items = entries; spare = spare }) marks end → Follows entries end m timely → IsBounded (λ part. sum_by (every_part part) entries + part m) →
    new.items ≡ entries ++ entry_of m timely ∷ [] → new.spare + 1 ≡ spare → length new.items % 16 ≡ 0 →
    more.items ≡ marks.items ++ mark_after end m timely ∷ [] → more.spare + 1 ≡ marks.spare →
    IsLine new more (mark_after end m timely)
line_push_due entries spare marks more end m timely new w f b is s n mis ms =
    let l = length_push entries (entry_of m timely) in
    let k : length new.items ≡ length entries + 1 = ap length is ∙ l in
    let j : length more.items ≡ length marks.items + 1 = ap length mis ∙ length_push marks.items (mark_after end m timely) in
    record {
      marked = rw (is, mis) (marked_push_due entries marks.items end m timely w.marked f b (omega (arith, ap length is)));
      room = omega (arith, w.room);
    }

-- at a due place there is room for one more mark
pub mark_room : (entries : List Entry) (spare : ℕ) (marks : Kept Mark) (end : Mark) → IsLine (record { items = entries; spare = spare }) marks end → 0 < spare → (length entries + 1) % 16 ≡ 0 → 0 < marks.spare
mark_room entries spare marks end w some n = omega (arith, w.room, w.marked.few, w.marked.enough)

-- one more halving of a binary search
pub searched_step : (steps size all rest : ℕ) → IsSearched steps size all → 0 < size → 2 * rest ≤ size → IsSearched (steps + 1) rest all
searched_step steps size all rest h some half =
    let p : 2 ^ (steps + 1) ≡ 2 ^ steps * 2 = rw add-one (pow-suc 2 steps) in
    let q : 2 ^ steps * (2 * rest) ≤ 2 ^ steps * size = mul-le-mul_left (2 ^ steps) half in
    let one : 1 ≤ size = omega arith in
    let r : 2 ^ steps * 1 ≤ 2 ^ steps * size = mul-le-mul_left (2 ^ steps) one in
    let s : 2 ^ steps * 2 * rest ≡ 2 ^ steps * (2 * rest) = mul_assoc (2 ^ steps) 2 rest in
    record {
      area = rw p (omega (arith, q, s, h.area));
      cost = omega (arith, p, r, h.area, h.cost);
    }

-- what a binary search halved bounds its steps
pub searched_in : (steps n b : ℕ) → 2 ^ steps ≤ n → n ≤ 2 ^ b → steps ≤ b
searched_in steps n b p q = elim (cases_lt b steps) [
  | inl l ↦ let k : 2 ^ b < 2 ^ steps = pow-lt l in absurd (omega arith)
  | inr l ↦ l
]

-- an entry more that passes adds to sums that have room for it
pub hits_fit : (b : Bound) (entries : List Entry) (i : ℕ) (s : Sums) → i < length entries → IsBounded (λ part. sum_by (every_part part) entries) → AreSums s (λ part. sum_by (hit_part b part) (take i entries)) → FitsOneMore s
hits_fit b entries i s lt all h =
    fits_one_more h all
    (λ part. omega (arith, sum_by-le-sum_by (hit_part b part) (every_part part) (take i entries) (hit_le b part), sum_by-take-le (every_part part) entries i))
    (let n : sum_by (every_part (λ _. 1)) entries ≡ length entries = sum_by_ones entries in
    let k : sum_by (every_part (λ _. 1)) (take i entries) ≡ length (take i entries) = sum_by_ones (take i entries) in
    omega (arith, sum_by-le-sum_by (hit_part b (λ _. 1)) (every_part (λ _. 1)) (take i entries) (hit_le b (λ _. 1)), n, k, length-take i entries))

-- one more entry of a reading
pub hits_more : (b : Bound) (entries : List Entry) (i : ℕ) (s : Sums) (e : Entry) → i < length entries → ((d : Entry) → e ≡ get_or entries i d) →
    AreSums s (λ part. sum_by (hit_part b part) (take i entries) + hit_part b part e) → AreSums s (λ part. sum_by (hit_part b part) (take (i + 1) entries))
hits_more b entries i s e lt is h = same_total h (λ part. subst (λ (z : Entry). sum_by (hit_part b part) (take i entries) + hit_part b part z ≡ sum_by (hit_part b part) (take (i + 1) entries)) (sym (is e)) (sym (sum_by_more (hit_part b part) entries i e lt)))

-- where a key covers the entries, those that stand in the bound's order all pass
covered : (b : Bound) (key : Key) (entries : List Entry) → Covers key entries → is_near b key ≡ true → (part : Move → ℕ) → sum_by (counted_part b part) entries ≡ sum_by (hit_part b part) entries
covered b key entries c n part =
    sum_by_same (counted_part b part) (hit_part b part) entries
    (λ k d lt. both (counts b (get_or entries k d)) (passes b (move_of (get_or entries k d))) (part (move_of (get_or entries k d))) (c.on b n k d lt))
  where
    both : (x y : Bool) (n : ℕ) → (x ≡ true → y ≡ true) → cond x n 0 ≡ cond (x && y) n 0
    both false y n h = refl
    both true y n h = rw (h refl) refl

-- the sums of a mark in the order of a bound
counted_sums : (b : Bound) (mark : Mark) (before after : List Entry) (top : Key) → IsMark mark before after top → AreSums (sums_in b mark) (λ part. sum_by (counted_part b part) before)
counted_sums b mark before after top w =
    let by : (r : Bool) → is_by_rank b ≡ r → AreSums (cond r mark.timely mark.all) (λ part. sum_by (λ e. cond (cond r e.timely true) (part (move_of e)) 0) before) = λ r e.
    elim r as (λ r. AreSums (cond r mark.timely mark.all) (λ part. sum_by (λ e. cond (cond r e.timely true) (part (move_of e)) 0) before)) [ true ↦ w.timely | false ↦ w.all ] in
    by (is_by_rank b) refl

-- the sums of a mark that a bound covers
pub mark_hits : (b : Bound) (mark : Mark) (before after : List Entry) (top : Key) → IsMark mark before after top → is_near b mark.key ≡ true → AreSums (sums_in b mark) (λ part. sum_by (hit_part b part) before)
mark_hits b mark before after top w n = same_total (counted_sums b mark before after top w) (covered b mark.key before w.covers n)

-- where all entries beyond a place fail, those before it give the whole sums
no_hits : (b : Bound) (part : Move → ℕ) (entries : List Entry) → All (λ e. hits b e ≡ false) entries → sum_by (hit_part b part) entries ≡ 0
no_hits b part entries h = sum_by_none (hit_part b part) entries (λ k d lt. rw (h k d lt) refl)

pub rest_fails : (b : Bound) (entries : List Entry) (n : ℕ) (s : Sums) → All (λ e. hits b e ≡ false) (drop n entries) → AreSums s (λ part. sum_by (hit_part b part) (take n entries)) → AreSums s (λ part. sum_by (hit_part b part) entries)
rest_fails b entries n s h w = same_total w (λ part. omega (arith, no_hits b part (drop n entries) h, sum_by-take-drop (hit_part b part) entries n))

-- the sums before the mark where a search ended
pub start_hits : (b : Bound) (entries : List Entry) (marks : List Mark) (end : Mark) (place : ℕ) (s : Sums) → IsMarked entries marks end → IsCutAt b marks place →
    (place ≡ 0 → s ≡ record { input = 0; output = 0; count = 0 }) → ((d : Mark) → 0 < place → s ≡ sums_in b (get_or marks (place - 1) d)) →
    AreSums s (λ part. sum_by (hit_part b part) (take (place * 16) entries))
start_hits b entries marks end place s w cut none some =
    elim (cases_eq place 0) [
      | inl e ↦ rw (none e, e) (record { input = refl; output = refl; count = refl })
      | inr ne ↦
          (let k : (place - 1 + 1) * 16 ≡ place * 16 = omega arith in
          let m : IsMark (get_or marks (place - 1) end) (take (place * 16) entries) (drop (place * 16) entries) end.key = rw k at (w.each (place - 1) end (omega (arith, cut.within))) in
          rw (some end (omega arith)) (mark_hits b (get_or marks (place - 1) end) _ _ _ m (cut.before (place - 1) end (omega arith))))
    ]

-- the entries of one stride from there on decide the sums of all
pub stride_hits : (b : Bound) (entries : List Entry) (marks : List Mark) (end : Mark) (place to : ℕ) (s : Sums) → IsMarked entries marks end → IsCutAt b marks place →
    to ≡ place * 16 + min (length entries - place * 16) 16 →
    AreSums s (λ part. sum_by (hit_part b part) (take to entries)) → AreSums s (λ part. sum_by (hit_part b part) entries)
stride_hits b entries marks end place to s w cut is h =
    elim (cases_lt place (length marks)) [
      | inl lt ↦
          (let k : to ≡ (place + 1) * 16 = omega (arith, w.few) in
          rest_fails b entries to s (rw k ((w.each place end lt).precedes.on b (cut.after place end (omega arith) lt))) h)
      | inr le ↦
          (let k : length entries ≤ to = omega (arith, w.enough, w.few, cut.within) in
          let all : take to entries ≡ entries = take_all to entries k in
          rw all at h)
    ]

-- the middle mark is on the near side: the search goes on beyond it
pub searching_near : (b : Bound) (marks : List Mark) (low size before now next : ℕ) (mark : Mark) → IsSearching b marks low size before now → 0 < size → next ≡ now + 1 →
    ((i j : ℕ) (d : Mark) → i ≤ j → j < length marks → IsUpTo (get_or marks i d).key (get_or marks j d).key) →
    ((d : Mark) → mark ≡ get_or marks (low + size / 2) d) → is_near b mark.key ≡ true →
    IsSearching b marks (low + (size / 2 + 1)) (size - (size / 2 + 1)) before next
searching_near b marks low size before now next mark s some e up is near =
    let mid : size / 2 < size = omega arith in
    let left : 2 * (size - (size / 2 + 1)) ≤ size = omega arith in
    let n : next - before ≡ now - before + 1 = omega (arith, s.later) in
    record {
      within = omega (arith, s.within);
      near = λ k d lt. (up k (low + size / 2) d (omega arith) (omega (arith, s.within))).on b (subst (λ (z : Mark). is_near b z.key ≡ true) (is d) near);
      far = λ k d le lt. s.far k d (omega arith) lt;
      later = omega (arith, s.later);
      cost = rw n (searched_step (now - before) size (length marks) (size - (size / 2 + 1)) s.cost some left);
    }

-- it isn't: the search goes on before it
pub searching_far : (b : Bound) (marks : List Mark) (low size before now next : ℕ) (mark : Mark) → IsSearching b marks low size before now → 0 < size → next ≡ now + 1 →
    ((i j : ℕ) (d : Mark) → i ≤ j → j < length marks → IsUpTo (get_or marks i d).key (get_or marks j d).key) →
    ((d : Mark) → mark ≡ get_or marks (low + size / 2) d) → is_near b mark.key ≡ false →
    IsSearching b marks low (size / 2) before next
searching_far b marks low size before now next mark s some e up is far =
    let n : next - before ≡ now - before + 1 = omega (arith, s.later) in
    record {
      within = omega (arith, s.within);
      near = s.near;
      far = λ k d le lt.
          (let at : is_near b (get_or marks (low + size / 2) d).key ≡ false = subst (λ (z : Mark). is_near b z.key ≡ false) (is d) far in
          let u = up (low + size / 2) k d le lt in
          elim (true_or_false (is_near b (get_or marks k d).key)) [
            | inl t ↦ absurd (false≢true (sym at ∙ u.on b t))
            | inr f ↦ f
          ]);
      later = omega (arith, s.later);
      cost = rw n (searched_step (now - before) size (length marks) (size / 2) s.cost some (omega arith));
    }

-- at the end of a search the marks bound its steps
pub search_cost : (b : Bound) (marks : List Mark) (low size before now : ℕ) → IsSearching b marks low size before now → (n : ℕ) → length marks * 2 + 1 ≤ 2 ^ n → now ≤ before + n
search_cost b marks low size before now s n le =
    let k : 2 ^ (now - before) ≤ 2 * length marks + 1 = s.cost.cost in
    omega (arith, s.later, searched_in (now - before) (2 * length marks + 1) n k (omega arith))

-- the entries with one more move are bounded where their amounts are, since a run counts its records
pub bounded_from : (entries : List Entry) (spare : ℕ) (m : Move) → sum_by (every_part amount_in) entries + amount_in m < 2 ^ 127 → sum_by (every_part amount_out) entries + amount_out m < 2 ^ 127 →
    length entries + spare < 2 ^ 64 → 0 < spare → IsBounded (λ part. sum_by (every_part part) entries + part m)
bounded_from entries spare m input output room some = record {
  input = input;
  output = output;
  count = (let n : sum_by (every_part (λ _. 1)) entries ≡ length entries = sum_by_ones entries in omega arith);
}

-- sums of entries that pass are within the limits
pub hits_bounded : (b : Bound) (entries : List Entry) → IsBounded (λ part. sum_by (every_part part) entries) → IsBounded (λ part. sum_by (hit_part b part) entries)
hits_bounded b entries w = bounded_below w (λ part. sum_by-le-sum_by (hit_part b part) (every_part part) entries (hit_le b part))

-- those that pass a bound of ranks are timely
pub hits_timely : (b : Bound) (part : Move → ℕ) (entries : List Entry) → is_by_rank b ≡ true → sum_by (hit_part b part) entries ≤ sum_by (timely_part part) entries
hits_timely b part entries r =
    sum_by-le-sum_by (hit_part b part) (timely_part part) entries (λ e. rw r (both e.timely (passes b (move_of e)) (part (move_of e))))
  where
    both : (x y : Bool) (n : ℕ) → cond (x && y) n 0 ≤ cond x n 0
    both true y n = cond_le y n
    both false y n = omega arith

-- a move that comes last in the order of ranks isn't before the greatest rank
pub last_in_rank : (entries : List Entry) (marks : List Mark) (end : Mark) (m : Move) → IsMarked entries marks end → 0 < length entries → IsLastInRank (map move_of entries) m → is_near (RankBefore end.key.date end.key.id) (key_of m) ≡ false
last_in_rank entries marks end m w some h =
    let r = w.reached (entry_of m true) some in
    let lt : r.0 < length (map move_of entries) = omega (arith, r.1, length-map entries move_of) in
    let e : get_or (map move_of entries) r.0 m ≡ move_of (get_or entries r.0 (entry_of m true)) = get_or-map move_of entries r.0 (entry_of m true) m r.1 in
    let k : is_ranked_before (get_or entries r.0 (entry_of m true)).effective (get_or entries r.0 (entry_of m true)).transaction m ≡ false =
    subst (λ (x : Move). is_ranked_before x.effective x.transaction m ≡ false) e (h r.0 m lt) in
    rw (r.2, r.3) at k
