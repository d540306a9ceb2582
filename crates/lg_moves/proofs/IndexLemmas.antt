-- What an index keeps when a move is applied, and what its parts say of a reading.
use Rattle.std.proofs.Common.{◌≡◌, ℕ, ◌+◌, ◌*◌, ◌/◌, ◌^◌, ◌<◌, ◌≤◌, Bool, true, false, ◌&&◌, cond, List, [], ◌∷◌, ◌++◌, map, length, refl, ap, arith, sym, inl, inr, ◌∙◌}
use Rattle.std.specs.List.{sum_by}
use Rattle.std.proofs.lemmas.List.{map_push, length-map, length_push}
use Rattle.std.proofs.lemmas.List.Folds.{fold-map}
use Rattle.std.proofs.lemmas.List.Sums.{sum_by_push}
use Rattle.lg_base.specs.Volumes.{IsWithinLimit}
use Rattle.lg_runs.specs.Runs.{Kept}
use Rattle.lg_types.specs.declared.moves.Move.{Move}
use Rattle.lg_moves.specs.declared.sums.Sums.{Sums}
use Rattle.lg_moves.specs.declared.entries.Entry.{Entry}
use Rattle.lg_moves.specs.declared.bounds.Bound.{Bound}
use Rattle.lg_types.specs.Tally.{amount_in, amount_out, if_passing, total_of}
use Rattle.lg_moves.specs.Sums.{AreSums, IsBounded}
use Rattle.lg_moves.specs.Bounds.{is_by_rank, passes}
use Rattle.lg_moves.specs.Entries.{move_of, entry_of, every_part, timely_part, hit_part}
use Rattle.lg_moves.specs.Index.{IsDivided}
use Rattle.lg_moves.proofs.LineLemmas.{hits_timely}
use Rattle.lg_moves.proofs.SumLemmas.{true_or_false, sum_by_alike, same_total, bounded_below, sum_by_ones}

-- a sum over the moves of the entries
pub moved : (part : Move → ℕ) (entries : List Entry) → sum_by part (map move_of entries) ≡ sum_by (every_part part) entries
moved part entries = fold-map (λ a m. a + part m) move_of 0 entries

-- the limit of all moves with one more, in terms of the entries
pub limit_input : (entries : List Entry) (m : Move) → IsWithinLimit (total_of (map move_of entries ++ m ∷ [])) → sum_by (every_part amount_in) entries + amount_in m < 2 ^ 127
limit_input entries m h = omega (arith, h.input, sum_by_push amount_in (map move_of entries) m, moved amount_in entries)

pub limit_output : (entries : List Entry) (m : Move) → IsWithinLimit (total_of (map move_of entries ++ m ∷ [])) → sum_by (every_part amount_out) entries + amount_out m < 2 ^ 127
limit_output entries m h = omega (arith, h.output, sum_by_push amount_out (map move_of entries) m, moved amount_out entries)

-- the late moves with one more
pub late_bounded : (line new : Kept Entry) (late : Kept Move) (m : Move) (timely : Bool) → IsDivided line late → new.items ≡ line.items ++ entry_of m timely ∷ [] →
    IsBounded (λ part. sum_by (every_part part) new.items) → IsBounded (λ part. sum_by part late.items + part m)
late_bounded line new late m timely w is b =
    bounded_below (rw is at b) (λ part. omega (arith, sum_by_push (every_part part) line.items (entry_of m timely), w.sums part))

-- an index after one more move
pub divided_push : (line new : Kept Entry) (late more : Kept Move) (m : Move) (timely : Bool) → IsDivided line late → new.items ≡ line.items ++ entry_of m timely ∷ [] → new.spare + 1 ≡ line.spare →
    IsBounded (λ part. sum_by (every_part part) new.items) → ((part : Move → ℕ) → sum_by part more.items ≡ sum_by part late.items + cond timely 0 (part m)) → late.spare ≤ more.spare + 1 → IsDivided new more
divided_push line new late more m timely w is spare b late_is room = record {
  sums = λ part. rw is (step part timely (sum_by_push (every_part part) line.items (entry_of m timely)) (sum_by_push (timely_part part) line.items (entry_of m timely)) (late_is part));
  spare = omega (arith, w.spare);
  bounded = b;
}
  where
    step : (part : Move → ℕ) (t : Bool) → sum_by (every_part part) (line.items ++ entry_of m t ∷ []) ≡ sum_by (every_part part) line.items + part m →
        sum_by (timely_part part) (line.items ++ entry_of m t ∷ []) ≡ sum_by (timely_part part) line.items + cond t (part m) 0 →
        sum_by part more.items ≡ sum_by part late.items + cond t 0 (part m) →
        sum_by (every_part part) (line.items ++ entry_of m t ∷ []) ≡ sum_by (timely_part part) (line.items ++ entry_of m t ∷ []) + sum_by part more.items
    step part true e t l = omega (arith, w.sums part)
    step part false e t l = omega (arith, w.sums part)

pub moved_push : (entries : List Entry) (m : Move) (timely : Bool) (new : List Entry) → new ≡ entries ++ entry_of m timely ∷ [] → map move_of new ≡ map move_of entries ++ m ∷ []
moved_push entries m timely new is = rw is (map_push move_of entries (entry_of m timely))

-- by insertion the line alone decides a reading
pub reading_inserted : (b : Bound) (line : List Entry) (s : Sums) → is_by_rank b ≡ false → AreSums s (λ part. sum_by (hit_part b part) line) → AreSums s (λ part. sum_by (if_passing (passes b) part) (map move_of line))
reading_inserted b line s e h =
    same_total h (λ part. sum_by_alike (hit_part b part) (every_part (if_passing (passes b) part)) line (λ x. rw e refl) ∙ sym (moved (if_passing (passes b) part) line))

-- by rank the timely entries and the late moves do
pub reading_ranked : (b : Bound) (line : Kept Entry) (late : Kept Move) (s : Sums) → is_by_rank b ≡ true → IsDivided line late →
    AreSums s (λ part. sum_by (hit_part b part) line.items + sum_by (if_passing (passes b) part) late.items) → AreSums s (λ part. sum_by (if_passing (passes b) part) (map move_of line.items))
reading_ranked b line late s e w h =
    same_total h
    (λ part. omega (
      arith,
      moved (if_passing (passes b) part) line.items,
      w.sums (if_passing (passes b) part),
      sum_by_alike (hit_part b part) (timely_part (if_passing (passes b) part)) line.items (λ x. rw e (both x.timely (passes b (move_of x)) (part (move_of x)))),
    ))
  where
    both : (x y : Bool) (n : ℕ) → cond (x && y) n 0 ≡ cond x (cond y n 0) 0
    both true y n = refl
    both false y n = refl

-- all moves are bounded where the entries are
pub moved_bounded : (line : Kept Entry) (late : Kept Move) → IsDivided line late → IsBounded (λ part. sum_by part (map move_of line.items))
moved_bounded line late w = bounded_below w.bounded (λ part. omega (arith, moved part line.items))

-- how many entries and late moves pass a bound of ranks can be counted
pub count_room : (b : Bound) (line : Kept Entry) (late : Kept Move) (s : Sums) → is_by_rank b ≡ true → IsDivided line late → AreSums s (λ part. sum_by (hit_part b part) line.items) → s.count + length late.items < 2 ^ 64
count_room b line late s r w h =
    let n : sum_by (λ (_ : Move). 1) late.items ≡ length late.items = sum_by_ones late.items in
    omega (arith, h.count, hits_timely b (λ _. 1) line.items r, w.sums (λ _. 1), w.bounded.count, n)

-- a reading from the sums of the line, and those with the late moves
pub reading : (b : Bound) (line : Kept Entry) (late : Kept Move) (s r : Sums) → IsDivided line late → AreSums s (λ part. sum_by (hit_part b part) line.items) →
    (is_by_rank b ≡ true → (total : (Move → ℕ) → ℕ) → AreSums s total → AreSums r (λ part. total part + sum_by (if_passing (passes b) part) late.items)) → (is_by_rank b ≡ false → r ≡ s) →
    AreSums r (λ part. sum_by (if_passing (passes b) part) (map move_of line.items))
reading b line late s r w h ranked other =
    elim (true_or_false (is_by_rank b)) [
      | inl t ↦ reading_ranked b line late r t w (ranked t (λ part. sum_by (hit_part b part) line.items) h)
      | inr f ↦ rw (other f) (reading_inserted b line.items s f h)
    ]

-- no more moves are late than there are
pub late_few : (line : Kept Entry) (late : Kept Move) → IsDivided line late → length late.items ≤ length (map move_of line.items)
late_few line late w =
    let n : sum_by (λ (_ : Move). 1) late.items ≡ length late.items = sum_by_ones late.items in
    let k : sum_by (every_part (λ _. 1)) line.items ≡ length line.items = sum_by_ones line.items in
    omega (arith, w.sums (λ _. 1), n, k, length-map line.items move_of)

-- steps of a reading: of the line, and of the late moves
pub reading_cost : (line : Kept Entry) (late : Kept Move) (now mid next : ℕ) → IsDivided line late → ((b : ℕ) → length line.items + 1 ≤ 2 ^ b → mid ≤ now + (b + 17)) → ((b : ℕ) → length late.items + 1 ≤ 2 ^ b → next ≤ mid + (2 * b + 41)) →
    (b : ℕ) → length (map move_of line.items) + 1 ≤ 2 ^ b → next ≤ now + (3 * b + 58)
reading_cost line late now mid next w c d b le =
    let f = late_few line late w in
    let l = length-map line.items move_of in
    let p = c b (omega arith) in
    let q = d b (omega arith) in
    omega arith

-- steps of an application
pub apply_cost : (line : Kept Entry) (late : Kept Move) (now mid next : ℕ) → IsDivided line late → mid ≤ now + 2 → ((b : ℕ) → length late.items + 1 ≤ 2 ^ b → next ≤ mid + (12 * b + 14)) →
    (b : ℕ) → length (map move_of line.items) + 1 ≤ 2 ^ b → next ≤ now + (12 * b + 16)
apply_cost line late now mid next w c d b le =
    let f = late_few line late w in
    let q = d b (omega arith) in
    omega arith

-- they stay below a fixed number, since the number of moves has 64 binary digits at most
pub apply_bound : (line new : Kept Entry) (m : Move) (timely : Bool) (now next : ℕ) → new.items ≡ line.items ++ entry_of m timely ∷ [] → IsBounded (λ part. sum_by (every_part part) new.items) →
    ((b : ℕ) → length (map move_of line.items) + 1 ≤ 2 ^ b → next ≤ now + (12 * b + 16)) → next ≤ now + (length (map move_of line.items) / 32 + 1024)
apply_bound line new m timely now next is bound c =
    let k : sum_by (every_part (λ _. 1)) new.items ≡ length new.items = sum_by_ones new.items in
    let n : length new.items ≡ length line.items + 1 = ap length is ∙ length_push line.items (entry_of m timely) in
    let l = length-map line.items move_of in
    let q = c 64 (omega (arith, bound.count)) in
    omega arith
