-- What a block keeps when a move is put into it, and when it is cut.
use Rattle.std.proofs.Common.{◌≡◌, ℕ, zero, suc, ◌+◌, ◌-◌, ◌==◌, ◌<◌, ◌≤◌, cond, List, [], ◌∷◌, ◌++◌, length, take, drop, get_or, refl, arith, ap, sym, inl, inr, ◌∙◌}
use Rattle.std.specs.List.{sum_by, insert}
use Rattle.std.proofs.lemmas.Bool.{cases_eq, eq-eqb, ne_eqb}
use Rattle.std.proofs.lemmas.List.{get_or-take, get_or-drop, get_or-append_right, take_more, length-take, length-drop}
use Rattle.std.proofs.lemmas.List.Edits.{length-insert}
use Rattle.std.proofs.lemmas.List.Sums.{sum_by-insert, sum_by-take-drop}
use Rattle.lg_types.specs.declared.moves.Move.{Move}
use Rattle.lg_moves.specs.declared.sums.Sums.{Sums}
use Rattle.lg_moves.specs.declared.bounds.Key.{Key}
use Rattle.lg_types.specs.Tally.{amount_in, amount_out}
use Rattle.lg_moves.specs.Bounds.{key_of}
use Rattle.lg_moves.specs.Sums.{AreSums, IsBounded, sums_with}
use Rattle.lg_moves.specs.Ranks.{IsBlock}
use Rattle.lg_moves.proofs.SumLemmas.{same_total, with_move, FitsOneMore, fits_one_more, sum_by_ones}

insert_first : (xs : List Move) (i : ℕ) (m : Move) (low : Key) → i ≤ length xs → ((d : Move) → 0 < length xs → low ≡ key_of (get_or xs 0 d)) →
    (d : Move) → cond (i == 0) (key_of m) low ≡ key_of (get_or (insert xs i m) 0 d)
insert_first xs zero m low le h d = refl
insert_first [] (suc i) m low le h d = absurd (omega arith)
insert_first (x ∷ xs) (suc i) m low le h d = rw (ne_eqb (suc i) 0 (λ e. omega arith)) (h d (omega arith))

insert_last : (xs : List Move) (i : ℕ) (m : Move) (high : Key) → i ≤ length xs → ((d : Move) → 0 < length xs → high ≡ key_of (get_or xs (length xs - 1) d)) →
    (d : Move) → cond (i == length xs) (key_of m) high ≡ key_of (get_or (insert xs i m) (length (insert xs i m) - 1) d)
insert_last xs i m high le h d =
    let n : length (insert xs i m) ≡ length xs + 1 = length-insert xs i m le in
    let k : length (insert xs i m) - 1 ≡ length xs = omega arith in
    let t : length (take i xs) ≡ i = omega (arith, length-take i xs) in
    elim (cases_eq i (length xs)) [
      | inl e ↦
          (let at : get_or (insert xs i m) (length xs) d ≡ m =
          get_or-append_right (take i xs) (m ∷ drop i xs) i (length xs) d t le ∙ rw (zero_less i (length xs) e) refl in
          rw (k, eq-eqb i (length xs) e, at) refl)
      | inr ne ↦
          (let at : get_or (insert xs i m) (length xs) d ≡ get_or xs (length xs - 1) d =
          get_or-append_right (take i xs) (m ∷ drop i xs) i (length xs) d t le
          ∙ further i (length xs) (length xs - i - 1) (suc_less i (length xs) (omega arith)) in
          rw (k, ne_eqb i (length xs) ne, at) (h d (omega arith)))
    ]
  where
    zero_less : (i n : ℕ) → i ≡ n → n - i ≡ zero
    zero_less i n e = omega arith

    suc_less : (i n : ℕ) → i < n → n - i ≡ suc (n - i - 1)
    suc_less i n lt = omega arith

    further : (i n k : ℕ) → n - i ≡ suc k → get_or (m ∷ drop i xs) (n - i) d ≡ get_or xs (n - 1) d
    further i n k e =
        let j : i + k ≡ n - 1 = omega arith in
        rw e (get_or-drop i xs k d ∙ ap (λ (z : ℕ). get_or xs z d) j)

-- a block with one more move
pub block_insert : (xs new : List Move) (i : ℕ) (m : Move) (low high : Key) (s : Sums) → IsBlock xs low high s → i ≤ length xs → new ≡ insert xs i m →
    IsBlock new (cond (i == 0) (key_of m) low) (cond (i == length xs) (key_of m) high) (sums_with s m)
block_insert xs new i m low high s w le is = rw is (record {
  first = λ d some. insert_first xs i m low le w.first d;
  last = λ d some. insert_last xs i m high le w.last d;
  sums = same_total (with_move w.sums m) (λ part. sym (sum_by-insert part xs i m));
})

-- sums of a block have room for one more move where those of the block with it do
pub block_fits : (xs : List Move) (m : Move) (s : Sums) → AreSums s (λ part. sum_by part xs) → IsBounded (λ part. sum_by part xs + part m) → FitsOneMore s
block_fits xs m s h b = fits_one_more h b (λ part. omega arith) (omega arith)

-- the lower half of a full block
pub lower_half : (xs : List Move) (low high : Key) (s t : Sums) (key : Key) (rest : Sums) → IsBlock xs low high s → length xs ≡ 32 → AreSums t (λ part. sum_by part (drop 16 xs)) →
    ((d : Move) → key ≡ key_of (get_or xs 15 d)) → rest ≡ record { input = s.input - t.input; output = s.output - t.output; count = s.count - t.count } → IsBlock (take 16 xs) low key rest
lower_half xs low high s t key rest w n h k is =
    let l : length (take 16 xs) ≡ 16 = omega (arith, length-take 16 xs) in
    record {
      first = λ d some. w.first d (omega arith) ∙ ap key_of (sym (get_or-take 16 xs 0 d (omega arith)));
      last = λ d some. rw l (k d ∙ ap key_of (sym (get_or-take 16 xs 15 d (omega arith))));
      sums = rw is (record {
        input = omega (arith, w.sums.input, h.input, sum_by-take-drop amount_in xs 16);
        output = omega (arith, w.sums.output, h.output, sum_by-take-drop amount_out xs 16);
        count = omega (arith, w.sums.count, h.count, sum_by-take-drop (λ _. 1) xs 16);
      });
    }

-- the upper half
pub upper_half : (xs new : List Move) (low high : Key) (s t : Sums) (key : Key) → IsBlock xs low high s → length xs ≡ 32 → new ≡ drop 16 xs → AreSums t (λ part. sum_by part (drop 16 xs)) →
    ((d : Move) → key ≡ key_of (get_or xs 16 d)) → IsBlock new key high t
upper_half xs new low high s t key w n is h k =
    let l : length (drop 16 xs) ≡ 16 = omega (arith, length-drop 16 xs) in
    rw is (record {
      first = λ d some. k d ∙ ap key_of (sym (get_or-drop 16 xs 0 d));
      last = λ d some.
          (let e : get_or (drop 16 xs) (length (drop 16 xs) - 1) d ≡ get_or xs (length xs - 1) d = rw (l, n) (get_or-drop 16 xs 15 d) in
          w.last d (omega arith) ∙ ap key_of (sym e));
      sums = h;
    })

pub record LiesWithinAll (low high : Sums) : Type 0 where
  pub input : low.input ≤ high.input
  pub output : low.output ≤ high.output
  pub count : low.count ≤ high.count

pub half_within : (xs : List Move) (s t : Sums) → AreSums s (λ part. sum_by part xs) → AreSums t (λ part. sum_by part (drop 16 xs)) → LiesWithinAll t s
half_within xs s t a b = record {
  input = omega (arith, a.input, b.input, sum_by-take-drop amount_in xs 16);
  output = omega (arith, a.output, b.output, sum_by-take-drop amount_out xs 16);
  count = omega (arith, a.count, b.count, sum_by-take-drop (λ _. 1) xs 16);
}

-- one more move of the upper half
pub upper_fits : (xs into : List Move) (i : ℕ) (s : Sums) → length xs ≡ 32 → 16 ≤ i → i < 32 → into ≡ take (i - 16) (drop 16 xs) → AreSums s (λ part. sum_by part into) → IsBounded (λ part. sum_by part xs) → FitsOneMore s
upper_fits xs into i s n lo hi is h b =
    let l : length (drop 16 xs) ≡ 16 = omega (arith, length-drop 16 xs) in
    let f : (part : Move → ℕ) → sum_by part (take (i - 16) (drop 16 xs)) ≤ sum_by part xs = λ part. omega (arith, sum_by-take-drop part (drop 16 xs) (i - 16), sum_by-take-drop part xs 16) in
    let c : sum_by (λ (_ : Move). 1) xs ≡ length xs = sum_by_ones xs in
    let k : sum_by (λ (_ : Move). 1) (take (i - 16) (drop 16 xs)) ≡ length (take (i - 16) (drop 16 xs)) = sum_by_ones (take (i - 16) (drop 16 xs)) in
    fits_one_more (rw is at h) b f (omega (arith, length-take (i - 16) (drop 16 xs)))

pub upper_more : (xs into new : List Move) (i : ℕ) (m : Move) → length xs ≡ 32 → 16 ≤ i → i < 32 → into ≡ take (i - 16) (drop 16 xs) → ((d : Move) → m ≡ get_or xs i d) → new ≡ into ++ m ∷ [] →
    new ≡ take (i + 1 - 16) (drop 16 xs)
upper_more xs into new i m n lo hi is at new_is =
    let l : length (drop 16 xs) ≡ 16 = omega (arith, length-drop 16 xs) in
    let lt : i - 16 < length (drop 16 xs) = omega arith in
    let e : get_or (drop 16 xs) (i - 16) m ≡ m = get_or-drop 16 xs (i - 16) m ∙ (ap (λ z. get_or xs z m) (omega arith) ∙ sym (at m)) in
    let k : i + 1 - 16 ≡ i - 16 + 1 = omega arith in
    new_is ∙ (ap (λ z. z ++ m ∷ []) is ∙ rw k (sym (take_more (drop 16 xs) (i - 16) m lt ∙ ap (λ z. take (i - 16) (drop 16 xs) ++ z ∷ []) e)))
