-- Readings between two dates, from readings up to a date and before a date.
use Rattle.std.proofs.Common.{◌≡◌, ℕ, ◌+◌, ◌-◌, ◌≤◌, Bool, true, false, not, ◌&&◌, ◌||◌, nat_lt, cond, ℤ, List, [], ◌∷◌, Option, Some, None, zero-add, refl, arith, sym, ◌∙◌}
use Rattle.std.specs.List.{sum_by, list_any}
use Rattle.std.proofs.lemmas.Int.{ints}
use Rattle.std.proofs.lemmas.Bool.{false≢true, lt-ltb}
use Rattle.std.proofs.lemmas.List.Sums.{sum_by-cons, sum_by-le-sum_by}
use Rattle.lg_types.specs.declared.moves.Move.{Move}
use Rattle.lg_moves.specs.declared.sums.Sums.{Sums}
use Rattle.lg_types.specs.Tally.{amount_in, amount_out, if_passing, is_from, is_to, is_between, date_of}
use Rattle.lg_moves.specs.Sums.{AreSums}
use Rattle.lg_moves.specs.Index.{is_before}
use Rattle.lg_moves.proofs.SumLemmas.{sum_by_alike, sum_by_none, sum_by_both, same_total}

-- tests that agree have the same sums
pub passing_alike : (p q : Move → Bool) (ms : List Move) (s : Sums) → ((m : Move) → p m ≡ q m) → AreSums s (λ part. sum_by (if_passing p part) ms) → AreSums s (λ part. sum_by (if_passing q part) ms)
passing_alike p q ms s e h = same_total h (λ part. sum_by_alike (if_passing p part) (if_passing q part) ms (λ m. rw (e m) refl))

-- a test that all moves pass
pub all_passing : (p : Move → Bool) (ms : List Move) (s : Sums) → ((m : Move) → p m ≡ true) → AreSums s (λ part. sum_by part ms) → AreSums s (λ part. sum_by (if_passing p part) ms)
all_passing p ms s e h = same_total h (λ part. sum_by_alike part (if_passing p part) ms (λ m. rw (e m) refl))

-- a test that no move passes
none_passes : (p : Move → Bool) (part : Move → ℕ) (ms : List Move) → ((m : Move) → p m ≡ false) → sum_by (if_passing p part) ms ≡ 0
none_passes p part ms e = sum_by_none (if_passing p part) ms (λ k d lt. rw (e _) refl)

pub no_passing : (p : Move → Bool) (ms : List Move) (s : Sums) → ((m : Move) → p m ≡ false) → s ≡ record { input = 0; output = 0; count = 0 } → AreSums s (λ part. sum_by (if_passing p part) ms)
no_passing p ms s e z = rw z (record { input = sym (none_passes p amount_in ms e); output = sym (none_passes p amount_out ms e); count = sym (none_passes p (λ _. 1) ms e) })

-- moves before the first end are among those up to the second
lower_le : (low high : Move → Bool) (part : Move → ℕ) (ms : List Move) → ((m : Move) → low m ≡ true → high m ≡ true) → sum_by (if_passing low part) ms ≤ sum_by (if_passing high part) ms
lower_le low high part ms h = sum_by-le-sum_by (if_passing low part) (if_passing high part) ms (λ m. within (low m) (high m) (part m) (h m))
  where
    within : (x y : Bool) (n : ℕ) → (x ≡ true → y ≡ true) → cond x n 0 ≤ cond y n 0
    within true y n h = rw (h refl) (omega arith)
    within false y n h = omega arith

pub record LiesWithin (low high : Sums) : Type 0 where
  pub input : low.input ≤ high.input
  pub output : low.output ≤ high.output
  pub count : low.count ≤ high.count

pub lies_within : (low high : Move → Bool) (ms : List Move) (s t : Sums) → ((m : Move) → low m ≡ true → high m ≡ true) →
    AreSums s (λ part. sum_by (if_passing low part) ms) → AreSums t (λ part. sum_by (if_passing high part) ms) → LiesWithin s t
lies_within low high ms s t h a b = record {
  input = omega (arith, a.input, b.input, lower_le low high amount_in ms h);
  output = omega (arith, a.output, b.output, lower_le low high amount_out ms h);
  count = omega (arith, a.count, b.count, lower_le low high (λ _. 1) ms h);
}

-- a date is before the first end where it isn't from it on
before_or_from : (from : Option ℤ) (date : ℤ) → is_from from date ≡ not (is_before from date)
before_or_from None date = refl
before_or_from (Some first) date = grind (arith, ints)

-- the moves between two dates and those before the first are those up to the second
between_sum : (from to : Option ℤ) (by_insertion : Bool) (part : Move → ℕ) (ms : List Move) → ((date : ℤ) → is_before from date ≡ true → is_to to date ≡ true) →
    sum_by (if_passing (is_between from to by_insertion) part) ms + sum_by (if_passing (λ m. is_before from (date_of by_insertion m)) part) ms ≡ sum_by (if_passing (λ m. is_to to (date_of by_insertion m)) part) ms
between_sum from to by_insertion part ms h =
    sym (sum_by_both (if_passing (is_between from to by_insertion) part) (if_passing (λ m. is_before from (date_of by_insertion m)) part) ms)
    ∙ sum_by_alike (λ m. if_passing (is_between from to by_insertion) part m + if_passing (λ m. is_before from (date_of by_insertion m)) part m) (if_passing (λ m. is_to to (date_of by_insertion m)) part) ms
    (λ m. rw (before_or_from from (date_of by_insertion m)) (each (is_to to (date_of by_insertion m)) (is_before from (date_of by_insertion m)) (part m) (h (date_of by_insertion m))))
  where
    each : (t b : Bool) (n : ℕ) → (b ≡ true → t ≡ true) → cond (t && not b) n 0 + cond b n 0 ≡ cond t n 0
    each true true n h = omega arith
    each true false n h = omega arith
    each false true n h = absurd (false≢true (h refl))
    each false false n h = omega arith

pub between_sums : (from to : Option ℤ) (by_insertion : Bool) (ms : List Move) (low high s : Sums) → ((date : ℤ) → is_before from date ≡ true → is_to to date ≡ true) →
    AreSums low (λ part. sum_by (if_passing (λ m. is_before from (date_of by_insertion m)) part) ms) → AreSums high (λ part. sum_by (if_passing (λ m. is_to to (date_of by_insertion m)) part) ms) →
    s ≡ record { input = high.input - low.input; output = high.output - low.output; count = high.count - low.count } →
    AreSums s (λ part. sum_by (if_passing (is_between from to by_insertion) part) ms)
between_sums from to by_insertion ms low high s h a b is = rw is (record {
  input = omega (arith, a.input, b.input, between_sum from to by_insertion amount_in ms h);
  output = omega (arith, a.output, b.output, between_sum from to by_insertion amount_out ms h);
  count = omega (arith, a.count, b.count, between_sum from to by_insertion (λ _. 1) ms h);
})

-- some move passes where the count of those that do is above 0
any_counted : (test : Move → Bool) (ms : List Move) → nat_lt 0 (sum_by (if_passing test (λ _. 1)) ms) ≡ list_any test ms
any_counted test [] = refl
any_counted test (m ∷ ms) =
    rw (sum_by-cons (if_passing test (λ _. 1)) m ms) (each (test m) (sum_by (if_passing test (λ _. 1)) ms) (list_any test ms) (any_counted test ms))
  where
    each : (t : Bool) (n : ℕ) (b : Bool) → nat_lt 0 n ≡ b → nat_lt 0 (cond t 1 0 + n) ≡ (t || b)
    each true n b h = lt-ltb 0 (1 + n) (omega arith)
    each false n b h = rw zero-add h

pub any_of_count : (test : Move → Bool) (ms : List Move) (s : Sums) → AreSums s (λ part. sum_by (if_passing test part) ms) → nat_lt 0 s.count ≡ list_any test ms
any_of_count test ms s h = rw h.count (any_counted test ms)
