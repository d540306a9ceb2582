-- The canonical text, and that it stands for its moment.
use Rattle.std.proofs.Common.{◌≡◌, ◌≢◌, ℕ, zero, suc, ◌+◌, ◌-◌, ◌*◌, ◌/◌, ◌%◌, ◌≤◌, ◌<◌, true, false, ◌==◌, ◌&&◌, cond, List, [], ◌∷◌, ◌++◌, length, take, get_or, slice_index, nat_le, All, inl, refl, sym, ap, ◌∙◌, arith, ℤ, pos, ◌+ℤ◌, unsigned_abs}
use Rattle.std.specs.List.{list_all}
use Rattle.std.proofs.lemmas.Bool.Decides.{nat_tests}
use Rattle.std.proofs.Math.Seq.{take-suc, take-append-add}
use Rattle.std.proofs.lemmas.List.{take_more_set, take-append-le, length-append, append_assoc}
use Rattle.std.proofs.Math.ListN.{set}
use Rattle.std.proofs.lemmas.List.Elements.{All-cons, All-nil}
use Rattle.std.specs.Char.{IsAsciiDigit}
use Rattle.jiff_core.specs.Calendar.{days_from_civil}
use Rattle.jiff_core.proofs.SignedLemmas.{signed_arith, unsigned_abs-parts, one_part}
use Rattle.lg_time.specs.Texts.{two_digits, four_digits, six_digits}
use Rattle.lg_time.specs.Moment.{IsMoment, IsInMoments, IsDate, IsTime, IsEnd, IsFraction, rounded}
use Rattle.lg_time.specs.Moment.IsFraction.{absent, given}
use Rattle.lg_time.specs.Moment.IsZone.{utc}
use Rattle.lg_time.specs.Canonical.{date_after, text_of_date, text_of_seconds, text_of_fraction, text_after, moment_text, without_trailing_zeros}
use Rattle.lg_time.proofs.CalendarLemmas.{date_after_is, date_after-year}
use Rattle.lg_time.proofs.ReadLemmas.{decimal_of_places}

zeros_before_zero : (digits : List ℕ) → list_all (λ x. x == 48) (digits ++ 48 ∷ []) ≡ list_all (λ x. x == 48) digits
zeros_before_zero [] = refl
zeros_before_zero (d ∷ ds) = ap (λ b. (d == 48) && b) (zeros_before_zero ds)

-- a zero at the end is dropped
pub without_zero : (digits : List ℕ) → without_trailing_zeros (digits ++ 48 ∷ []) ≡ without_trailing_zeros digits
without_zero [] = refl
without_zero (d ∷ ds) = rw (zeros_before_zero ds, without_zero ds)

not_zeros : (digits : List ℕ) (x : ℕ) → x ≢ 48 → list_all (λ x. x == 48) (digits ++ x ∷ []) ≡ false
not_zeros [] x h = grind (arith, nat_tests)
not_zeros (d ∷ ds) x h = rw (not_zeros ds x h) (elim (d == 48) as (λ b. (b && false) ≡ false) [ true ↦ refl | false ↦ refl ])

-- another digit at the end is kept, with all before it
pub with_last : (digits : List ℕ) (x : ℕ) → x ≢ 48 → without_trailing_zeros (digits ++ x ∷ []) ≡ digits ++ x ∷ []
with_last [] x h = rw (not_zeros [] x h)
with_last (d ∷ ds) x h = rw (not_zeros (d ∷ ds) x h, with_last ds x h)

-- a step of the count of digits from the end
pub at_zero : (digits : List ℕ) (n : ℕ) → 0 < n → n ≤ length digits → get_or digits (n - 1) 0 ≡ 48 → without_trailing_zeros (take (n - 1) digits) ≡ without_trailing_zeros (take n digits)
at_zero digits zero some long e = absurd (omega arith)
at_zero digits (suc n) some long e =
    let back : suc n - 1 ≡ n = omega arith in
    let last = rw back at e in
    rw back (sym (ap without_trailing_zeros (take-suc digits n 0 long ∙ ap (λ (x : ℕ). take n digits ++ x ∷ []) last) ∙ without_zero (take n digits)))

pub at_other : (digits : List ℕ) (n : ℕ) → 0 < n → n ≤ length digits → get_or digits (n - 1) 0 ≢ 48 → without_trailing_zeros (take n digits) ≡ take n digits
at_other digits zero some long e = absurd (omega arith)
at_other digits (suc n) some long e =
    let back : suc n - 1 ≡ n = omega arith in
    let last = rw back at e in
    let front = take-suc digits n 0 long in
    ap without_trailing_zeros front ∙ with_last (take n digits) _ last ∙ sym front

-- the parts of the text with all six digits
pub whole : (date time fraction d t f : List ℕ) → date ≡ d → time ≡ t → fraction ≡ f → d ++ 84 ∷ (t ++ 46 ∷ (f ++ 90 ∷ [])) ≡ date ++ 84 ∷ (time ++ 46 ∷ (fraction ++ 90 ∷ []))
whole date time fraction d t f p q r = rw (p, q, r)

-- its text up to the digits that count, with the `Z`
pub cut : (date time fraction : List ℕ) (n : ℕ) → length date ≡ 10 → length time ≡ 8 → length fraction ≡ 6 → n ≤ 7 → take (19 + n + 1) (set (date ++ 84 ∷ (time ++ 46 ∷ (fraction ++ 90 ∷ []))) (19 + n) 90) ≡ date ++ 84 ∷ (time ++ (take n (46 ∷ fraction) ++ 90 ∷ []))
cut date time fraction n d t f small =
    let front = date ++ 84 ∷ time in
    let all = date ++ 84 ∷ (time ++ 46 ∷ (fraction ++ 90 ∷ [])) in
    let long : length front ≡ 19 = omega (arith, length-append date (84 ∷ time)) in
    let parts : all ≡ front ++ (46 ∷ (fraction ++ 90 ∷ [])) = sym (append_assoc date (84 ∷ time) (46 ∷ (fraction ++ 90 ∷ []))) in
    let size : length all ≡ 27 = ap length parts ∙ omega (arith, length-append front (46 ∷ (fraction ++ 90 ∷ [])), length-append fraction (90 ∷ [])) in
    let head : take (19 + n) all ≡ front ++ take n (46 ∷ fraction) =
    ap (take (19 + n)) parts ∙ (rw (← long) (take-append-add front (46 ∷ (fraction ++ 90 ∷ [])) n)) ∙ ap (λ (r : List ℕ). front ++ r) (take-append-le n (46 ∷ fraction) (90 ∷ []) (omega arith)) in
    take_more_set all (19 + n) 90 (omega arith) ∙ (rw head (append_assoc front (take n (46 ∷ fraction)) (90 ∷ []) ∙ append_assoc date (84 ∷ time) (take n (46 ∷ fraction) ++ 90 ∷ [])))

-- no digits but zeros
zeros_at : (digits : List ℕ) (k : ℕ) → list_all (λ x. x == 48) digits ≡ true → slice_index digits k - 48 ≡ 0
zeros_at [] k e = refl
zeros_at (d ∷ ds) zero e = grind (arith, nat_tests, e)
zeros_at (d ∷ ds) (suc k) e = zeros_at ds k (grind (arith, nat_tests, e))

-- the digits that are kept are those at their places, and the others are zeros
kept_at : (d : ℕ) (ds : List ℕ) (k : ℕ) → ((j : ℕ) → slice_index (without_trailing_zeros ds) j - 48 ≡ slice_index ds j - 48) → slice_index (d ∷ without_trailing_zeros ds) k - 48 ≡ slice_index (d ∷ ds) k - 48
kept_at d ds zero h = refl
kept_at d ds (suc k) h = h k

pub digit_kept : (digits : List ℕ) (k : ℕ) → slice_index (without_trailing_zeros digits) k - 48 ≡ slice_index digits k - 48
digit_kept [] k = refl
digit_kept (d ∷ ds) k =
    elim (list_all (λ x. x == 48) (d ∷ ds)) as (λ b. list_all (λ x. x == 48) (d ∷ ds) ≡ b → slice_index (cond b [] (d ∷ without_trailing_zeros ds)) k - 48 ≡ slice_index (d ∷ ds) k - 48) [
      | true ↦ λ e. sym (zeros_at (d ∷ ds) k e)
      | false ↦ λ e. kept_at d ds k (digit_kept ds)
    ] refl

pub All-kept : (P : ℕ → Type 0) (digits : List ℕ) → All P digits → All P (without_trailing_zeros digits)
All-kept P [] h = h
All-kept P (d ∷ ds) h =
    elim (list_all (λ x. x == 48) (d ∷ ds)) as (λ b. All P (cond b [] (d ∷ without_trailing_zeros ds))) [
      | true ↦ λ k e lt. absurd (omega arith)
      | false ↦ All-cons P d (without_trailing_zeros ds) (h 0 d (omega arith)) (All-kept P ds (λ k e lt. h (suc k) e (omega arith)))
    ]

digits_more : (n : ℕ) (rest : List ℕ) → n ≤ 99 → All IsAsciiDigit rest → All IsAsciiDigit (two_digits n ++ rest)
digits_more n rest small h =
    All-cons IsAsciiDigit (48 + n / 10) ((48 + n % 10) ∷ rest) (omega arith, omega arith) (All-cons IsAsciiDigit (48 + n % 10) rest (omega arith, omega arith) h)

six_are_digits : (n : ℕ) → n < 1_000_000 → All IsAsciiDigit (six_digits n)
six_are_digits n small =
    digits_more (n / 10000) (four_digits (n % 10000)) (omega arith)
    (digits_more (n % 10000 / 100) (two_digits (n % 10000 % 100)) (omega arith)
    (digits_more (n % 10000 % 100) [] (omega arith) (All-nil IsAsciiDigit)))

-- six digits without the zeros at the end round to their number
kept_rounded : (n : ℕ) → n < 1_000_000 → n ≡ rounded (without_trailing_zeros (six_digits n))
kept_rounded n small =
    let ds = without_trailing_zeros (six_digits n) in
    let seventh : ◌≡◌ {A = ℕ} (cond (nat_le 53 (slice_index ds 6)) 1 0) 0 = grind (arith, nat_tests, digit_kept (six_digits n) 6) in
    omega (arith, seventh, decimal_of_places ds, digit_kept (six_digits n) 0, digit_kept (six_digits n) 1, digit_kept (six_digits n) 2, digit_kept (six_digits n) 3, digit_kept (six_digits n) 4, digit_kept (six_digits n) 5)

some_kept : (n : ℕ) → n < 1_000_000 → n ≢ 0 → without_trailing_zeros (six_digits n) ≢ []
some_kept n small some e =
    let at : (k : ℕ) → slice_index (six_digits n) k - 48 ≡ 0 = λ k. sym (digit_kept (six_digits n) k) ∙ ap (λ (ds : List ℕ). slice_index ds k - 48) e in
    some (omega (arith, at 0, at 1, at 2, at 3, at 4, at 5))

fraction_is : (n : ℕ) → n < 1_000_000 → IsFraction (text_of_fraction n) n
fraction_is n small =
    elim (n == 0) as (λ b. (n == 0) ≡ b → IsFraction (cond b [] (46 ∷ without_trailing_zeros (six_digits n))) n) [
      | true ↦ λ e. absent refl (grind (arith, nat_tests, e))
      | false ↦ λ e. given _ refl (some_kept n small (grind (arith, nat_tests, e))) (All-kept IsAsciiDigit (six_digits n) (six_are_digits n small)) (kept_rounded n small)
    ] refl

time_is : (n : ℕ) → n < 86_400 → IsTime (84 ∷ text_of_seconds n) n
time_is n small =
    record {
      mark = 84;
      hour = n / 3600;
      minute = n / 60 % 60;
      second = n % 60;
      mark_is = inl refl;
      hour_in = omega arith;
      minute_in = omega arith;
      second_in = omega arith;
      written = refl;
      counted = omega arith;
    }

date_is : (n : ℕ) → n ≤ 3_652_058 → IsDate (text_of_date (date_after n)) (days_from_civil (pos (date_after n).year) (date_after n).month (date_after n).day)
date_is n small =
    let h = date_after_is n in
    record {
      year = (date_after n).year;
      month = (date_after n).month;
      day = (date_after n).day;
      exists = record { year_in = (h.year_in, date_after-year n small); month_in = h.month_in; day_in = h.day_in };
      written = refl;
      counted = refl;
    }

end_is : (n : ℕ) → n < 1_000_000 → IsEnd (text_of_fraction n ++ 90 ∷ []) (pos n)
end_is n small =
    record {
      fraction = text_of_fraction n;
      zone = 90 ∷ [];
      microseconds = n;
      ahead = pos 0;
      parts = refl;
      fraction_is = fraction_is n small;
      zone_is = utc (inl refl) refl;
      value = omega (arith, signed_arith);
    }

text_after_is : (n : ℕ) (moment : ℤ) → n < 315_537_897_600_000_000 → moment +ℤ pos 62_135_596_800_000_000 ≡ pos n → IsMoment (text_after n) moment
unfolding text_after
text_after_is n moment small e =
    let days = n / 86_400_000_000 in
    let low : days ≤ 3_652_058 = omega arith in
    let second : n % 86_400_000_000 / 1_000_000 < 86_400 = omega arith in
    let micro : n % 1_000_000 < 1_000_000 = omega arith in
    let h = date_after_is days in
    let split : n ≡ days * 86_400_000_000 + n % 86_400_000_000 / 1_000_000 * 1_000_000 + n % 1_000_000 = omega arith in
    record {
      date = text_of_date (date_after days);
      time = 84 ∷ text_of_seconds (n % 86_400_000_000 / 1_000_000);
      rest = text_of_fraction (n % 1_000_000) ++ 90 ∷ [];
      number = days_from_civil (pos (date_after days).year) (date_after days).month (date_after days).day;
      seconds = n % 86_400_000_000 / 1_000_000;
      added = pos (n % 1_000_000);
      parts = refl;
      date_is = date_is days low;
      time_is = time_is _ second;
      end_is = end_is _ micro;
      value = omega (arith, signed_arith, h.counted, split);
      in_range = (omega (arith, signed_arith), omega (arith, signed_arith));
    }

-- the canonical text of a moment stands for it
pub moment_text_is : (moment : ℤ) → IsInMoments moment → IsMoment (moment_text moment) moment
moment_text_is moment h =
    let z = moment +ℤ pos 62_135_596_800_000_000 in
    let parts = unsigned_abs-parts z in
    text_after_is (unsigned_abs z) moment (omega (arith, signed_arith, parts, one_part z)) (omega (arith, signed_arith, parts, one_part z))

pub text_of_parts : (n : ℕ) (date time fraction : List ℕ) → date ≡ text_of_date (date_after (n / 86_400_000_000)) → time ≡ text_of_seconds (n % 86_400_000_000 / 1_000_000) → fraction ≡ text_of_fraction (n % 1_000_000) → date ++ 84 ∷ (time ++ (fraction ++ 90 ∷ [])) ≡ text_after n
unfolding text_after
text_of_parts n date time fraction p q r = rw (p, q, r)
