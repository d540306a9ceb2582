-- The date that lies so many days after 0001-01-01 is the one with that day number.
use Rattle.std.proofs.Common.{◌≡◌, ℕ, zero, suc, ◌+◌, ◌≤◌, ◌<◌, true, false, cond, nat_lt, refl, inl, inr, arith, pos, ◌+ℤ◌}
use Rattle.std.specs.Int.{IsInRange}
use Rattle.std.proofs.lemmas.Bool.{cases_order}
use Rattle.std.proofs.lemmas.Bool.Decides.{nat_tests}
use Rattle.jiff_core.specs.Calendar.{days_from_civil, days_in_month, IsCivilDate}
use Rattle.jiff_core.specs.Date.{epoch_day}
use Rattle.jiff_core.specs.declared.civil.date.Date.{Date}
use Rattle.jiff_core.proofs.SignedLemmas.{signed_arith}
use Rattle.jiff_core.proofs.MarchLemmas.{day_count-early}
use Rattle.jiff_core.proofs.CalendarLemmas.{days_from_civil-day_count, day_count-lt_year}
use Rattle.jiff_core.proofs.DateLemmas.{days_from_civil-day, days_from_civil-next_month, days_from_civil-next_year, days_from_civil-max, epoch_day_injective}
use Rattle.lg_time.specs.Canonical.{CalendarDate, next_date, date_after}

-- a date of the year 1 or later, with its days from 0001-01-01
pub record IsDayAt (n : ℕ) (d : CalendarDate) : Type 0 where
  pub year_in : 1 ≤ d.year
  pub month_in : IsInRange 1 12 d.month
  pub day_in : IsInRange 1 (days_in_month (pos d.year) d.month) d.day
  pub counted : days_from_civil (pos d.year) d.month d.day +ℤ pos 719_162 ≡ pos n

pub first_day : days_from_civil (pos 1) 1 1 +ℤ pos 719_162 ≡ pos 0
first_day =
    let e = day_count-early (pos 1) 10000 1 1 refl (omega arith) (omega arith) (omega arith) in
    omega (arith, signed_arith, e, days_from_civil-day_count (pos 1) 1 1)

next_day : (n : ℕ) (d : CalendarDate) → IsDayAt n d → d.day < days_in_month (pos d.year) d.month → IsDayAt (suc n) (record d { day = d.day + 1 })
next_day n d h small =
    record {
      year_in = h.year_in;
      month_in = h.month_in;
      day_in = (omega arith, omega arith);
      counted = omega (arith, signed_arith, h.counted, days_from_civil-day (pos d.year) d.month d.day (d.day + 1) h.day_in.0 (omega arith));
    }

next_month : (n : ℕ) (d : CalendarDate) → IsDayAt n d → days_in_month (pos d.year) d.month ≤ d.day → d.month < 12 → IsDayAt (suc n) (record { year = d.year; month = d.month + 1; day = 1 })
next_month n d h last small =
    record {
      year_in = h.year_in;
      month_in = (omega arith, omega arith);
      day_in = (omega arith, grind arith);
      counted = omega (arith, signed_arith, h.counted, days_from_civil-next_month (pos d.year) d.month d.day h.month_in.0 (omega arith));
    }

next_year : (n : ℕ) (d : CalendarDate) → IsDayAt n d → days_in_month (pos d.year) d.month ≤ d.day → 12 ≤ d.month → IsDayAt (suc n) (record { year = d.year + 1; month = 1; day = 1 })
next_year n d h last late =
    let twelve : d.month ≡ 12 = omega arith in
    let long = rw twelve at last in
    let in_month = rw twelve at h.day_in in
    let end : d.day ≡ 31 = omega arith in
    let counted = rw (twelve, end) at h.counted in
    record {
      year_in = omega arith;
      month_in = (omega arith, omega arith);
      day_in = (omega arith, omega arith);
      counted = omega (arith, signed_arith, counted, days_from_civil-next_year (pos d.year) (pos (d.year + 1)) (omega (arith, signed_arith)) refl);
    }

next_is : (n : ℕ) (d : CalendarDate) → IsDayAt n d → IsDayAt (suc n) (next_date d)
next_is n d h =
    elim (nat_lt d.day (days_in_month (pos d.year) d.month)) as (λ b. nat_lt d.day (days_in_month (pos d.year) d.month) ≡ b → IsDayAt (suc n) (cond b (record d { day = d.day + 1 }) (cond (nat_lt d.month 12) (record { year = d.year; month = d.month + 1; day = 1 }) (record { year = d.year + 1; month = 1; day = 1 })))) [
      | true ↦ λ e. next_day n d h (grind (arith, nat_tests, e))
      | false ↦ λ e. elim (nat_lt d.month 12) as (λ b. nat_lt d.month 12 ≡ b → IsDayAt (suc n) (cond b (record { year = d.year; month = d.month + 1; day = 1 }) (record { year = d.year + 1; month = 1; day = 1 }))) [
        | true ↦ λ f. next_month n d h (grind (arith, nat_tests, e)) (grind (arith, nat_tests, f))
        | false ↦ λ f. next_year n d h (grind (arith, nat_tests, e)) (grind (arith, nat_tests, f))
      ] refl
    ] refl

pub date_after_is : (n : ℕ) → IsDayAt n (date_after n)
unfolding date_after
date_after_is zero = record { year_in = omega arith; month_in = (omega arith, omega arith); day_in = (omega arith, omega arith); counted = first_day }
date_after_is (suc n) = next_is n (date_after n) (date_after_is n)

last_date : IsCivilDate (pos 9999) 12 31
last_date = ((omega (arith, signed_arith), omega (arith, signed_arith)), (omega arith, omega arith), (omega arith, omega arith))

-- up to 9999-12-31 the years are those of the library
pub date_after-year : (n : ℕ) → n ≤ 3_652_058 → (date_after n).year ≤ 9999
date_after-year n low =
    let h = date_after_is n in
    let d = date_after n in
    elim (cases_order d.year 9999) [
      | inl e ↦ omega arith
      | inr (inl lt) ↦ omega arith
      | inr (inr gt) ↦ absurd (omega (arith, signed_arith, h.counted, days_from_civil-max, days_from_civil-day_count (pos d.year) d.month d.day, days_from_civil-day_count (pos 9999) 12 31, day_count-lt_year (pos 9999) 12 31 (pos d.year) d.month d.day last_date h.day_in.0 (omega (arith, signed_arith))))
    ]

-- the date of the library with that day number
pub date_is_after : (d : Date) (n : ℕ) → n ≤ 3_652_058 → epoch_day d +ℤ pos 4_371_587 ≡ pos (n + 3_652_425) → (d.year ≡ pos (date_after n).year) × (d.month ≡ (date_after n).month) × (d.day ≡ (date_after n).day)
date_is_after d n low e =
    let h = date_after_is n in
    let small = date_after-year n low in
    let made : Date = record {
      year = pos (date_after n).year;
      month = (date_after n).month;
      day = (date_after n).day;
      year_in = (omega (arith, signed_arith), omega (arith, signed_arith));
      month_in = h.month_in;
      day_in = h.day_in;
    } in
    epoch_day_injective d made (omega (arith, signed_arith, h.counted))
