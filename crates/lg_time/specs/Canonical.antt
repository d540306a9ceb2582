-- The one text with which a moment is printed.
use Rattle.std.specs.Prelude.{ℕ, zero, suc, ◌+◌, ◌/◌, ◌%◌, List, [], ◌∷◌, ◌++◌, nat_lt, ◌==◌, if◌then◌else◌, ℤ, pos, ◌+ℤ◌, unsigned_abs}
use Rattle.std.specs.List.{list_all}
use Rattle.jiff_core.specs.Calendar.{days_in_month}
use Rattle.lg_time.specs.Texts.{date_text, clock_text, six_digits}

-- a date of the calendar
pub record CalendarDate : Type 0 where
  pub year : ℕ
  pub month : ℕ
  pub day : ℕ

-- the day after: the next of the month, or the first of the next month or year
abbrev pub next_date : CalendarDate → CalendarDate
next_date d =
    if nat_lt d.day (days_in_month (pos d.year) d.month) then record d { day = d.day + 1 }
    else if nat_lt d.month 12 then record { year = d.year; month = d.month + 1; day = 1 }
    else record { year = d.year + 1; month = 1; day = 1 }

-- the date that lies so many days after 0001-01-01
unfoldable pub date_after : ℕ → CalendarDate
date_after zero = record { year = 1; month = 1; day = 1 }
date_after (suc n) = next_date (date_after n)

-- the text of a date
abbrev pub text_of_date : CalendarDate → List ℕ
text_of_date d = date_text d.year d.month d.day

-- `hh:mm:ss` of the seconds since midnight
abbrev pub text_of_seconds : ℕ → List ℕ
text_of_seconds n = clock_text (n / 3600) (n / 60 % 60) (n % 60)

-- digits without the zeros at their end
abbrev pub without_trailing_zeros : List ℕ → List ℕ
without_trailing_zeros [] = []
without_trailing_zeros (d ∷ ds) =
    if list_all (λ x. x == 48) (d ∷ ds) then [] else d ∷ without_trailing_zeros ds

-- nothing where there are no microseconds, else a point with the digits up to the last that is not 0
abbrev pub text_of_fraction : ℕ → List ℕ
text_of_fraction n = if n == 0 then [] else 46 ∷ without_trailing_zeros (six_digits n)

-- the text of the moment that lies so many microseconds after 0001-01-01T00:00:00Z
unfoldable pub text_after : ℕ → List ℕ
text_after n =
    text_of_date (date_after (n / 86_400_000_000))
    ++ 84 ∷ (text_of_seconds (n % 86_400_000_000 / 1_000_000)
    ++ (text_of_fraction (n % 1_000_000) ++ 90 ∷ []))

-- the text of a moment, of those from 0001-01-01T00:00:00Z on
abbrev pub moment_text : ℤ → List ℕ
moment_text moment = text_after (unsigned_abs (moment +ℤ pos 62_135_596_800_000_000))
