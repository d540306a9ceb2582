-- The texts of numbers, dates and clock times: RFC 3339, section 5.6.
use Rattle.std.specs.Prelude.{ℕ, ◌+◌, ◌-◌, ◌*◌, ◌/◌, ◌%◌, List, [], ◌∷◌, ◌++◌, fold, pos}
use Rattle.std.specs.Int.{IsInRange}
use Rattle.jiff_core.specs.Calendar.{days_in_month}

-- a number below 100 as two decimal digits
abbrev pub two_digits : ℕ → List ℕ
two_digits n = (48 + n / 10) ∷ (48 + n % 10) ∷ []

-- a number below 10000 as four decimal digits
abbrev pub four_digits : ℕ → List ℕ
four_digits n = two_digits (n / 100) ++ two_digits (n % 100)

-- a number below 1000000 as six decimal digits
abbrev pub six_digits : ℕ → List ℕ
six_digits n = two_digits (n / 10000) ++ four_digits (n % 10000)

-- the number that a text of decimal digits stands for
abbrev pub decimal : List ℕ → ℕ
decimal digits = fold (λ n digit. 10 * n + (digit - 48)) 0 digits

-- the Gregorian calendar has this date, and its year is one of 0001 to 9999
pub record IsCalendarDate (year month day : ℕ) : Type 0 where
  pub year_in : IsInRange 1 9999 year
  pub month_in : IsInRange 1 12 month
  pub day_in : IsInRange 1 (days_in_month (pos year) month) day

-- `YYYY-MM-DD`
abbrev pub date_text : ℕ → ℕ → ℕ → List ℕ
date_text year month day = four_digits year ++ 45 ∷ (two_digits month ++ 45 ∷ two_digits day)

-- `hh:mm`
abbrev pub hour_text : ℕ → ℕ → List ℕ
hour_text hour minute = two_digits hour ++ 58 ∷ two_digits minute

-- `hh:mm:ss`
abbrev pub clock_text : ℕ → ℕ → ℕ → List ℕ
clock_text hour minute second = hour_text hour minute ++ 58 ∷ two_digits second
