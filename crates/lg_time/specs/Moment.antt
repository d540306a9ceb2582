-- Which text stands for which moment: RFC 3339, section 5.6, for the years 0001 to 9999 and without leap seconds.
-- A moment is the number of microseconds since 1970-01-01T00:00:00Z.
use Rattle.std.specs.Prelude.{◌≡◌, ◌≢◌, ℕ, ◌+◌, ◌*◌, ◌≤◌, ◌⊎◌, List, [], ◌∷◌, ◌++◌, All, take, slice_index, nat_le, replicate, if◌then◌else◌, ℤ, pos, neg_ℤ, ◌+ℤ◌, ◌-ℤ◌, ◌*ℤ◌}
use Rattle.std.specs.Char.{IsAsciiDigit}
use Rattle.jiff_core.specs.Calendar.{days_from_civil, IsBetween}
use Rattle.lg_time.specs.Texts.{IsCalendarDate, date_text, hour_text, clock_text, decimal}

-- a moment from 0001-01-01T00:00:00Z to 9999-12-31T23:59:59.999999Z
abbrev pub IsInMoments : ℤ → Type 0
IsInMoments moment =
    IsBetween (neg_ℤ (pos 62_135_596_800_000_000)) (pos 253_402_300_799_999_999) moment

-- the text of a date, and the number of days from 1970-01-01 to it
pub record IsDate (text : List ℕ) (number : ℤ) : Type 0 where
  pub year : ℕ
  pub month : ℕ
  pub day : ℕ
  pub exists : IsCalendarDate year month day
  pub written : text ≡ date_text year month day
  pub counted : number ≡ days_from_civil (pos year) month day

-- `T` or `t` with the text of a time of day, and the seconds since midnight
pub record IsTime (text : List ℕ) (seconds : ℕ) : Type 0 where
  pub mark : ℕ
  pub hour : ℕ
  pub minute : ℕ
  pub second : ℕ
  pub mark_is : (mark ≡ 84) ⊎ (mark ≡ 116)
  pub hour_in : hour ≤ 23
  pub minute_in : minute ≤ 59
  pub second_in : second ≤ 59
  pub written : text ≡ mark ∷ clock_text hour minute second
  pub counted : seconds ≡ (hour * 60 + minute) * 60 + second

-- the microseconds of a fraction of a second with these digits, rounded to the nearest:
-- the first six digits, and one more where the seventh is 5 or above; absent digits are zeros
abbrev pub rounded : List ℕ → ℕ
rounded digits =
    decimal (take 6 (digits ++ replicate 6 48)) + (if nat_le 53 (slice_index digits 6) then 1 else 0)

-- no fraction, or a point with one or more digits, and the microseconds
pub data IsFraction (text : List ℕ) (microseconds : ℕ) : Type 0 where
  absent : text ≡ [] → microseconds ≡ 0 → IsFraction text microseconds
  given : (digits : List ℕ) → text ≡ 46 ∷ digits → digits ≢ [] → All IsAsciiDigit digits → microseconds ≡ rounded digits → IsFraction text microseconds

-- the hours and minutes of an offset, and the number of minutes
pub record IsOffset (text : List ℕ) (minutes : ℕ) : Type 0 where
  pub hour : ℕ
  pub minute : ℕ
  pub hour_in : hour ≤ 23
  pub minute_in : minute ≤ 59
  pub written : text ≡ hour_text hour minute
  pub counted : minutes ≡ hour * 60 + minute

-- `Z`, `z` or an offset, and the minutes by which the local time is ahead of UTC
pub data IsZone (text : List ℕ) (ahead : ℤ) : Type 0 where
  utc : (text ≡ 90 ∷ []) ⊎ (text ≡ 122 ∷ []) → ahead ≡ pos 0 → IsZone text ahead
  east : (offset : List ℕ) (minutes : ℕ) → text ≡ 43 ∷ offset → IsOffset offset minutes → ahead ≡ pos minutes → IsZone text ahead
  west : (offset : List ℕ) (minutes : ℕ) → text ≡ 45 ∷ offset → IsOffset offset minutes → ahead ≡ neg_ℤ (pos minutes) → IsZone text ahead

-- a text's last part, from the fraction on, and the microseconds that it adds: those of the fraction less the offset
pub record IsEnd (text : List ℕ) (added : ℤ) : Type 0 where
  pub fraction : List ℕ
  pub zone : List ℕ
  pub microseconds : ℕ
  pub ahead : ℤ
  pub parts : text ≡ fraction ++ zone
  pub fraction_is : IsFraction fraction microseconds
  pub zone_is : IsZone zone ahead
  pub value : added ≡ pos microseconds -ℤ ahead *ℤ pos 60_000_000

-- the text of a moment: a date, a time of day, and a fraction with a zone
pub record IsMoment (text : List ℕ) (moment : ℤ) : Type 0 where
  pub date : List ℕ
  pub time : List ℕ
  pub rest : List ℕ
  pub number : ℤ
  pub seconds : ℕ
  pub added : ℤ
  pub parts : text ≡ date ++ (time ++ rest)
  pub date_is : IsDate date number
  pub time_is : IsTime time seconds
  pub end_is : IsEnd rest added
  pub value : moment ≡ number *ℤ pos 86_400_000_000 +ℤ pos (seconds * 1_000_000) +ℤ added
  pub in_range : IsInMoments moment
