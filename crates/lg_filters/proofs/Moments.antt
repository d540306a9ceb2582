-- Whether a text stands for a moment is decided: its parts are bounded.
use Rattle.std.proofs.Common.{◌≡◌, ◌≢◌, ℕ, zero, suc, ◌+◌, ◌*◌, ◌<◌, ◌⊎◌, inl, inr, true, false, Bool, List, [], ◌∷◌, ◌++◌, length, length-append, take, drop, take-append-drop, All, refl, sym, ap, subst, ◌∙◌, arith, ℤ, pos, neg_ℤ, ◌+ℤ◌, ◌-ℤ◌, ◌*ℤ◌}
use Rattle.std.specs.Int.{IsInRange}
use Rattle.std.specs.Char.{IsAsciiDigit}
use Rattle.std.specs.Str.{bytes_eq}
use Rattle.std.proofs.lemmas.Slice.Eq.{bytes_eq-Decides}
use Rattle.std.proofs.Math.Decide.{dec_le, map_dec, ℕ_discrete}
use Rattle.std.proofs.Math.Seq.{take-append_seam, drop-append_seam}
use Rattle.std.proofs.lemmas.List.Elements.{All-cons, All-nil}
use Rattle.jiff_core.specs.Calendar.{days_from_civil, days_in_month}
use Rattle.std.specs.Int.Signed.{◌≤ℤ◌, clash_ℤ}
use Rattle.std.proofs.lemmas.Int.{by_lt_z}
use Rattle.lg_time.specs.Texts.{IsCalendarDate, date_text, hour_text, clock_text}
use Rattle.lg_time.specs.Moment.{IsMoment, IsInMoments, IsDate, IsTime, IsEnd, IsFraction, IsZone, IsOffset, rounded}
use Rattle.lg_time.specs.Moment.IsFraction.{absent, given}
use Rattle.lg_time.specs.Moment.IsZone.{utc, east, west}

pub both : {P Q : Type 0} → Dec P → Dec Q → Dec (P × Q)
both (yes p) (yes q) = yes (p, q)
both (yes p) (no n) = no (λ h. n h.1)
both (no n) d = no (λ h. n h.0)

pub either : {P Q : Type 0} → Dec P → Dec Q → Dec (P ⊎ Q)
either (yes p) d = yes (inl p)
either (no n) (yes q) = yes (inr q)
either (no n) (no m) = no (λ h. elim h [ inl p ↦ n p | inr q ↦ m q ])

if_not : {P : Type 0} → Dec P → Dec (¬ P)
if_not (yes p) = no (λ n. n p)
if_not (no n) = yes n

pub by_test : {P : Type 0} (b : Bool) → ((b ≡ true → P) × (P → b ≡ true)) → Dec P
by_test true h = yes (h.0 refl)
by_test false h = no (λ p. let e : false ≡ true = h.1 p in cc)

pub dec_bytes : (xs ys : List ℕ) → Dec (xs ≡ ys)
dec_bytes xs ys = by_test (bytes_eq xs ys) (bytes_eq-Decides xs ys)

-- a number below a bound
record Below (P : ℕ → Type 0) (k : ℕ) : Type 0 where
  number : ℕ
  less : number < k
  holds : P number

module _ (P : ℕ → Type 0) (d : (n : ℕ) → Dec (P n)) where
  one_more : (k : ℕ) → Dec (P k) → Dec (Below P k) → Dec (Below P (suc k))
  one_more k (yes p) e = yes (record { number = k; less = omega arith; holds = p })
  one_more k (no n) (yes b) = yes (record { number = b.number; less = (let l = b.less in omega arith); holds = b.holds })
  one_more k (no n) (no m) = no (λ h. elim (ℕ_discrete h.number k) [
    | yes e ↦ n (subst P e h.holds)
    | no o ↦ m (record { number = h.number; less = (let l = h.less in omega (arith, o)); holds = h.holds })
  ])

  dec_below : (k : ℕ) → Dec (Below P k)
  dec_below zero = no (λ h. let l = h.less in omega arith)
  dec_below (suc k) = one_more k (d k) (dec_below k)

-- a value of which two things hold
record Found {A : Type 0} (P Q : A → Type 0) : Type 0 where
  value : A
  is : P value
  holds : Q value

dec_range : (lo hi n : ℕ) → Dec (IsInRange lo hi n)
dec_range lo hi n = both (dec_le lo n) (dec_le n hi)

dec_calendar : (y m d : ℕ) → Dec (IsCalendarDate y m d)
dec_calendar y m d = map_dec (λ h. record { year_in = h.0; month_in = h.1.0; day_in = h.1.1 }) (λ h. (h.year_in, (h.month_in, h.day_in)))
    (both (dec_range 1 9999 y) (both (dec_range 1 12 m) (dec_range 1 (days_in_month (pos y) m) d)))

-- a date whose number has a decided property
module _ (t : List ℕ) (Q : ℤ → Type 0) (q : (n : ℤ) → Dec (Q n)) where
  abbrev AtDay : ℕ → ℕ → ℕ → Type 0
  AtDay y m d = (t ≡ date_text y m d) × (IsCalendarDate y m d × Q (days_from_civil (pos y) m d))

  dec_day : (y m d : ℕ) → Dec (AtDay y m d)
  dec_day y m d = both (dec_bytes t (date_text y m d)) (both (dec_calendar y m d) (q (days_from_civil (pos y) m d)))

  abbrev HasDate : Type 0
  HasDate = Below (λ y. Below (λ m. Below (λ d. AtDay y m d) (days_in_month (pos y) m + 1)) 13) 10000

  dec_days : Dec HasDate
  dec_days = dec_below _ (λ y. dec_below _ (λ m. dec_below _ (dec_day y m) (days_in_month (pos y) m + 1)) 13) 10000

  to_date : HasDate → Found (IsDate t) Q
  to_date h =
      let m = h.holds in
      let d = m.holds in
      let w = d.holds in
      record {
        value = days_from_civil (pos h.number) m.number d.number;
        is = record { year = h.number; month = m.number; day = d.number; exists = w.1.0; written = w.0; counted = refl };
        holds = w.1.1;
      }

  of_date : Found (IsDate t) Q → HasDate
  of_date h =
      let is = h.is in
      let y = is.exists.year_in.1 in
      let m = is.exists.month_in.1 in
      let d = is.exists.day_in.1 in
      record { number = is.year; less = omega arith; holds = record { number = is.month; less = omega arith; holds = record { number = is.day; less = omega arith; holds = (is.written, (is.exists, subst Q is.counted h.holds)) } } }

  dec_date : Dec (Found (IsDate t) Q)
  dec_date = map_dec to_date of_date dec_days

-- a time of day
mark_below : (mark : ℕ) → (mark ≡ 84) ⊎ (mark ≡ 116) → mark < 117
mark_below mark (inl e) = omega arith
mark_below mark (inr e) = omega arith

module _ (t : List ℕ) (Q : ℕ → Type 0) (q : (n : ℕ) → Dec (Q n)) where
  abbrev AtSecond : ℕ → ℕ → ℕ → ℕ → Type 0
  AtSecond mark h m s = (t ≡ mark ∷ clock_text h m s) × Q ((h * 60 + m) * 60 + s)

  dec_second : (mark h m s : ℕ) → Dec (AtSecond mark h m s)
  dec_second mark h m s = both (dec_bytes t (mark ∷ clock_text h m s)) (q ((h * 60 + m) * 60 + s))

  abbrev HasTime : Type 0
  HasTime = Below (λ mark. ((mark ≡ 84) ⊎ (mark ≡ 116)) × Below (λ h. Below (λ m. Below (λ s. AtSecond mark h m s) 60) 60) 24) 117

  dec_seconds : Dec HasTime
  dec_seconds = dec_below _ (λ mark. both (either (ℕ_discrete mark 84) (ℕ_discrete mark 116)) (dec_below _ (λ h. dec_below _ (λ m. dec_below _ (dec_second mark h m) 60) 60) 24)) 117

  to_time : HasTime → Found (IsTime t) Q
  to_time k =
      let h = k.holds.1 in
      let m = h.holds in
      let s = m.holds in
      let a = h.less in
      let b = m.less in
      let c = s.less in
      record {
        value = (h.number * 60 + m.number) * 60 + s.number;
        is = record { mark = k.number; hour = h.number; minute = m.number; second = s.number; mark_is = k.holds.0; hour_in = omega arith; minute_in = omega arith; second_in = omega arith; written = s.holds.0; counted = refl };
        holds = s.holds.1;
      }

  of_time : Found (IsTime t) Q → HasTime
  of_time k =
      let is = k.is in
      let a = is.hour_in in
      let b = is.minute_in in
      let c = is.second_in in
      record { number = is.mark; less = mark_below is.mark is.mark_is; holds = (is.mark_is, record { number = is.hour; less = omega arith; holds = record { number = is.minute; less = omega arith; holds = record { number = is.second; less = omega arith; holds = (is.written, subst Q is.counted k.holds) } } }) }

  dec_time : Dec (Found (IsTime t) Q)
  dec_time = map_dec to_time of_time dec_seconds

-- an offset
module _ (t : List ℕ) (Q : ℕ → Type 0) (q : (n : ℕ) → Dec (Q n)) where
  abbrev AtMinute : ℕ → ℕ → Type 0
  AtMinute h m = (t ≡ hour_text h m) × Q (h * 60 + m)

  dec_minute : (h m : ℕ) → Dec (AtMinute h m)
  dec_minute h m = both (dec_bytes t (hour_text h m)) (q (h * 60 + m))

  abbrev HasOffset : Type 0
  HasOffset = Below (λ h. Below (λ m. AtMinute h m) 60) 24

  to_offset : HasOffset → Found (IsOffset t) Q
  to_offset h =
      let m = h.holds in
      let a = h.less in
      let b = m.less in
      record { value = h.number * 60 + m.number; is = record { hour = h.number; minute = m.number; hour_in = omega arith; minute_in = omega arith; written = m.holds.0; counted = refl }; holds = m.holds.1 }

  of_offset : Found (IsOffset t) Q → HasOffset
  of_offset k =
      let is = k.is in
      let a = is.hour_in in
      let b = is.minute_in in
      record { number = is.hour; less = omega arith; holds = record { number = is.minute; less = omega arith; holds = (is.written, subst Q is.counted k.holds) } }

  dec_offset : Dec (Found (IsOffset t) Q)
  dec_offset = map_dec to_offset of_offset (dec_below _ (λ h. dec_below _ (dec_minute h) 60) 24)

-- a zone
module _ (t : List ℕ) (Q : ℤ → Type 0) (q : (n : ℤ) → Dec (Q n)) where
  abbrev Utc : Type 0
  Utc = ((t ≡ 90 ∷ []) ⊎ (t ≡ 122 ∷ [])) × Q (pos 0)

  abbrev Signed : ℕ → (ℕ → ℤ) → Type 0
  Signed sign of = (t ≡ sign ∷ drop 1 t) × Found (IsOffset (drop 1 t)) (λ n. Q (of n))

  dec_signed : (sign : ℕ) (of : ℕ → ℤ) → Dec (Signed sign of)
  dec_signed sign of = both (dec_bytes t (sign ∷ drop 1 t)) (dec_offset (drop 1 t) (λ n. Q (of n)) (λ n. q (of n)))

  abbrev HasZone : Type 0
  HasZone = Utc ⊎ (Signed 43 (λ n. pos n) ⊎ Signed 45 (λ n. neg_ℤ (pos n)))

  to_zone : HasZone → Found (IsZone t) Q
  to_zone (inl h) = record { value = pos 0; is = utc h.0 refl; holds = h.1 }
  to_zone (inr (inl h)) = record { value = pos h.1.value; is = east (drop 1 t) h.1.value h.0 h.1.is refl; holds = h.1.holds }
  to_zone (inr (inr h)) = record { value = neg_ℤ (pos h.1.value); is = west (drop 1 t) h.1.value h.0 h.1.is refl; holds = h.1.holds }

  of_signed : (sign : ℕ) (of : ℕ → ℤ) (offset : List ℕ) (m : ℕ) (n : ℤ) → t ≡ sign ∷ offset → IsOffset offset m → n ≡ of m → Q n → Signed sign of
  of_signed sign of offset m n e is f h =
      let same : offset ≡ drop 1 t = sym (ap (λ (l : List ℕ). drop 1 l) e) in
      (e ∙ ap (λ (l : List ℕ). sign ∷ l) same, record { value = m; is = subst (λ (l : List ℕ). IsOffset l m) same is; holds = subst Q f h })

  of_zone_at : (n : ℤ) → IsZone t n → Q n → HasZone
  of_zone_at n (utc e f) h = inl (e, subst Q f h)
  of_zone_at n (east offset m e is f) h = inr (inl (of_signed 43 (λ n. pos n) offset m n e is f h))
  of_zone_at n (west offset m e is f) h = inr (inr (of_signed 45 (λ n. neg_ℤ (pos n)) offset m n e is f h))

  dec_zone : Dec (Found (IsZone t) Q)
  dec_zone = map_dec to_zone (λ h. of_zone_at h.value h.is h.holds)
      (either (both (either (dec_bytes t (90 ∷ [])) (dec_bytes t (122 ∷ []))) (q (pos 0))) (either (dec_signed 43 (λ n. pos n)) (dec_signed 45 (λ n. neg_ℤ (pos n)))))

-- a fraction
dec_digits : (t : List ℕ) → Dec (All IsAsciiDigit t)
dec_digits [] = yes (All-nil IsAsciiDigit)
dec_digits (d ∷ ds) = map_dec (λ h. All-cons IsAsciiDigit d ds h.0 h.1) (λ h. (h 0 0 (omega arith), λ k e l. h (suc k) e (omega arith))) (both (dec_range 48 57 d) (dec_digits ds))

module _ (t : List ℕ) (Q : ℕ → Type 0) (q : (n : ℕ) → Dec (Q n)) where
  abbrev Digits : List ℕ → Type 0
  Digits ds = (t ≡ 46 ∷ ds) × (ds ≢ []) × (All IsAsciiDigit ds × Q (rounded ds))

  dec_given : (ds : List ℕ) → Dec (Digits ds)
  dec_given ds = map_dec (λ h. (h.0.0, h.0.1, h.1)) (λ h. ((h.0, h.1), h.2)) (both (both (dec_bytes t (46 ∷ ds)) (if_not (dec_bytes ds []))) (both (dec_digits ds) (q (rounded ds))))

  to_fraction : ((t ≡ []) × Q 0) ⊎ Digits (drop 1 t) → Found (IsFraction t) Q
  to_fraction (inl h) = record { value = 0; is = absent h.0 refl; holds = h.1 }
  to_fraction (inr h) = record { value = rounded (drop 1 t); is = given (drop 1 t) h.0 h.1 h.2.0 refl; holds = h.2.1 }

  of_fraction : (n : ℕ) → IsFraction t n → Q n → ((t ≡ []) × Q 0) ⊎ Digits (drop 1 t)
  of_fraction n (absent e f) h = inl (e, subst Q f h)
  of_fraction n (given ds e some are f) h = inr (subst Digits (sym (ap (λ (l : List ℕ). drop 1 l) e)) (e, some, (are, subst Q f h)))

  dec_fraction : Dec (Found (IsFraction t) Q)
  dec_fraction = map_dec to_fraction (λ h. of_fraction h.value h.is h.holds) (either (both (dec_bytes t []) (q 0)) (dec_given (drop 1 t)))

-- the two parts of a text
record Parts (t : List ℕ) (R : List ℕ → List ℕ → Type 0) : Type 0 where
  first : List ℕ
  second : List ℕ
  parts : t ≡ first ++ second
  holds : R first second

module _ (t : List ℕ) (R : List ℕ → List ℕ → Type 0) (r : (a b : List ℕ) → Dec (R a b)) where
  to_parts : Below (λ k. R (take k t) (drop k t)) (suc (length t)) → Parts t R
  to_parts h = record { first = take h.number t; second = drop h.number t; parts = sym (take-append-drop h.number t); holds = h.holds }

  of_parts : Parts t R → Below (λ k. R (take k t) (drop k t)) (suc (length t))
  of_parts h =
      let k = length h.first in
      let long : length t ≡ k + length h.second = ap length h.parts ∙ length-append h.first h.second in
      let a : h.first ≡ take k t = sym (take-append_seam h.first h.second) ∙ ap (take k) (sym h.parts) in
      let b : h.second ≡ drop k t = sym (drop-append_seam h.first h.second) ∙ ap (drop k) (sym h.parts) in
      record { number = k; less = omega (arith, long); holds = subst (λ (l : List ℕ). R (take k t) l) b (subst (λ (l : List ℕ). R l h.second) a h.holds) }

  dec_parts : Dec (Parts t R)
  dec_parts = map_dec to_parts of_parts (dec_below _ (λ k. r (take k t) (drop k t)) (suc (length t)))

-- the end of a text
module _ (t : List ℕ) (Q : ℤ → Type 0) (q : (n : ℤ) → Dec (Q n)) where
  abbrev EndIn : List ℕ → List ℕ → Type 0
  EndIn fraction zone = Found (IsFraction fraction) (λ n. Found (IsZone zone) (λ ahead. Q (pos n -ℤ ahead *ℤ pos 60_000_000)))

  dec_end_in : (fraction zone : List ℕ) → Dec (EndIn fraction zone)
  dec_end_in fraction zone = dec_fraction fraction _ (λ n. dec_zone zone _ (λ ahead. q (pos n -ℤ ahead *ℤ pos 60_000_000)))

  to_end : Parts t EndIn → Found (IsEnd t) Q
  to_end h =
      let f = h.holds in
      let z = f.holds in
      record {
        value = pos f.value -ℤ z.value *ℤ pos 60_000_000;
        is = record { fraction = h.first; zone = h.second; microseconds = f.value; ahead = z.value; parts = h.parts; fraction_is = f.is; zone_is = z.is; value = refl };
        holds = z.holds;
      }

  of_end : Found (IsEnd t) Q → Parts t EndIn
  of_end h =
      let is = h.is in
      record { first = is.fraction; second = is.zone; parts = is.parts; holds = record { value = is.microseconds; is = is.fraction_is; holds = record { value = is.ahead; is = is.zone_is; holds = subst Q is.value h.holds } } }

  dec_end : Dec (Found (IsEnd t) Q)
  dec_end = map_dec to_end of_end (dec_parts t EndIn dec_end_in)

-- a moment
dec_le_ℤ : (a b : ℤ) → Dec (a ≤ℤ b)
dec_le_ℤ a b = by_lt_z b a (λ l. no (λ h. clash_ℤ l h)) (λ h. yes h)

dec_in_moments : (n : ℤ) → Dec (IsInMoments n)
dec_in_moments n = both (dec_le_ℤ _ n) (dec_le_ℤ n _)

abbrev moment_of : ℤ → ℕ → ℤ → ℤ
moment_of number seconds added = number *ℤ pos 86_400_000_000 +ℤ pos (seconds * 1_000_000) +ℤ added

module _ (t : List ℕ) where
  abbrev AfterDate : ℤ → List ℕ → List ℕ → Type 0
  AfterDate number time rest = Found (IsTime time) (λ seconds. Found (IsEnd rest) (λ added. IsInMoments (moment_of number seconds added)))

  dec_after_date : (number : ℤ) (time rest : List ℕ) → Dec (AfterDate number time rest)
  dec_after_date number time rest = dec_time time _ (λ seconds. dec_end rest _ (λ added. dec_in_moments (moment_of number seconds added)))

  abbrev Whole : List ℕ → List ℕ → Type 0
  Whole date more = Found (IsDate date) (λ number. Parts more (AfterDate number))

  dec_whole : (date more : List ℕ) → Dec (Whole date more)
  dec_whole date more = dec_date date _ (λ number. dec_parts more (AfterDate number) (dec_after_date number))

  to_moment : Parts t Whole → (moment : ℤ) × IsMoment t moment
  to_moment h =
      let d = h.holds in
      let p = d.holds in
      let s = p.holds in
      let e = s.holds in (
        moment_of d.value s.value e.value,
        record {
          date = h.first;
          time = p.first;
          rest = p.second;
          number = d.value;
          seconds = s.value;
          added = e.value;
          parts = h.parts ∙ ap (λ (l : List ℕ). h.first ++ l) p.parts;
          date_is = d.is;
          time_is = s.is;
          end_is = e.is;
          value = refl;
          in_range = e.holds;
        },
      )

  of_moment : ((moment : ℤ) × IsMoment t moment) → Parts t Whole
  of_moment h =
      let is = h.1 in
      record {
        first = is.date;
        second = is.time ++ is.rest;
        parts = is.parts;
        holds = record {
          value = is.number;
          is = is.date_is;
          holds = record {
            first = is.time;
            second = is.rest;
            parts = refl;
            holds = record { value = is.seconds; is = is.time_is; holds = record { value = is.added; is = is.end_is; holds = subst IsInMoments is.value is.in_range } };
          };
        };
      }

pub dec_moment : (t : List ℕ) → Dec ((moment : ℤ) × IsMoment t moment)
dec_moment t = map_dec (to_moment t) (of_moment t) (dec_parts t (Whole t) (dec_whole t))
