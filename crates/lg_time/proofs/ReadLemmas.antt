-- The parts of a moment's text, found by their places.
use Rattle.std.proofs.Common.{Bool, false, IsTrue, rules, ◌≡◌, ℕ, ◌+◌, ◌-◌, ◌*◌, ◌≤◌, List, [], ◌∷◌, ◌++◌, length, take, drop, refl, sym, ap, subst, ◌∙◌, arith, ℤ, pos, neg_ℤ, ◌+ℤ◌, ◌*ℤ◌, length-append, Option, Some, None, Ok, Result, OnSome, IfSome, ◌⊎◌, inl, inr, ◌/◌, ◌%◌, get_or, replicate, slice_index}
use Rattle.std.proofs.lemmas.List.{take_at, drop_at, take-append-drop}
use Rattle.jiff_core.specs.Calendar.{days_from_civil}
use Rattle.std.proofs.Math.Seq.{take-length}
use Rattle.lg_time.specs.Texts.{two_digits, decimal, IsCalendarDate}
use Rattle.lg_time.specs.Moment.{IsMoment, IsDate, IsTime, IsEnd, IsFraction, IsZone, IsOffset, IsInMoments}
use Rattle.lg_time.specs.Moment.IsZone.{utc, east, west}

pub length-date : (text : List ℕ) (number : ℤ) → IsDate text number → length text ≡ 10
length-date text number h = ap length h.written

pub length-time : (text : List ℕ) (seconds : ℕ) → IsTime text seconds → length text ≡ 9
length-time text seconds h = ap length h.written

-- the parts of a moment's text by place
pub record Places (text : List ℕ) (moment : ℤ) : Type 0 where
  pub number : ℤ
  pub seconds : ℕ
  pub added : ℤ
  pub long : 19 ≤ length text
  pub date_is : IsDate (take 10 text) number
  pub time_is : IsTime (take 9 (drop 10 text)) seconds
  pub end_is : IsEnd (drop 9 (drop 10 text)) added
  pub value : moment ≡ number *ℤ pos 86_400_000_000 +ℤ pos (seconds * 1_000_000) +ℤ added
  pub in_range : IsInMoments moment

pub places : (text : List ℕ) (moment : ℤ) → IsMoment text moment → Places text moment
places text moment h =
    let dated = length-date h.date h.number h.date_is in
    let timed = length-time h.time h.seconds h.time_is in
    let front : take 10 text ≡ h.date = ap (take 10) h.parts ∙ take_at _ _ _ dated in
    let back : drop 10 text ≡ h.time ++ h.rest = ap (drop 10) h.parts ∙ drop_at _ _ _ dated in
    let middle : take 9 (drop 10 text) ≡ h.time = ap (take 9) back ∙ take_at _ _ _ timed in
    let last : drop 9 (drop 10 text) ≡ h.rest = ap (drop 9) back ∙ drop_at _ _ _ timed in
    record {
      number = h.number;
      seconds = h.seconds;
      added = h.added;
      long = omega (arith, ap length h.parts, length-append h.date (h.time ++ h.rest), length-append h.time h.rest);
      date_is = rw front h.date_is;
      time_is = rw middle h.time_is;
      end_is = rw last h.end_is;
      value = h.value;
      in_range = h.in_range;
    }

pub at_places : (text : List ℕ) (moment number : ℤ) (seconds : ℕ) (added : ℤ) → IsDate (take 10 text) number → IsTime (take 9 (drop 10 text)) seconds → IsEnd (drop 9 (drop 10 text)) added → moment ≡ number *ℤ pos 86_400_000_000 +ℤ pos (seconds * 1_000_000) +ℤ added → IsInMoments moment → IsMoment text moment
at_places text moment number seconds added date time rest value in_range =
    record {
      date = take 10 text;
      time = take 9 (drop 10 text);
      rest = drop 9 (drop 10 text);
      number = number;
      seconds = seconds;
      added = added;
      parts = sym (ap (λ (r : List ℕ). take 10 text ++ r) (take-append-drop 9 (drop 10 text)) ∙ take-append-drop 10 text);
      date_is = date;
      time_is = time;
      end_is = rest;
      value = value;
      in_range = in_range;
    }

-- a call that gave nothing stands against a value
pub never : {A P : Type 0} (x : A) → None ≡ Some x → P
never x e = cc

pub same_some : {A : Type 0} (x y : A) → Some x ≡ Some y → x ≡ y
same_some x y e = cc

pub same_ok : {A E : Type 0} (x y z : A) → z ≡ x → Some x ≡ Some y → ◌≡◌ {A = Result A E} (Ok z) (Ok y)
same_ok x y z e f = ap Ok (e ∙ same_some x y f)

pub as_some : {A : Type 0} (x y : A) → x ≡ y → Some x ≡ Some y
as_some x y e = ap Some e

-- the parts of an end, where the length of its zone is known
pub end_front : (text : List ℕ) (added : ℤ) (n : ℕ) (h : IsEnd text added) → length h.zone ≡ n → (n ≤ length text) × IsFraction (take (length text - n) text) h.microseconds × IsZone (drop (length text - n) text) h.ahead
end_front text added n h e =
    let long = ap length h.parts ∙ length-append h.fraction h.zone in
    let at : length h.fraction ≡ length text - n = omega arith in
    let front : take (length text - n) text ≡ h.fraction = ap (take (length text - n)) h.parts ∙ take_at _ _ _ at in
    let back : drop (length text - n) text ≡ h.zone = ap (drop (length text - n)) h.parts ∙ drop_at _ _ _ at in
    (omega arith, rw front h.fraction_is, rw back h.zone_is)

-- a date with these digits
pub date_made : (text : List ℕ) (a b c d e f g h century rest month day : ℕ) (number : ℤ) → text ≡ a ∷ b ∷ c ∷ d ∷ 45 ∷ e ∷ f ∷ 45 ∷ g ∷ h ∷ [] → two_digits century ≡ a ∷ b ∷ [] → two_digits rest ≡ c ∷ d ∷ [] → two_digits month ≡ e ∷ f ∷ [] → two_digits day ≡ g ∷ h ∷ [] → rest ≤ 99 → IsCalendarDate (century * 100 + rest) month day → number ≡ days_from_civil (pos (century * 100 + rest)) month day → IsDate text number
date_made text a b c d e f g h century rest month day number written hundreds ones m n small exists counted =
    let q : (century * 100 + rest) / 100 ≡ century = omega arith in
    let r : (century * 100 + rest) % 100 ≡ rest = omega arith in
    record {
      year = century * 100 + rest;
      month = month;
      day = day;
      exists = exists;
      written = rw (q, r) cc;
      counted = counted;
    }

-- the only date with these digits
pub date_only : (text : List ℕ) (a b c d e f g h century rest month day : ℕ) (number : ℤ) → text ≡ a ∷ b ∷ c ∷ d ∷ 45 ∷ e ∷ f ∷ 45 ∷ g ∷ h ∷ [] → two_digits century ≡ a ∷ b ∷ [] → two_digits rest ≡ c ∷ d ∷ [] → two_digits month ≡ e ∷ f ∷ [] → two_digits day ≡ g ∷ h ∷ [] → rest ≤ 99 → IsDate text number → number ≡ days_from_civil (pos (century * 100 + rest)) month day
date_only text a b c d e f g h century rest month day number written hundreds ones m n small is =
    let same = sym is.written ∙ written in
    let y : is.year ≡ century * 100 + rest = grind arith in
    let o : is.month ≡ month = grind arith in
    let p : is.day ≡ day = grind arith in
    is.counted ∙ (rw (y, o, p))

-- the first six digits, with zeros for absent ones
pub decimal_of_places : (digits : List ℕ) → decimal (take 6 (digits ++ replicate 6 48)) ≡ ((slice_index digits 0 - 48) * 100 + (slice_index digits 1 - 48) * 10 + (slice_index digits 2 - 48)) * 1000 + ((slice_index digits 3 - 48) * 100 + (slice_index digits 4 - 48) * 10 + (slice_index digits 5 - 48))
decimal_of_places [] = refl
decimal_of_places (a ∷ []) = omega arith
decimal_of_places (a ∷ b ∷ []) = omega arith
decimal_of_places (a ∷ b ∷ c ∷ []) = omega arith
decimal_of_places (a ∷ b ∷ c ∷ d ∷ []) = omega arith
decimal_of_places (a ∷ b ∷ c ∷ d ∷ e ∷ []) = omega arith
decimal_of_places (a ∷ b ∷ c ∷ d ∷ e ∷ f ∷ rest) = omega arith

-- a zone with an offset
pub zone_made : (text offset : List ℕ) (sign minutes : ℕ) (r : Option ℤ) → text ≡ sign ∷ offset → IsOffset offset minutes → (sign ≡ 43 → r ≡ Some (pos minutes)) → (sign ≡ 45 → r ≡ Some (neg_ℤ (pos minutes))) → OnSome r ((sign ≡ 43) ⊎ (sign ≡ 45)) → IfSome r (IsZone text)
zone_made text offset sign minutes None written is plus minus either = tt
zone_made text offset sign minutes (Some x) written is plus minus (inl e) = east offset minutes (written ∙ ap (λ (b : ℕ). b ∷ offset) e) is (same_some _ _ (plus e))
zone_made text offset sign minutes (Some x) written is plus minus (inr e) = west offset minutes (written ∙ ap (λ (b : ℕ). b ∷ offset) e) is (same_some _ _ (minus e))

-- a zone of two bytes or more ends with its offset
pub zone_offset : (text offset : List ℕ) (sign a : ℕ) (ahead : ℤ) → text ≡ sign ∷ a ∷ offset → IsZone text ahead → (minutes : ℕ) × IsOffset (a ∷ offset) minutes
zone_offset text offset sign a ahead written (utc (inl e) f) = absurd (omega (arith, ap length (sym e ∙ written)))
zone_offset text offset sign a ahead written (utc (inr e) f) = absurd (omega (arith, ap length (sym e ∙ written)))
zone_offset text offset sign a ahead written (east o minutes e is f) = (minutes, subst (λ (t : List ℕ). IsOffset t minutes) (ap (drop 1) (sym e ∙ written)) is)
zone_offset text offset sign a ahead written (west o minutes e is f) = (minutes, subst (λ (t : List ℕ). IsOffset t minutes) (ap (drop 1) (sym e ∙ written)) is)

-- a text after its first byte
pub after_first : (text : List ℕ) (b : ℕ) → 1 ≤ length text → get_or text 0 0 ≡ b → text ≡ b ∷ take (length text - 1) (drop 1 text)
after_first [] b long e = absurd (omega arith)
after_first (x ∷ xs) b long e =
    let n : length (x ∷ xs) - 1 ≡ length xs = omega arith in
    rw n (rw (take-length {A = ℕ}) (ap (λ (a : ℕ). a ∷ xs) e))

-- a test does not give both answers
pub refuted : {P : Type 0} {b : Bool} → IsTrue b → b ≡ false → P
refuted i f = absurd (search (rules, i, f))
