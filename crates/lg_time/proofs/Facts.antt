-- A text stands for one moment at most, and what the canonical text is made of: for the proofs of other crates.
use Rattle.std.proofs.Common.{◌≡◌, ℕ, ◌+◌, ◌-◌, ◌*◌, ◌/◌, ◌%◌, ◌≤◌, ◌<◌, ◌⊎◌, inl, inr, true, false, ◌==◌, cond, List, [], ◌∷◌, ◌++◌, length, drop, get_or, All, refl, sym, ap, subst, ◌∙◌, arith, ℤ, pos, neg_ℤ, ◌+ℤ◌, unsigned_abs}
use Rattle.std.specs.Int.{IsInRange}
use Rattle.std.specs.List.{list_all}
use Rattle.std.proofs.lemmas.List.{get_or-append-add, length-append}
use Rattle.std.proofs.lemmas.List.Elements.{All-cons, All-nil, All-append}
use Rattle.jiff_core.proofs.SignedLemmas.{signed_arith, unsigned_abs-parts, one_part}
use Rattle.lg_time.specs.Texts.{two_digits, four_digits, six_digits}
use Rattle.lg_time.specs.Moment.{IsMoment, IsInMoments, IsDate, IsTime, IsEnd, IsFraction, IsZone, IsOffset, rounded}
use Rattle.lg_time.specs.Moment.IsFraction.{absent, given}
use Rattle.lg_time.specs.Moment.IsZone.{utc, east, west}
use Rattle.lg_time.specs.Canonical.{CalendarDate, date_after, text_of_date, text_of_seconds, text_of_fraction, text_after, moment_text, without_trailing_zeros}
use Rattle.lg_time.proofs.CalendarLemmas.{date_after_is, date_after-year}
use Rattle.lg_time.proofs.CanonicalLemmas.{moment_text_is, All-kept}
use Rattle.lg_time.proofs.ReadLemmas.{places, end_front, date_only}

date_unique : (text : List ℕ) (a b : ℤ) → IsDate text a → IsDate text b → a ≡ b
date_unique text a b h k =
    let year : h.year / 100 * 100 + h.year % 100 ≡ h.year = omega arith in
    let same = date_only text _ _ _ _ _ _ _ _ (h.year / 100) (h.year % 100) h.month h.day b h.written refl refl refl refl (omega arith) k in
    h.counted ∙ sym (rw year at same)

time_unique : (text : List ℕ) (a b : ℕ) → IsTime text a → IsTime text b → a ≡ b
time_unique text a b h k =
    let same = sym h.written ∙ k.written in
    let hour : h.hour ≡ k.hour = grind arith in
    let minute : h.minute ≡ k.minute = grind arith in
    let second : h.second ≡ k.second = grind arith in
    omega (arith, h.counted, k.counted)

offset_unique : (text : List ℕ) (a b : ℕ) → IsOffset text a → IsOffset text b → a ≡ b
offset_unique text a b h k =
    let same = sym h.written ∙ k.written in
    let hour : h.hour ≡ k.hour = grind arith in
    let minute : h.minute ≡ k.minute = grind arith in
    omega (arith, h.counted, k.counted)

fraction_unique : (text : List ℕ) (a b : ℕ) → IsFraction text a → IsFraction text b → a ≡ b
fraction_unique text a b (absent e x) (absent f y) = x ∙ sym y
fraction_unique text a b (absent e x) (given ds f some are y) = absurd (omega (arith, ap length (sym e ∙ f)))
fraction_unique text a b (given ds e some are x) (absent f y) = absurd (omega (arith, ap length (sym e ∙ f)))
fraction_unique text a b (given ds e some are x) (given es f others are' y) = x ∙ ap rounded (ap (drop 1) (sym e ∙ f)) ∙ sym y

-- the first byte of a zone and its length
zone_first : (text : List ℕ) (a : ℤ) → IsZone text a → ((length text ≡ 1) × ((text ≡ 90 ∷ []) ⊎ (text ≡ 122 ∷ [])) × (a ≡ pos 0)) ⊎ ((length text ≡ 6) × ((m : ℕ) × IsOffset (drop 1 text) m × (((get_or text 0 0 ≡ 43) × (a ≡ pos m)) ⊎ ((get_or text 0 0 ≡ 45) × (a ≡ neg_ℤ (pos m))))))
zone_first text a (utc (inl e) f) = inl (ap length e, inl e, f)
zone_first text a (utc (inr e) f) = inl (ap length e, inr e, f)
zone_first text a (east o m e is f) = inr (ap length e ∙ omega (arith, ap length is.written), (m, subst (λ (t : List ℕ). IsOffset t m) (sym (ap (drop 1) e)) is, inl (ap (λ (t : List ℕ). get_or t 0 0) e, f)))
zone_first text a (west o m e is f) = inr (ap length e ∙ omega (arith, ap length is.written), (m, subst (λ (t : List ℕ). IsOffset t m) (sym (ap (drop 1) e)) is, inr (ap (λ (t : List ℕ). get_or t 0 0) e, f)))

zone_unique : (text : List ℕ) (a b : ℤ) → IsZone text a → IsZone text b → a ≡ b
zone_unique text a b h k =
    elim (zone_first text a h) [
      | inl p ↦ elim (zone_first text b k) [ inl q ↦ p.2 ∙ sym q.2 | inr q ↦ absurd (omega (arith, p.0, q.0)) ]
      | inr p ↦ elim (zone_first text b k) [
        | inl q ↦ absurd (omega (arith, p.0, q.0))
        | inr q ↦
            let m = offset_unique _ p.1.0 q.1.0 p.1.1 q.1.1 in
            elim p.1.2 [
              | inl x ↦ elim q.1.2 [ inl y ↦ x.1 ∙ ap pos m ∙ sym y.1 | inr y ↦ absurd (omega (arith, x.0, y.0)) ]
              | inr x ↦ elim q.1.2 [ inl y ↦ absurd (omega (arith, x.0, y.0)) | inr y ↦ x.1 ∙ ap (λ (n : ℕ). neg_ℤ (pos n)) m ∙ sym y.1 ]
            ]
      ]
    ]

offset_last : (text fraction zone offset : List ℕ) (sign m : ℕ) → text ≡ fraction ++ zone → zone ≡ sign ∷ offset → IsOffset offset m → (length zone ≡ 6) × (get_or text (length text - 1) 0 ≤ 57)
offset_last text fraction zone offset sign m parts e is =
    let long = ap length parts ∙ length-append fraction zone in
    let six : length zone ≡ 6 = ap length e ∙ omega (arith, ap length is.written) in
    let at : length text - 1 ≡ length fraction + 5 = omega (arith, long, six) in
    let last : get_or text (length text - 1) 0 ≡ 48 + is.minute % 10 = ap (λ (n : ℕ). get_or text n 0) at ∙ ap (λ (t : List ℕ). get_or t (length fraction + 5) 0) parts ∙ get_or-append-add fraction zone 5 0 ∙ ap (λ (t : List ℕ). get_or t 5 0) e ∙ ap (λ (t : List ℕ). get_or t 4 0) is.written in
    (six, omega arith)

-- a zone's length, by the last byte of the text that it ends
zone_length : (text fraction zone : List ℕ) (a : ℤ) → text ≡ fraction ++ zone → IsZone zone a → ((length zone ≡ 1) × (58 ≤ get_or text (length text - 1) 0)) ⊎ ((length zone ≡ 6) × (get_or text (length text - 1) 0 ≤ 57))
zone_length text fraction zone a parts (utc (inl e) f) =
    let long = ap length parts ∙ length-append fraction zone in
    let at : length text - 1 ≡ length fraction + 0 = omega (arith, long, ap length e) in
    let last : get_or text (length text - 1) 0 ≡ 90 = ap (λ (n : ℕ). get_or text n 0) at ∙ ap (λ (t : List ℕ). get_or t (length fraction + 0) 0) parts ∙ get_or-append-add fraction zone 0 0 ∙ ap (λ (t : List ℕ). get_or t 0 0) e in
    inl (ap length e, omega arith)
zone_length text fraction zone a parts (utc (inr e) f) =
    let long = ap length parts ∙ length-append fraction zone in
    let at : length text - 1 ≡ length fraction + 0 = omega (arith, long, ap length e) in
    let last : get_or text (length text - 1) 0 ≡ 122 = ap (λ (n : ℕ). get_or text n 0) at ∙ ap (λ (t : List ℕ). get_or t (length fraction + 0) 0) parts ∙ get_or-append-add fraction zone 0 0 ∙ ap (λ (t : List ℕ). get_or t 0 0) e in
    inl (ap length e, omega arith)
zone_length text fraction zone a parts (east o m e is f) = inr (offset_last text fraction zone o 43 m parts e is)
zone_length text fraction zone a parts (west o m e is f) = inr (offset_last text fraction zone o 45 m parts e is)

end_unique : (text : List ℕ) (a b : ℤ) → IsEnd text a → IsEnd text b → a ≡ b
end_unique text a b h k =
    let same : length h.zone ≡ length k.zone = elim (zone_length _ _ _ _ h.parts h.zone_is) [
      | inl p ↦ elim (zone_length _ _ _ _ k.parts k.zone_is) [ inl q ↦ omega (arith, p.0, q.0) | inr q ↦ absurd (omega (arith, p.1, q.1)) ]
      | inr p ↦ elim (zone_length _ _ _ _ k.parts k.zone_is) [ inl q ↦ absurd (omega (arith, p.1, q.1)) | inr q ↦ omega (arith, p.0, q.0) ]
    ] in
    let p = end_front text a (length k.zone) h same in
    let q = end_front text b (length k.zone) k refl in
    let micros = fraction_unique _ _ _ p.1 q.1 in
    let ahead = zone_unique _ _ _ p.2 q.2 in
    h.value ∙ (rw (micros, ahead) (sym k.value))

-- a text stands for one moment at most
pub moment_unique : (text : List ℕ) (a b : ℤ) → IsMoment text a → IsMoment text b → a ≡ b
moment_unique text a b h k =
    let p = places text a h in
    let q = places text b k in
    let number = date_unique _ _ _ p.date_is q.date_is in
    let seconds = time_unique _ _ _ p.time_is q.time_is in
    let added = end_unique _ _ _ p.end_is q.end_is in
    p.value ∙ (rw (number, seconds, added) (sym q.value))

-- two moments with one text are the same
pub moment_text-injective : (a b : ℤ) → IsInMoments a → IsInMoments b → moment_text a ≡ moment_text b → a ≡ b
moment_text-injective a b low high e =
    moment_unique (moment_text b) a b (subst (λ (t : List ℕ). IsMoment t a) e (moment_text_is a low)) (moment_text_is b high)

-- digits, `-`, `.`, `:`, `T` and `Z` lie in one range of bytes, which has no quotation mark and no backslash
two_bytes : (n : ℕ) (rest : List ℕ) → n ≤ 99 → All (IsInRange 45 90) rest → All (IsInRange 45 90) (two_digits n ++ rest)
two_bytes n rest small h =
    All-cons (IsInRange 45 90) (48 + n / 10) ((48 + n % 10) ∷ rest) (omega arith, omega arith) (All-cons (IsInRange 45 90) (48 + n % 10) rest (omega arith, omega arith) h)

one_byte : (b : ℕ) (rest : List ℕ) → IsInRange 45 90 b → All (IsInRange 45 90) rest → All (IsInRange 45 90) (b ∷ rest)
one_byte b rest h all = All-cons (IsInRange 45 90) b rest h all

date_bytes : (d : CalendarDate) (rest : List ℕ) → d.year ≤ 9999 → d.month ≤ 99 → d.day ≤ 99 → All (IsInRange 45 90) rest → All (IsInRange 45 90) (text_of_date d ++ rest)
date_bytes d rest year month day all =
    two_bytes (d.year / 100) (two_digits (d.year % 100) ++ 45 ∷ (two_digits d.month ++ 45 ∷ (two_digits d.day ++ rest))) (omega arith)
    (two_bytes (d.year % 100) (45 ∷ (two_digits d.month ++ 45 ∷ (two_digits d.day ++ rest))) (omega arith)
    (one_byte 45 (two_digits d.month ++ 45 ∷ (two_digits d.day ++ rest)) (omega arith, omega arith)
    (two_bytes d.month (45 ∷ (two_digits d.day ++ rest)) month
    (one_byte 45 (two_digits d.day ++ rest) (omega arith, omega arith) (two_bytes d.day rest day all)))))

time_bytes : (n : ℕ) (rest : List ℕ) → n < 86_400 → All (IsInRange 45 90) rest → All (IsInRange 45 90) (text_of_seconds n ++ rest)
time_bytes n rest small all =
    two_bytes (n / 3600) (58 ∷ (two_digits (n / 60 % 60) ++ 58 ∷ (two_digits (n % 60) ++ rest))) (omega arith)
    (one_byte 58 (two_digits (n / 60 % 60) ++ 58 ∷ (two_digits (n % 60) ++ rest)) (omega arith, omega arith)
    (two_bytes (n / 60 % 60) (58 ∷ (two_digits (n % 60) ++ rest)) (omega arith)
    (one_byte 58 (two_digits (n % 60) ++ rest) (omega arith, omega arith) (two_bytes (n % 60) rest (omega arith) all))))

fraction_bytes : (n : ℕ) → n < 1_000_000 → All (IsInRange 45 90) (text_of_fraction n)
fraction_bytes n small =
    let six : All (IsInRange 45 90) (six_digits n) =
    two_bytes (n / 10000) (four_digits (n % 10000)) (omega arith)
    (two_bytes (n % 10000 / 100) (two_digits (n % 10000 % 100)) (omega arith)
    (two_bytes (n % 10000 % 100) [] (omega arith) (All-nil (IsInRange 45 90)))) in
    elim (n == 0) as (λ b. All (IsInRange 45 90) (cond b [] (46 ∷ without_trailing_zeros (six_digits n)))) [
      | true ↦ All-nil (IsInRange 45 90)
      | false ↦ one_byte 46 (without_trailing_zeros (six_digits n)) (omega arith, omega arith) (All-kept (IsInRange 45 90) (six_digits n) six)
    ]

text_after-bytes : (n : ℕ) → n < 315_537_897_600_000_000 → All (IsInRange 45 90) (text_after n)
unfolding text_after
text_after-bytes n small =
    let days = n / 86_400_000_000 in
    let low : days ≤ 3_652_058 = omega arith in
    let second : n % 86_400_000_000 / 1_000_000 < 86_400 = omega arith in
    let micro : n % 1_000_000 < 1_000_000 = omega arith in
    let h = date_after_is days in
    let ends = text_of_fraction (n % 1_000_000) ++ 90 ∷ [] in
    date_bytes (date_after days) (84 ∷ (text_of_seconds (n % 86_400_000_000 / 1_000_000) ++ ends)) (date_after-year days low) (omega (arith, h.month_in.1)) (grind (arith, h.day_in))
    (one_byte 84 (text_of_seconds (n % 86_400_000_000 / 1_000_000) ++ ends) (omega arith, omega arith)
    (time_bytes _ ends second
    (All-append (IsInRange 45 90) (text_of_fraction (n % 1_000_000)) (90 ∷ []) (fraction_bytes _ micro) (one_byte 90 [] (omega arith, omega arith) (All-nil (IsInRange 45 90))))))

-- each byte of the canonical text is from `-` to `Z`: so it stands in a JSON text as it is
pub moment_text-bytes : (moment : ℤ) → IsInMoments moment → All (IsInRange 45 90) (moment_text moment)
moment_text-bytes moment h =
    let z = moment +ℤ pos 62_135_596_800_000_000 in
    text_after-bytes (unsigned_abs z) (omega (arith, signed_arith, unsigned_abs-parts z, one_part z))

length-kept : (digits : List ℕ) → length (without_trailing_zeros digits) ≤ length digits
length-kept [] = omega arith
length-kept (d ∷ ds) =
    elim (list_all (λ x. x == 48) (d ∷ ds)) as (λ b. length (cond b [] (d ∷ without_trailing_zeros ds)) ≤ length (d ∷ ds)) [
      | true ↦ omega arith
      | false ↦ omega (arith, length-kept ds)
    ]

length-fraction : (n : ℕ) → length (text_of_fraction n) ≤ 7
length-fraction n =
    elim (n == 0) as (λ b. length (cond b [] (46 ∷ without_trailing_zeros (six_digits n))) ≤ 7) [
      | true ↦ omega arith
      | false ↦ omega (arith, length-kept (six_digits n))
    ]

length-text_after : (n : ℕ) → IsInRange 20 27 (length (text_after n))
unfolding text_after
length-text_after n =
    let e = length-append (text_of_fraction (n % 1_000_000)) (90 ∷ []) in
    let l = length-fraction (n % 1_000_000) in
    (omega (arith, e, l), omega (arith, e, l))

-- the canonical text has 20 to 27 bytes
pub length-moment_text : (moment : ℤ) → IsInRange 20 27 (length (moment_text moment))
length-moment_text moment = length-text_after (unsigned_abs (moment +ℤ pos 62_135_596_800_000_000))
