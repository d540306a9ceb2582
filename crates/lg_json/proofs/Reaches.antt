-- What the reading comes to over blanks, words and numbers.
use Rattle.std.proofs.Common.{◌≡◌, ℕ, suc, ◌+◌, ◌-◌, ◌*◌, ◌^◌, ◌<◌, ◌≤◌, ◌⊎◌, Bool, true, false, nat_le, ◌==◌, List, [], ◌∷◌, ◌++◌, length, Result, Ok, Err, codes, refl, sym, ap, ◌∙◌, subst, inl, inr, arith, eqb-true, ltb-false}
use Rattle.std.proofs.lemmas.Bool.{cond-true, cond-false, leb-false, le-leb, lt-leb, le-ltb, ne_eqb, and_from, or_cases, cases_Bool}
use Rattle.lg_json.specs.Tree.{Tree}
use Rattle.lg_json.specs.Tree.Tree.{null, truth, whole}
use Rattle.lg_json.specs.Grammar.{IsBlank, IsBlankByte, IsDigit, AreDigits, IsInt, number_from, signed, minus_if}
use Rattle.lg_json.specs.Reading.{Frame, Mode, State, at, is_blank, is_digit, complete, begin, after, capped, fits, begins_part, end_number, step, whole_text, finish, and_then, reads}
use Rattle.lg_json.specs.Fault.{EndsNumber}
use Rattle.lg_json.specs.Tokens.{Passes, begins}
use Rattle.lg_json.specs.Reading.Mode.{before_value, before_first, before_first_name, before_name, before_colon, after_minus, after_zero, in_digits, after_item, ended}
use Rattle.lg_json.specs.declared.json.JsonFault.{JsonFault}
use Rattle.lg_json.specs.declared.json.JsonFault.TheVariants.{NotWhole, TooWide}

abbrev pub continue : ℕ → List ℕ → State → Result Tree JsonFault
continue i bs s = reads i s bs

pub reads_one : (i : ℕ) (fs : List Frame) (m : Mode) (b : ℕ) (bs : List ℕ) (s : State) → step i fs m b ≡ Ok s → reads i (at fs m) (b ∷ bs) ≡ reads (suc i) s bs
unfolding reads
reads_one i fs m b bs s e = ap (λ r. and_then r (λ next. reads (suc i) next bs)) e

pub reads_stop : (i : ℕ) (fs : List Frame) (m : Mode) (b : ℕ) (bs : List ℕ) (f : JsonFault) → step i fs m b ≡ Err f → reads i (at fs m) (b ∷ bs) ≡ Err f
unfolding reads
reads_stop i fs m b bs f e = ap (λ r. and_then r (λ next. reads (suc i) next bs)) e

pub reads_none : (i : ℕ) (s : State) → reads i s [] ≡ finish i s.frames s.mode
unfolding reads
reads_none i s = refl

pub reads_at : (i j : ℕ) (s : State) (bs : List ℕ) → i ≡ j → reads i s bs ≡ reads j s bs
reads_at i j s bs e = ap (λ k. reads k s bs) e

-- blanks
pub blank_test : (b : ℕ) → IsBlankByte b → is_blank b ≡ true
blank_test b h = elim h [
  | inl e ↦ rw e refl
  | inr h1 ↦ elim h1 [ inl e ↦ rw e refl | inr h2 ↦ elim h2 [ inl e ↦ rw e refl | inr e ↦ rw e refl ] ]
]

pub past_blanks : (fs : List Frame) (m : Mode) (blank rest : List ℕ) (i j : ℕ) → Passes fs m → IsBlank blank → j ≡ i + length blank → reads i (at fs m) (blank ++ rest) ≡ reads j (at fs m) rest
past_blanks fs m [] rest i j p h e = reads_at i j (at fs m) rest (omega arith)
past_blanks fs m (b ∷ bs) rest i j p h e =
    reads_one i fs m b (bs ++ rest) (at fs m) (p.over i b (blank_test b h.0)) ∙ past_blanks fs m bs rest (suc i) j p h.1 (omega arith)

pub value_passes : (fs : List Frame) → Passes fs before_value
unfolding step
value_passes fs = record { over = λ i b e. cond-true (is_blank b) _ _ e }

pub first_passes : (fs : List Frame) → Passes fs before_first
unfolding step
first_passes fs = record { over = λ i b e. cond-true (is_blank b) _ _ e }

pub first_name_passes : (fs : List Frame) → Passes fs before_first_name
unfolding step
first_name_passes fs = record { over = λ i b e. cond-true (is_blank b) _ _ e }

pub name_passes : (fs : List Frame) → Passes fs before_name
unfolding step
name_passes fs = record { over = λ i b e. cond-true (is_blank b) _ _ e }

pub colon_passes : (fs : List Frame) → Passes fs before_colon
unfolding step
colon_passes fs = record { over = λ i b e. cond-true (is_blank b) _ _ e }

pub item_passes : (fs : List Frame) → Passes fs after_item
unfolding step
item_passes fs = record { over = λ i b e. cond-true (is_blank b) _ _ e }

pub end_passes : (fs : List Frame) (t : Tree) → Passes fs (ended t)
unfolding step
end_passes fs t = record { over = λ i b e. cond-true (is_blank b) _ _ e }

pub begins_at : (i : ℕ) (fs : List Frame) (b : ℕ) (bs : List ℕ) (s : State) → begin i fs b ≡ Ok s → begins i fs (b ∷ bs) ≡ reads (suc i) s bs
begins_at i fs b bs s e = ap (λ r. and_then r (λ next. reads (suc i) next bs)) e

pub value_begins : (i : ℕ) (fs : List Frame) (b : ℕ) (bs : List ℕ) → is_blank b ≡ false → reads i (at fs before_value) (b ∷ bs) ≡ begins i fs (b ∷ bs)
unfolding reads step
value_begins i fs b bs e = ap (λ r. and_then r (λ next. reads (suc i) next bs)) (cond-false (is_blank b) _ _ e)

pub first_begins : (i : ℕ) (fs : List Frame) (b : ℕ) (bs : List ℕ) → is_blank b ≡ false → (b == 93) ≡ false → reads i (at fs before_first) (b ∷ bs) ≡ begins i fs (b ∷ bs)
unfolding reads step
first_begins i fs b bs e f = ap (λ r. and_then r (λ next. reads (suc i) next bs)) (cond-false (is_blank b) _ _ e ∙ cond-false (b == 93) _ _ f)

-- words
pub word_null : (i : ℕ) (fs : List Frame) (rest : List ℕ) → begins i fs (codes "null" ++ rest) ≡ reads (suc (suc (suc (suc i)))) (complete fs null) rest
unfolding reads step begin
word_null i fs rest = refl

pub word_true : (i : ℕ) (fs : List Frame) (rest : List ℕ) → begins i fs (codes "true" ++ rest) ≡ reads (suc (suc (suc (suc i)))) (complete fs (truth true)) rest
unfolding reads step begin
word_true i fs rest = refl

pub word_false : (i : ℕ) (fs : List Frame) (rest : List ℕ) → begins i fs (codes "false" ++ rest) ≡ reads (suc (suc (suc (suc (suc i))))) (complete fs (truth false)) rest
unfolding reads step begin
word_false i fs rest = refl

-- numbers

-- a value that is complete and the state after it
pub after_complete : (i : ℕ) (fs : List Frame) (t : Tree) (b : ℕ) → step i (complete fs t).frames (complete fs t).mode b ≡ after i fs t b
unfolding step after
after_complete i [] t b = refl
after_complete i (f ∷ fs) t b = refl

pub finish_complete : (i : ℕ) (fs : List Frame) (t : Tree) → finish i (complete fs t).frames (complete fs t).mode ≡ whole_text i fs t
unfolding finish
finish_complete i [] t = refl
finish_complete i (f ∷ fs) t = refl

pub number_ends : (rest : List ℕ) (i : ℕ) (fs : List Frame) (negative : Bool) (n p : ℕ) → EndsNumber rest → fits negative n ≡ true → reads i (at fs (in_digits negative n p)) rest ≡ reads i (complete fs (whole (signed negative n))) rest
unfolding reads step finish end_number
number_ends [] i fs negative n p h ok = cond-true (fits negative n) _ _ ok ∙ sym (finish_complete i fs (whole (signed negative n)))
number_ends (b ∷ bs) i fs negative n p h ok =
    ap (λ r. and_then r (λ next. reads (suc i) next bs))
    (cond-false (is_digit b) _ _ h.0 ∙ cond-false (begins_part b) _ _ h.1 ∙ cond-true (fits negative n) _ _ ok ∙ sym (after_complete i fs (whole (signed negative n)) b))

pub number_wide : (rest : List ℕ) (i : ℕ) (fs : List Frame) (negative : Bool) (n p : ℕ) → EndsNumber rest → fits negative n ≡ false → reads i (at fs (in_digits negative n p)) rest ≡ Err (TooWide p)
unfolding reads step finish end_number
number_wide [] i fs negative n p h wide = cond-false (fits negative n) _ _ wide
number_wide (b ∷ bs) i fs negative n p h wide =
    ap (λ r. and_then r (λ next. reads (suc i) next bs))
    (cond-false (is_digit b) _ _ h.0 ∙ cond-false (begins_part b) _ _ h.1 ∙ cond-false (fits negative n) _ _ wide)

not_digit_of_part : (b : ℕ) → begins_part b ≡ true → is_digit b ≡ false
not_digit_of_part b e = elim (or_cases _ (b == 69) e) [
  | inl f ↦ elim (or_cases (b == 46) (b == 101) f) [ inl g ↦ rw (eqb-true b 46 g) refl | inr g ↦ rw (eqb-true b 101 g) refl ]
  | inr f ↦ rw (eqb-true b 69 f) refl
]

pub number_part : (b : ℕ) (bs : List ℕ) (i : ℕ) (fs : List Frame) (negative : Bool) (n p : ℕ) → begins_part b ≡ true → reads i (at fs (in_digits negative n p)) (b ∷ bs) ≡ Err (NotWhole p)
unfolding reads step end_number
number_part b bs i fs negative n p e =
    ap (λ r. and_then r (λ next. reads (suc i) next bs)) (cond-false (is_digit b) _ _ (not_digit_of_part b e) ∙ cond-true (begins_part b) _ _ e)

zero_is_in : (negative : Bool) → fits negative 0 ≡ true
zero_is_in true = refl
zero_is_in false = refl

pub zero_ends : (rest : List ℕ) (i : ℕ) (fs : List Frame) (negative : Bool) (p : ℕ) → EndsNumber rest → reads i (at fs (after_zero negative p)) rest ≡ reads i (complete fs (whole (signed negative 0))) rest
unfolding reads step finish end_number
zero_ends [] i fs negative p h = sym (finish_complete i fs (whole (signed negative 0)))
zero_ends (b ∷ bs) i fs negative p h =
    ap (λ r. and_then r (λ next. reads (suc i) next bs))
    (cond-false (begins_part b) _ _ h.1 ∙ cond-true (fits negative 0) _ _ (zero_fits negative) ∙ sym (after_complete i fs (whole (signed negative 0)) b))
  where
    zero_fits : (negative : Bool) → fits negative 0 ≡ true
    zero_fits true = refl
    zero_fits false = refl

pub zero_then : (b : ℕ) (bs : List ℕ) (i : ℕ) (fs : List Frame) (negative : Bool) (p : ℕ) → begins_part b ≡ false → reads i (at fs (after_zero negative p)) (b ∷ bs) ≡ reads i (complete fs (whole (signed negative 0))) (b ∷ bs)
unfolding reads step end_number
zero_then b bs i fs negative p e =
    ap (λ r. and_then r (λ next. reads (suc i) next bs)) (cond-false (begins_part b) _ _ e ∙ cond-true (fits negative 0) _ _ (zero_is_in negative) ∙ sym (after_complete i fs (whole (signed negative 0)) b))

pub zero_part : (b : ℕ) (bs : List ℕ) (i : ℕ) (fs : List Frame) (negative : Bool) (p : ℕ) → begins_part b ≡ true → reads i (at fs (after_zero negative p)) (b ∷ bs) ≡ Err (NotWhole p)
unfolding reads step end_number
zero_part b bs i fs negative p e = ap (λ r. and_then r (λ next. reads (suc i) next bs)) (cond-true (begins_part b) _ _ e)

more_capped : (n m d : ℕ) → n ≡ capped m → capped (n * 10 + d) ≡ capped (m * 10 + d)
more_capped n m d e = omega arith

pub digit_test : (b : ℕ) → IsDigit b → is_digit b ≡ true
digit_test b h = and_from (nat_le 48 b) (nat_le b 57) (le-leb 48 b h.0) (le-leb b 57 h.1)

pub one_digit : (i : ℕ) (fs : List Frame) (negative : Bool) (n p d : ℕ) → is_digit d ≡ true → step i fs (in_digits negative n p) d ≡ Ok (at fs (in_digits negative (capped (n * 10 + (d - 48))) p))
unfolding step
one_digit i fs negative n p d e = cond-true (is_digit d) _ _ e

pub past_digits : (ds rest : List ℕ) (i j : ℕ) (fs : List Frame) (negative : Bool) (n m p : ℕ) → AreDigits ds → j ≡ i + length ds → n ≡ capped m
    → reads i (at fs (in_digits negative n p)) (ds ++ rest) ≡ reads j (at fs (in_digits negative (capped (number_from m ds)) p)) rest
past_digits [] rest i j fs negative n m p h e v = ap (λ k. reads i (at fs (in_digits negative k p)) rest) v ∙ reads_at i j _ rest (omega arith)
past_digits (d ∷ ds) rest i j fs negative n m p h e v =
    reads_one i fs (in_digits negative n p) d (ds ++ rest) (at fs (in_digits negative (capped (n * 10 + (d - 48))) p)) (one_digit i fs negative n p d (digit_test d h.0))
    ∙ past_digits ds rest (suc i) j fs negative (capped (n * 10 + (d - 48))) (m * 10 + (d - 48)) p h.1 (omega arith) (more_capped n m (d - 48) v)

pub begin_digit : (i : ℕ) (fs : List Frame) (d : ℕ) → 49 ≤ d → d ≤ 57 → begin i fs d ≡ Ok (at fs (in_digits false (d - 48) i))
unfolding begin
begin_digit i fs d low high =
    let ne : (k : ℕ) → (k < 49) ⊎ (57 < k) → (d == k) ≡ false = λ k h. ne_eqb d k (λ e. elim h [ inl a ↦ omega arith | inr a ↦ omega arith ]) in
    cond-false (d == 34) _ _ (ne 34 (inl (omega arith))) ∙ cond-false (d == 91) _ _ (ne 91 (inr (omega arith))) ∙ cond-false (d == 123) _ _ (ne 123 (inr (omega arith))) ∙
    cond-false (d == 110) _ _ (ne 110 (inr (omega arith))) ∙ cond-false (d == 116) _ _ (ne 116 (inr (omega arith))) ∙ cond-false (d == 102) _ _ (ne 102 (inr (omega arith))) ∙
    cond-false (d == 45) _ _ (ne 45 (inl (omega arith))) ∙ cond-false (d == 48) _ _ (ne 48 (inl (omega arith))) ∙ cond-true (is_digit d) _ _ (digit_test d (omega arith, high))

pub minus_zero : (i : ℕ) (fs : List Frame) (p : ℕ) → step i fs (after_minus p) 48 ≡ Ok (at fs (after_zero true p))
unfolding step
minus_zero i fs p = refl

pub minus_digit : (i : ℕ) (fs : List Frame) (p d : ℕ) → 49 ≤ d → d ≤ 57 → step i fs (after_minus p) d ≡ Ok (at fs (in_digits true (d - 48) p))
unfolding step
minus_digit i fs p d low high = cond-false (d == 48) _ _ (ne_eqb d 48 (λ e. omega arith)) ∙ cond-true (is_digit d) _ _ (digit_test d (omega arith, high))

-- a number that is too wide stays so
more_wide : (negative : Bool) (n d : ℕ) → fits negative n ≡ false → fits negative (capped (n * 10 + d)) ≡ false
more_wide true n d e = let h : 2 ^ 127 < n = leb-false n (2 ^ 127) e in lt-leb (capped (n * 10 + d)) (2 ^ 127) (omega arith)
more_wide false n d e = let h : 2 ^ 127 ≤ n = ltb-false n (2 ^ 127) e in le-ltb (capped (n * 10 + d)) (2 ^ 127) (omega arith)

wide_digit : (b : ℕ) (i : ℕ) (fs : List Frame) (negative : Bool) (n p : ℕ) → is_digit b ≡ false → fits negative n ≡ false → (f : JsonFault) × (step i fs (in_digits negative n p) b ≡ Err f)
unfolding step end_number
wide_digit b i fs negative n p no_digit wide = elim (cases_Bool (begins_part b)) [
  | inl e ↦ (NotWhole p, cond-false (is_digit b) _ _ no_digit ∙ cond-true (begins_part b) _ _ e)
  | inr e ↦ (TooWide p, cond-false (is_digit b) _ _ no_digit ∙ cond-false (begins_part b) _ _ e ∙ cond-false (fits negative n) _ _ wide)
]

wide_never : (xs : List ℕ) (i : ℕ) (fs : List Frame) (negative : Bool) (n p : ℕ) (t : Tree) → fits negative n ≡ false → reads i (at fs (in_digits negative n p)) xs ≡ Ok t → ⊥
unfolding finish
wide_never [] i fs negative n p t wide e = let g : Err (TooWide p) ≡ Ok t = sym (reads_none i (at fs (in_digits negative n p)) ∙ cond-false (fits negative n) _ _ wide) ∙ e in cc
wide_never (b ∷ bs) i fs negative n p t wide e = elim (cases_Bool (is_digit b)) [
  | inl digit ↦ wide_never bs (suc i) fs negative (capped (n * 10 + (b - 48))) p t (more_wide negative n (b - 48) wide) (sym (reads_one i fs (in_digits negative n p) b bs _ (one_digit i fs negative n p b digit)) ∙ e)
  | inr no_digit ↦ (let r = wide_digit b i fs negative n p no_digit wide in let g : Err r.0 ≡ Ok t = sym (reads_stop i fs (in_digits negative n p) b bs r.0 r.1) ∙ e in cc)
]

-- a number's value before it ends
pub record IsInNumber (fs : List Frame) (negative : Bool) (value p i : ℕ) (x : List ℕ → Result Tree JsonFault) : Type 0 where
  pub ends : (rest : List ℕ) → EndsNumber rest → fits negative (capped value) ≡ true → x rest ≡ reads i (complete fs (whole (signed negative (capped value)))) rest
  pub wide : (rest : List ℕ) → EndsNumber rest → fits negative (capped value) ≡ false → x rest ≡ Err (TooWide p)
  pub has_part : (b : ℕ) (rest : List ℕ) → begins_part b ≡ true → x (b ∷ rest) ≡ Err (NotWhole p)
  pub no_value : (rest : List ℕ) (t : Tree) → fits negative (capped value) ≡ false → x rest ≡ Ok t → ⊥

in_number : (i j : ℕ) (fs : List Frame) (negative : Bool) (d p : ℕ) (ds : List ℕ) → d ≤ 57 → AreDigits ds → j ≡ i + length ds → IsInNumber fs negative (number_from (0 * 10 + (d - 48)) ds) p j (λ rest. reads i (at fs (in_digits negative (d - 48) p)) (ds ++ rest))
in_number i j fs negative d p ds high h e =
    let small : d - 48 ≡ capped (0 * 10 + (d - 48)) = omega arith in
    let past : (rest : List ℕ) → reads i (at fs (in_digits negative (d - 48) p)) (ds ++ rest) ≡ reads j (at fs (in_digits negative (capped (number_from (0 * 10 + (d - 48)) ds)) p)) rest = λ rest. past_digits ds rest i j fs negative (d - 48) (0 * 10 + (d - 48)) p h e small in
    record {
      ends = λ rest r ok. past rest ∙ number_ends rest j fs negative _ p r ok;
      wide = λ rest r w. past rest ∙ number_wide rest j fs negative _ p r w;
      has_part = λ b rest f. past (b ∷ rest) ∙ number_part b rest j fs negative _ p f;
      no_value = λ rest t w g. wide_never rest j fs negative _ p t w (sym (past rest) ∙ g);
    }

in_zero : (i : ℕ) (fs : List Frame) (negative : Bool) (p : ℕ) → IsInNumber fs negative 0 p i (λ rest. reads i (at fs (after_zero negative p)) rest)
in_zero i fs negative p = record {
  ends = λ rest r ok. zero_ends rest i fs negative p r;
  wide = λ rest r w. absurd (never negative w);
  has_part = λ b rest f. zero_part b rest i fs negative p f;
  no_value = λ rest t w g. never negative w;
}
  where
    never : (negative : Bool) → fits negative (capped 0) ≡ false → ⊥
    never true w = cc
    never false w = cc

in_number_from : (fs : List Frame) (negative : Bool) (value p i : ℕ) (x y : List ℕ → Result Tree JsonFault) → ((rest : List ℕ) → y rest ≡ x rest) → IsInNumber fs negative value p i x → IsInNumber fs negative value p i y
in_number_from fs negative value p i x y e n = record {
  ends = λ rest r ok. e rest ∙ n.ends rest r ok;
  wide = λ rest r w. e rest ∙ n.wide rest r w;
  has_part = λ b rest f. e (b ∷ rest) ∙ n.has_part b rest f;
  no_value = λ rest t w g. n.no_value rest t w (sym (e rest) ∙ g);
}

-- a number from its first byte on
pub number_goes : (i j : ℕ) (fs : List Frame) (negative : Bool) (digits : List ℕ) → IsInt digits → j ≡ i + length (minus_if negative ++ digits) → IsInNumber fs negative (number_from 0 digits) i j (λ rest. begins i fs ((minus_if negative ++ digits) ++ rest))
unfolding begin
number_goes i j fs false [] h e = elim h [ inl f ↦ absurd cc | inr f ↦ absurd f ]
number_goes i j fs true [] h e = elim h [ inl f ↦ absurd cc | inr f ↦ absurd f ]
number_goes i j fs false (d ∷ ds) h e = elim h [
  | inl f ↦ (let e1 : suc i ≡ j = omega (arith, ap length f) in subst (λ l. IsInNumber fs false (number_from 0 l) i j (λ rest. begins i fs (l ++ rest))) (sym f) (subst (λ k. IsInNumber fs false 0 i k (λ rest. begins i fs (48 ∷ rest))) e1 (in_zero (suc i) fs false i)))
  | inr f ↦ in_number_from fs false (number_from 0 (d ∷ ds)) i j _ _ (λ rest. begins_at i fs d (ds ++ rest) _ (begin_digit i fs d f.0 f.1)) (in_number (suc i) j fs false d i ds f.1 f.2 (omega arith))
]
number_goes i j fs true (d ∷ ds) h e = elim h [
  | inl f ↦ (let e1 : suc (suc i) ≡ j = omega (arith, ap length f) in subst (λ l. IsInNumber fs true (number_from 0 l) i j (λ rest. begins i fs (45 ∷ (l ++ rest)))) (sym f)
      (subst (λ k. IsInNumber fs true 0 i k (λ rest. begins i fs (45 ∷ 48 ∷ rest))) e1 (in_number_from fs true 0 i (suc (suc i)) _ _ (λ rest. reads_one (suc i) fs (after_minus i) 48 rest (at fs (after_zero true i)) (minus_zero (suc i) fs i)) (in_zero (suc (suc i)) fs true i))))
  | inr f ↦ in_number_from fs true (number_from 0 (d ∷ ds)) i j _ _ (λ rest. reads_one (suc i) fs (after_minus i) d (ds ++ rest) (at fs (in_digits true (d - 48) i)) (minus_digit (suc i) fs i d f.0 f.1)) (in_number (suc (suc i)) j fs true d i ds f.1 f.2 (omega arith))
]
