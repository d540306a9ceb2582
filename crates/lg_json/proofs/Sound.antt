-- The reading keeps what stands before it, so that a value that it gives is that of its bytes.
use Rattle.std.proofs.Common.{◌≡◌, ℕ, suc, ◌+◌, ◌-◌, ◌*◌, ◌^◌, ◌<◌, ◌≤◌, Bool, true, false, nat_lt, ◌==◌, List, [], ◌∷◌, ◌++◌, length, Result, Ok, Err, IfOk, refl, sym, ap, ◌∙◌, subst, inl, inr, arith, append_assoc, append-nil, eqb-true, ltb-true, Option, Some, None}
use Rattle.std.proofs.lemmas.Bool.{cond_both, eqb-false, leb-true}
use Rattle.std.proofs.lemmas.List.{length-append}
use Rattle.lg_json.specs.Tree.{Tree, trees, entries}
use Rattle.lg_json.specs.Tree.Tree.{whole, text, list, members}
use Rattle.lg_json.specs.Grammar.{IsBlank, IsBlankByte, IsDigit, IsPositive, IsInt, IsWhole, number_from, signed, minus_if, IsString, IsMember, IsValue, IsJson}
use Rattle.lg_json.specs.Reading.{Frame, Mode, State, at, is_blank, is_digit, with_value, complete, begin, follow_on, follow, after, capped, fits, begins_part, end_number, closes, has_name, end_text, text_step, in_text_step, TextState, word_step, close_empty, step, whole_text, finish, and_then, reads, reading}
use Rattle.lg_json.specs.Reading.Frame.{in_list, in_object, named}
use Rattle.lg_json.specs.Reading.Mode.{before_value, before_first, before_first_name, before_name, before_colon, in_word, after_minus, after_zero, in_digits, in_text, after_item, ended}
use Rattle.lg_json.specs.Before.{BeforeValue}
use Rattle.lg_json.specs.declared.json.JsonFault.{JsonFault}
use Rattle.lg_json.specs.Reading.{Role}
use Rattle.lg_json.specs.declared.state.TextMode.{TextMode}
use Rattle.lg_json.specs.declared.state.TextMode.TheVariants.{Character, Escape, Unit as UnitMode, AfterHigh, AfterHighEscape, Low}
use Rattle.lg_containers.specs.declared.utf8.Utf8State.TheVariants.{Boundary, Inside}
use Rattle.lg_json.specs.Texts.{Spelled, TextStands}
use Rattle.lg_json.proofs.Standing.{DigitsStand, WordStands, RoleStands, FirstStands, FirstNameStands, NextNameStands, ColonStands, ItemStands, EndStands, Stands, StandsAt}
use Rattle.lg_json.proofs.Lists.{blank_byte, digit_byte, all_snoc, blank_snoc, snoc, snoc2, snoc3, padded, padded_snoc, items_snoc, members_snoc, items_push, members_push}
use Rattle.lg_json.proofs.Texts.{spelled_none, TextGoesOn, text_goes_on}

abbrev pub Keeps : List ℕ → Result State JsonFault → Type 0
Keeps front r = IfOk r (StandsAt front)

-- the last byte is the one that a test found
pub last_is : (front : List ℕ) (b k : ℕ) → (b == k) ≡ true → front ++ b ∷ [] ≡ front ++ k ∷ []
last_is front b k e = ap (λ j. front ++ j ∷ []) (eqb-true b k e)

pub member_made : (name : List ℕ) (t : Tree) (blank quoted gap space word : List ℕ) → IsBlank blank → IsString name quoted → IsBlank gap → IsBlank space → IsValue t word → IsMember name (IsValue t) ((blank ++ (quoted ++ gap)) ++ 58 ∷ (space ++ word))
member_made name t blank quoted gap space word hb hq hg hs hw =
    (blank ++ (quoted ++ gap), space ++ word, (blank, quoted, gap, hb, hq, hg, refl), padded (IsValue t) space word hs hw, refl)

pub completes : (fs : List Frame) (t : Tree) (outer word : List ℕ) → BeforeValue fs outer → IsValue t word → StandsAt (outer ++ word) (complete fs t)
completes [] t outer word before value = padded (IsValue t) outer word before value
completes (in_list [] ∷ fs) t outer word b value =
    (b.0, b.1 ++ word, b.2, padded (IsValue t) b.1 word b.3 value, ap (λ (l : List ℕ). l ++ word) b.4 ∙ append_assoc b.0 (91 ∷ b.1) word)
completes (in_list (u ∷ us) ∷ fs) t outer word b value = (
  b.0,
  b.1 ++ 44 ∷ (b.2 ++ word),
  b.3,
  items_push u us t b.1 (b.2 ++ word) b.4 (padded (IsValue t) b.2 word b.5 value),
  ap (λ (l : List ℕ). l ++ word) b.6 ∙ append_assoc b.0 (91 ∷ (b.1 ++ 44 ∷ b.2)) word ∙ ap (λ (l : List ℕ). b.0 ++ 91 ∷ l) (append_assoc b.1 (44 ∷ b.2) word),
)
completes (in_object ms ∷ fs) t outer word b value = absurd b
completes (named [] name ∷ fs) t outer word b value =
    let n = b.4 in (
      n.0,
      (n.1 ++ (b.1 ++ b.2)) ++ 58 ∷ (b.3 ++ word),
      n.2,
      member_made name t n.1 b.1 b.2 b.3 word n.3 b.5 b.6 b.7 value,
      rw (b.8, n.4) (simp append_assoc),
    )
completes (named (m ∷ ms) name ∷ fs) t outer word b value =
    let n = b.4 in (
      n.0,
      n.1 ++ 44 ∷ ((n.2 ++ (b.1 ++ b.2)) ++ 58 ∷ (b.3 ++ word)),
      n.3,
      members_push m ms name t n.1 _ n.4 (member_made name t n.2 b.1 b.2 b.3 word n.5 b.5 b.6 b.7 value),
      rw (b.8, n.6) (simp append_assoc),
    )

-- the same, told of the bytes that were read
pub completed : (fs : List Frame) (t : Tree) (front outer word : List ℕ) → front ≡ outer ++ word → BeforeValue fs outer → IsValue t word → Keeps front (Ok (complete fs t))
completed fs t front outer word e before value = subst (λ l. StandsAt l (complete fs t)) (sym e) (completes fs t outer word before value)

first_digit : (front : List ℕ) (b : ℕ) → is_digit b ≡ true → (b == 48) ≡ false → (49 ≤ b) × (b ≤ 57)
first_digit front b e f = let d = digit_byte b e in let low : 48 ≤ b = d.0 in let high : b ≤ 57 = d.1 in let ne : b ≡ 48 → ⊥ = eqb-false b 48 f in (omega arith, omega arith)

digits_begin : (Outer : List ℕ → Type 0) (negative : Bool) (i p b : ℕ) (outer front : List ℕ) → Outer outer → p ≡ length outer → front ≡ outer ++ minus_if negative → is_digit b ≡ true → (b == 48) ≡ false → DigitsStand Outer negative (b - 48) p (front ++ b ∷ [])
digits_begin Outer negative i p b outer front before first e digit ne =
    let d = first_digit front b digit ne in
    let d0 : 49 ≤ b = d.0 in
    let d1 : b ≤ 57 = d.1 in
    record { outer = outer; digits = b ∷ []; before = before; first = first; positive = (d0, d1, tt); value = omega arith; parts = snoc front outer (minus_if negative) b e }

pub begin_keeps : (i : ℕ) (fs : List Frame) (b : ℕ) (front : List ℕ) → i ≡ length front → BeforeValue fs front → Keeps (front ++ b ∷ []) (begin i fs b)
unfolding begin
begin_keeps i fs b front place before =
    cond_both (b == 34) _ _ (Keeps (front ++ b ∷ [])) (λ e. (front, [], before, spelled_none, last_is front b 34 e))
    (λ _. cond_both (b == 91) _ _ (Keeps (front ++ b ∷ []))
    (λ e. cond_both (nat_lt (length fs) 64) _ _ (Keeps (front ++ b ∷ [])) (λ _. (front, [], before, tt, last_is front b 91 e)) (λ _. tt))
    (λ _. cond_both (b == 123) _ _ (Keeps (front ++ b ∷ []))
    (λ e. cond_both (nat_lt (length fs) 64) _ _ (Keeps (front ++ b ∷ [])) (λ _. (front, [], before, tt, last_is front b 123 e)) (λ _. tt))
    (λ _. cond_both (b == 110) _ _ (Keeps (front ++ b ∷ [])) (λ e. (front, 110 ∷ [], before, refl, last_is front b 110 e))
    (λ _. cond_both (b == 116) _ _ (Keeps (front ++ b ∷ [])) (λ e. (front, 116 ∷ [], before, refl, last_is front b 116 e))
    (λ _. cond_both (b == 102) _ _ (Keeps (front ++ b ∷ [])) (λ e. (front, 102 ∷ [], before, refl, last_is front b 102 e))
    (λ _. cond_both (b == 45) _ _ (Keeps (front ++ b ∷ [])) (λ e. (front, before, place, last_is front b 45 e))
    (λ _. cond_both (b == 48) _ _ (Keeps (front ++ b ∷ [])) (λ e. (front, before, place, last_is front b 48 e))
    (λ ne. cond_both (is_digit b) _ _ (Keeps (front ++ b ∷ [])) (λ e. digits_begin (BeforeValue fs) false i i b front front before place (sym (append-nil front)) e ne) (λ _. tt)))))))))

item_blank : (fs : List Frame) (b : ℕ) (front : List ℕ) → IsBlankByte b → ItemStands fs front → ItemStands fs (front ++ b ∷ [])
item_blank [] b front blank s = absurd s
item_blank (in_list [] ∷ fs) b front blank s = absurd s
item_blank (in_list (t ∷ ts) ∷ fs) b front blank s = (s.0, s.1 ++ b ∷ [], s.2, items_snoc t ts s.1 b blank s.3, snoc front s.0 (91 ∷ s.1) b s.4)
item_blank (in_object [] ∷ fs) b front blank s = absurd s
item_blank (in_object (m ∷ ms) ∷ fs) b front blank s = (s.0, s.1 ++ b ∷ [], s.2, members_snoc m ms s.1 b blank s.3, snoc front s.0 (123 ∷ s.1) b s.4)
item_blank (named ms name ∷ fs) b front blank s = absurd s

follow_on_keeps : (i : ℕ) (fs : List Frame) (b : ℕ) (front : List ℕ) → ItemStands fs front → Keeps (front ++ b ∷ []) (follow_on i fs b)
follow_on_keeps i [] b front s = absurd s
follow_on_keeps i (in_list [] ∷ fs) b front s = absurd s
follow_on_keeps i (in_list (t ∷ ts) ∷ fs) b front s =
    cond_both (b == 44) _ _ (Keeps (front ++ b ∷ [])) (λ e. (s.0, s.1, [], s.2, s.3, tt, last_is front b 44 e ∙ snoc front s.0 (91 ∷ s.1) 44 s.4))
    (λ _. cond_both (b == 93) _ _ (Keeps (front ++ b ∷ []))
    (λ e. completed fs (list (trees (t ∷ ts))) (front ++ b ∷ []) s.0 (91 ∷ (s.1 ++ 93 ∷ [])) (last_is front b 93 e ∙ snoc front s.0 (91 ∷ s.1) 93 s.4) s.2 (s.1, s.3, refl))
    (λ _. tt))
follow_on_keeps i (in_object [] ∷ fs) b front s = absurd s
follow_on_keeps i (in_object (m ∷ ms) ∷ fs) b front s =
    cond_both (b == 44) _ _ (Keeps (front ++ b ∷ [])) (λ e. (s.0, s.1, [], s.2, s.3, tt, last_is front b 44 e ∙ snoc front s.0 (123 ∷ s.1) 44 s.4))
    (λ _. cond_both (b == 125) _ _ (Keeps (front ++ b ∷ []))
    (λ e. completed fs (members (entries (m ∷ ms))) (front ++ b ∷ []) s.0 (123 ∷ (s.1 ++ 125 ∷ [])) (last_is front b 125 e ∙ snoc front s.0 (123 ∷ s.1) 125 s.4) s.2 (s.1, s.3, refl))
    (λ _. tt))
follow_on_keeps i (named ms name ∷ fs) b front s = absurd s

pub follow_keeps : (i : ℕ) (fs : List Frame) (b : ℕ) (front : List ℕ) → ItemStands fs front → Keeps (front ++ b ∷ []) (follow i fs b)
follow_keeps i fs b front s = cond_both (is_blank b) _ _ (Keeps (front ++ b ∷ [])) (λ e. item_blank fs b front (blank_byte b e) s) (λ _. follow_on_keeps i fs b front s)

pub after_keeps : (i : ℕ) (fs : List Frame) (t : Tree) (b : ℕ) (front outer word : List ℕ) → front ≡ outer ++ word → BeforeValue fs outer → IsValue t word → Keeps (front ++ b ∷ []) (after i fs t b)
unfolding after
after_keeps i [] t b front outer word e before value =
    cond_both (is_blank b) _ _ (Keeps (front ++ b ∷ [])) (λ f. padded_snoc (IsValue t) front b (blank_byte b f) (subst (λ l. IsJson t l) (sym e) (completes [] t outer word before value))) (λ _. tt)
after_keeps i (f ∷ fs) t b front outer word e before value = follow_keeps i (with_value f t ∷ fs) b front (subst (λ l. ItemStands (with_value f t ∷ fs) l) (sym e) (completes (f ∷ fs) t outer word before value))

uncapped : (n m : ℕ) → n ≡ capped m → n ≤ 2 ^ 127 → n ≡ m
uncapped n m e h = omega arith

fits_below : (negative : Bool) (n : ℕ) → fits negative n ≡ true → n ≤ 2 ^ 127
fits_below true n e = leb-true n (2 ^ 127) e
fits_below false n e = let k : n < 2 ^ 127 = ltb-true n (2 ^ 127) e in omega arith

pub whole_of : (negative : Bool) (n : ℕ) (digits : List ℕ) → IsInt digits → n ≡ capped (number_from 0 digits) → fits negative n ≡ true → IsWhole (signed negative n) (minus_if negative ++ digits)
whole_of negative n digits is_int value ok = record {
  negative = negative;
  digits = digits;
  is_int = is_int;
  value = ap (signed negative) (uncapped n (number_from 0 digits) value (fits_below negative n ok));
  parts = refl;
}

pub end_keeps : (i : ℕ) (fs : List Frame) (negative : Bool) (n p b : ℕ) (front outer digits : List ℕ) → front ≡ outer ++ (minus_if negative ++ digits) → BeforeValue fs outer → IsInt digits → n ≡ capped (number_from 0 digits) → Keeps (front ++ b ∷ []) (end_number i fs negative n p b)
unfolding end_number
end_keeps i fs negative n p b front outer digits e before is_int value =
    cond_both (begins_part b) _ _ (Keeps (front ++ b ∷ [])) (λ _. tt)
    (λ _. cond_both (fits negative n) _ _ (Keeps (front ++ b ∷ []))
    (λ f. after_keeps i fs (whole (signed negative n)) b front outer (minus_if negative ++ digits) e before (whole_of negative n digits is_int value f))
    (λ _. tt))

pub word_keeps : (i : ℕ) (fs : List Frame) (rest : List ℕ) (t : Tree) (b : ℕ) (front : List ℕ) → WordStands (BeforeValue fs) rest t front → Keeps (front ++ b ∷ []) (word_step i fs rest t b)
word_keeps i fs [] t b front s = tt
word_keeps i fs (c ∷ []) t b front s =
    cond_both (b == c) _ _ (Keeps (front ++ b ∷ []))
    (λ e. completed fs t (front ++ b ∷ []) s.0 (s.1 ++ c ∷ []) (last_is front b c e ∙ snoc front s.0 s.1 c s.4) s.2 s.3)
    (λ _. tt)
word_keeps i fs (c ∷ d ∷ ds) t b front s =
    cond_both (b == c) _ _ (Keeps (front ++ b ∷ []))
    (λ e. (s.0, s.1 ++ c ∷ [], s.2, subst (IsValue t) (sym (append_assoc s.1 (c ∷ []) (d ∷ ds))) s.3, last_is front b c e ∙ snoc front s.0 s.1 c s.4))
    (λ _. tt)

number_from-snoc : (n : ℕ) (ds : List ℕ) (b : ℕ) → number_from n (ds ++ b ∷ []) ≡ number_from n ds * 10 + (b - 48)
number_from-snoc n [] b = refl
number_from-snoc n (d ∷ ds) b = number_from-snoc (n * 10 + (d - 48)) ds b

more_capped : (n m d : ℕ) → n ≡ capped m → capped (n * 10 + d) ≡ capped (m * 10 + d)
more_capped n m d e = omega arith

positive_snoc : (digits : List ℕ) (b : ℕ) → IsPositive digits → IsDigit b → IsPositive (digits ++ b ∷ [])
positive_snoc [] b h d = absurd h
positive_snoc (x ∷ xs) b h d = (h.0, h.1, all_snoc IsDigit xs b h.2 d)

pub digits_keep : (i : ℕ) (fs : List Frame) (negative : Bool) (n p b : ℕ) (front : List ℕ) → DigitsStand (BeforeValue fs) negative n p front → Keeps (front ++ b ∷ []) (step i fs (in_digits negative n p) b)
unfolding step
digits_keep i fs negative n p b front s =
    cond_both (is_digit b) _ _ (Keeps (front ++ b ∷ []))
    (λ e. record {
      outer = s.outer;
      digits = s.digits ++ b ∷ [];
      before = s.before;
      first = s.first;
      positive = positive_snoc s.digits b s.positive (digit_byte b e);
      value = more_capped n (number_from 0 s.digits) (b - 48) s.value ∙ ap capped (sym (number_from-snoc 0 s.digits b));
      parts = snoc2 front s.outer (minus_if negative) s.digits b s.parts;
    })
    (λ _. end_keeps i fs negative n p b front s.outer s.digits s.parts s.before (inr s.positive) s.value)

string_of : (t inner : List ℕ) → Spelled t inner → IsString t (34 ∷ (inner ++ 34 ∷ []))
string_of t inner s = record { chars = s.chars; inner = inner; spelled = s.spelled; value = s.value; parts = refl }

text_ends : (i : ℕ) (fs : List Frame) (role : Role) (t : List ℕ) (front : List ℕ) → RoleStands fs role t (Character Boundary) front → Keeps (front ++ 34 ∷ []) (end_text i fs role t)
text_ends i fs Role.Value t front s =
    completed fs (text t) (front ++ 34 ∷ []) s.0 (34 ∷ (s.1 ++ 34 ∷ [])) (snoc front s.0 (34 ∷ s.1) 34 s.4) s.2 (string_of t s.1 s.3)
text_ends i [] (Role.Name q) t front s = absurd s
text_ends i (in_list ts ∷ fs) (Role.Name q) t front s = absurd s
text_ends i (named ms name ∷ fs) (Role.Name q) t front s = absurd s
text_ends i (in_object ms ∷ fs) (Role.Name q) t front s =
    cond_both (has_name t ms) _ _ (Keeps (front ++ 34 ∷ [])) (λ _. tt)
    (λ _. (s.0, 34 ∷ (s.1 ++ 34 ∷ []), [], s.2, string_of t s.1 s.4, tt, snoc front s.0 (34 ∷ s.1) 34 s.5 ∙ ap (λ (l : List ℕ). s.0 ++ l) (sym (append-nil _))))

-- only the quote after whole characters ends a text
pub record Closes (m : TextMode) (b : ℕ) : Type 0 where
  pub mode : m ≡ Character Boundary
  pub byte : b ≡ 34

pub closes_at : (m : TextMode) (b : ℕ) → closes m b ≡ true → Closes m b
closes_at (Character Boundary) b e = record { mode = refl; byte = eqb-true b 34 e }
closes_at (Character (Inside lo hi left)) b e = absurd cc
closes_at Escape b e = absurd cc
closes_at (UnitMode n u) b e = absurd cc
closes_at (AfterHigh h) b e = absurd cc
closes_at (AfterHighEscape h) b e = absurd cc
closes_at (Low h n u) b e = absurd cc

role_goes_on : (i : ℕ) (fs : List Frame) (role : Role) (t : List ℕ) (m : TextMode) (b : ℕ) (front : List ℕ) → RoleStands fs role t m front → closes m b ≡ false → Keeps (front ++ b ∷ []) (in_text_step i fs role (text_step t m b))
role_goes_on i fs role t m b front s more = go fs role (text_step t m b) s (λ inner h. text_goes_on t inner m b h more)
  where
    go : (gs : List Frame) (role : Role) (o : Option TextState) → RoleStands gs role t m front → ((inner : List ℕ) → TextStands t m inner → TextGoesOn (inner ++ b ∷ []) o) → Keeps (front ++ b ∷ []) (in_text_step i gs role o)
    go gs role None h goes = tt
    go gs Role.Value (Some r) h goes = (h.0, h.1 ++ b ∷ [], h.2, goes h.1 h.3, snoc front h.0 (34 ∷ h.1) b h.4)
    go [] (Role.Name q) (Some r) h goes = absurd h
    go (in_list ts ∷ gs) (Role.Name q) (Some r) h goes = absurd h
    go (named ms name ∷ gs) (Role.Name q) (Some r) h goes = absurd h
    go (in_object ms ∷ gs) (Role.Name q) (Some r) h goes = (h.0, h.1 ++ b ∷ [], h.2, h.3, goes h.1 h.4, snoc front h.0 (34 ∷ h.1) b h.5)

pub text_keeps : (i : ℕ) (fs : List Frame) (role : Role) (t : List ℕ) (m : TextMode) (b : ℕ) (front : List ℕ) → RoleStands fs role t m front → Keeps (front ++ b ∷ []) (step i fs (in_text role t m) b)
unfolding step
text_keeps i fs role t m b front s =
    cond_both (closes m b) _ _ (Keeps (front ++ b ∷ []))
    (λ e. let c = closes_at m b e in rw c.byte (text_ends i fs role t front (subst (λ k. RoleStands fs role t k front) c.mode s)))
    (λ e. role_goes_on i fs role t m b front s e)

close_keeps : (i : ℕ) (f : Frame) (fs : List Frame) (t : Tree) (front outer word : List ℕ) → front ≡ outer ++ word → BeforeValue fs outer → IsValue t word → Keeps front (close_empty i (f ∷ fs) t)
close_keeps i f fs t front outer word e before value = completed fs t front outer word e before value

first_keeps : (i : ℕ) (fs : List Frame) (b : ℕ) (front : List ℕ) → i ≡ length front → FirstStands fs front → Keeps (front ++ b ∷ []) (step i fs before_first b)
unfolding step
first_keeps i [] b front place s = absurd s
first_keeps i (in_list [] ∷ fs) b front place s =
    cond_both (is_blank b) _ _ (Keeps (front ++ b ∷ [])) (λ e. (s.0, s.1 ++ b ∷ [], s.2, blank_snoc s.1 b s.3 (blank_byte b e), snoc front s.0 (91 ∷ s.1) b s.4))
    (λ _. cond_both (b == 93) _ _ (Keeps (front ++ b ∷ []))
    (λ e. close_keeps i (in_list []) fs (list (trees [])) (front ++ b ∷ []) s.0 (91 ∷ (s.1 ++ 93 ∷ [])) (last_is front b 93 e ∙ snoc front s.0 (91 ∷ s.1) 93 s.4) s.2 (s.1, s.3, refl))
    (λ _. begin_keeps i (in_list [] ∷ fs) b front place s))
first_keeps i (in_list (t ∷ ts) ∷ fs) b front place s = absurd s
first_keeps i (in_object ms ∷ fs) b front place s = absurd s
first_keeps i (named ms name ∷ fs) b front place s = absurd s

first_name_keeps : (i : ℕ) (fs : List Frame) (b : ℕ) (front : List ℕ) → i ≡ length front → FirstNameStands fs front → Keeps (front ++ b ∷ []) (step i fs before_first_name b)
unfolding step
first_name_keeps i [] b front place s = absurd s
first_name_keeps i (in_list ts ∷ fs) b front place s = absurd s
first_name_keeps i (named ms name ∷ fs) b front place s = absurd s
first_name_keeps i (in_object (m ∷ ms) ∷ fs) b front place s = absurd s
first_name_keeps i (in_object [] ∷ fs) b front place s =
    cond_both (is_blank b) _ _ (Keeps (front ++ b ∷ [])) (λ e. (s.0, s.1 ++ b ∷ [], s.2, blank_snoc s.1 b s.3 (blank_byte b e), snoc front s.0 (123 ∷ s.1) b s.4))
    (λ _. cond_both (b == 34) _ _ (Keeps (front ++ b ∷ [])) (λ e. (front, [], s, place, spelled_none, last_is front b 34 e))
    (λ _. cond_both (b == 125) _ _ (Keeps (front ++ b ∷ []))
    (λ e. close_keeps i (in_object []) fs (members (entries [])) (front ++ b ∷ []) s.0 (123 ∷ (s.1 ++ 125 ∷ [])) (last_is front b 125 e ∙ snoc front s.0 (123 ∷ s.1) 125 s.4) s.2 (s.1, s.3, refl))
    (λ _. tt)))

next_name_keeps : (i : ℕ) (fs : List Frame) (b : ℕ) (front : List ℕ) → i ≡ length front → NextNameStands fs front → Keeps (front ++ b ∷ []) (step i fs before_name b)
unfolding step
next_name_keeps i [] b front place s = absurd s
next_name_keeps i (in_list ts ∷ fs) b front place s = absurd s
next_name_keeps i (named ms name ∷ fs) b front place s = absurd s
next_name_keeps i (in_object [] ∷ fs) b front place s = absurd s
next_name_keeps i (in_object (m ∷ ms) ∷ fs) b front place s =
    cond_both (is_blank b) _ _ (Keeps (front ++ b ∷ []))
    (λ e. (s.0, s.1, s.2 ++ b ∷ [], s.3, s.4, blank_snoc s.2 b s.5 (blank_byte b e), snoc front s.0 (123 ∷ (s.1 ++ 44 ∷ s.2)) b s.6 ∙ ap (λ (l : List ℕ). s.0 ++ 123 ∷ l) (append_assoc s.1 (44 ∷ s.2) (b ∷ []))))
    (λ _. cond_both (b == 34) _ _ (Keeps (front ++ b ∷ [])) (λ e. (front, [], s, place, spelled_none, last_is front b 34 e)) (λ _. tt))

colon_keeps : (i : ℕ) (fs : List Frame) (b : ℕ) (front : List ℕ) → ColonStands fs front → Keeps (front ++ b ∷ []) (step i fs before_colon b)
unfolding step
colon_keeps i [] b front s = absurd s
colon_keeps i (in_list ts ∷ fs) b front s = absurd s
colon_keeps i (in_object ms ∷ fs) b front s = absurd s
colon_keeps i (named ms name ∷ fs) b front s =
    cond_both (is_blank b) _ _ (Keeps (front ++ b ∷ [])) (λ e. (s.0, s.1, s.2 ++ b ∷ [], s.3, s.4, blank_snoc s.2 b s.5 (blank_byte b e), snoc2 front s.0 s.1 s.2 b s.6))
    (λ _. cond_both (b == 58) _ _ (Keeps (front ++ b ∷ [])) (λ e. (s.0, s.1, s.2, [], s.3, s.4, s.5, tt, last_is front b 58 e ∙ snoc2 front s.0 s.1 s.2 58 s.6)) (λ _. tt))

-- a blank before a value
value_blank : (fs : List Frame) (b : ℕ) (front : List ℕ) → IsBlankByte b → BeforeValue fs front → BeforeValue fs (front ++ b ∷ [])
value_blank [] b front blank s = blank_snoc front b s blank
value_blank (in_list [] ∷ fs) b front blank s = (s.0, s.1 ++ b ∷ [], s.2, blank_snoc s.1 b s.3 blank, snoc front s.0 (91 ∷ s.1) b s.4)
value_blank (in_list (t ∷ ts) ∷ fs) b front blank s =
    (s.0, s.1, s.2 ++ b ∷ [], s.3, s.4, blank_snoc s.2 b s.5 blank, snoc front s.0 (91 ∷ (s.1 ++ 44 ∷ s.2)) b s.6 ∙ ap (λ (l : List ℕ). s.0 ++ 91 ∷ l) (append_assoc s.1 (44 ∷ s.2) (b ∷ [])))
value_blank (in_object ms ∷ fs) b front blank s = absurd s
value_blank (named ms name ∷ fs) b front blank s = (s.0, s.1, s.2, s.3 ++ b ∷ [], s.4, s.5, s.6, blank_snoc s.3 b s.7 blank, snoc3 front s.0 s.1 s.2 (58 ∷ s.3) b s.8)

end_blank : (i : ℕ) (fs : List Frame) (t : Tree) (b : ℕ) (front : List ℕ) → EndStands fs t front → Keeps (front ++ b ∷ []) (step i fs (ended t) b)
unfolding step
end_blank i (f ∷ fs) t b front s = absurd s
end_blank i [] t b front s = cond_both (is_blank b) _ _ (Keeps (front ++ b ∷ [])) (λ e. padded_snoc (IsValue t) front b (blank_byte b e) s) (λ _. tt)

pub step_keeps : (i : ℕ) (fs : List Frame) (m : Mode) (b : ℕ) (front : List ℕ) → i ≡ length front → Stands fs m front → Keeps (front ++ b ∷ []) (step i fs m b)
unfolding step
step_keeps i fs before_value b front place s =
    cond_both (is_blank b) _ _ (Keeps (front ++ b ∷ [])) (λ e. value_blank fs b front (blank_byte b e) s) (λ _. begin_keeps i fs b front place s)
step_keeps i fs before_first b front place s = first_keeps i fs b front place s
step_keeps i fs before_first_name b front place s = first_name_keeps i fs b front place s
step_keeps i fs before_name b front place s = next_name_keeps i fs b front place s
step_keeps i fs before_colon b front place s = colon_keeps i fs b front s
step_keeps i fs (in_word rest t) b front place s = word_keeps i fs rest t b front s
step_keeps i fs (after_minus p) b front place s =
    cond_both (b == 48) _ _ (Keeps (front ++ b ∷ [])) (λ e. (s.0, s.1, s.2, last_is front b 48 e ∙ snoc front s.0 (45 ∷ []) 48 s.3))
    (λ ne. cond_both (is_digit b) _ _ (Keeps (front ++ b ∷ [])) (λ e. digits_begin (BeforeValue fs) true i p b s.0 front s.1 s.2 s.3 e ne) (λ _. tt))
step_keeps i fs (after_zero negative p) b front place s = end_keeps i fs negative 0 p b front s.0 (48 ∷ []) s.3 s.1 (inl refl) refl
step_keeps i fs (in_digits negative n p) b front place s = digits_keep i fs negative n p b front s
step_keeps i fs (in_text role t m) b front place s = text_keeps i fs role t m b front s
step_keeps i fs after_item b front place s = follow_keeps i fs b front s
step_keeps i fs (ended t) b front place s = end_blank i fs t b front s

abbrev pub IsValueOf : List ℕ → Result Tree JsonFault → Type 0
IsValueOf front r = IfOk r (λ t. IsJson t front)

whole_is : (i : ℕ) (fs : List Frame) (t : Tree) (front outer word : List ℕ) → front ≡ outer ++ word → BeforeValue fs outer → IsValue t word → IsValueOf front (whole_text i fs t)
whole_is i [] t front outer word e before value = subst (λ l. IsJson t l) (sym e) (padded (IsValue t) outer word before value)
whole_is i (f ∷ fs) t front outer word e before value = tt

pub finish_is : (i : ℕ) (fs : List Frame) (m : Mode) (front : List ℕ) → Stands fs m front → IsValueOf front (finish i fs m)
unfolding finish
finish_is i fs (after_zero negative p) front s = whole_is i fs (whole (signed negative 0)) front s.0 (minus_if negative ++ 48 ∷ []) s.3 s.1 (whole_of negative 0 (48 ∷ []) (inl refl) refl (zero_fits negative))
  where
    zero_fits : (negative : Bool) → fits negative 0 ≡ true
    zero_fits true = refl
    zero_fits false = refl
finish_is i fs (in_digits negative n p) front s =
    cond_both (fits negative n) _ _ (IsValueOf front)
    (λ f. whole_is i fs (whole (signed negative n)) front s.outer (minus_if negative ++ s.digits) s.parts s.before (whole_of negative n s.digits (inr s.positive) s.value f))
    (λ _. tt)
finish_is i [] (ended t) front s = s
finish_is i (f ∷ fs) (ended t) front s = absurd s
finish_is i fs before_value front s = tt
finish_is i fs before_first front s = tt
finish_is i fs before_first_name front s = tt
finish_is i fs before_name front s = tt
finish_is i fs before_colon front s = tt
finish_is i fs (in_word rest t) front s = tt
finish_is i fs (after_minus p) front s = tt
finish_is i fs (in_text role t m) front s = tt
finish_is i fs after_item front s = tt

pub reads_is : (bytes front : List ℕ) (i : ℕ) (s : State) → i ≡ length front → StandsAt front s → IsValueOf (front ++ bytes) (reads i s bytes)
unfolding reads
reads_is [] front i s place h = subst (λ l. IsValueOf l (finish i s.frames s.mode)) (sym (append-nil front)) (finish_is i s.frames s.mode front h)
reads_is (b ∷ bs) front i s place h =
    go (step i s.frames s.mode b) (step_keeps i s.frames s.mode b front place h) (λ next k. subst (λ l. IsValueOf l (reads (suc i) next bs)) (append_assoc front (b ∷ []) bs) (reads_is bs (front ++ b ∷ []) (suc i) next (omega (arith, length-append front (b ∷ []))) k))
  where
    go : (r : Result State JsonFault) → Keeps (front ++ b ∷ []) r → ((next : State) → StandsAt (front ++ b ∷ []) next → IsValueOf (front ++ b ∷ bs) (reads (suc i) next bs)) → IsValueOf (front ++ b ∷ bs) (and_then r (λ next. reads (suc i) next bs))
    go (Ok next) k ih = ih next k
    go (Err f) k ih = tt

-- a value that the reading gives is that of the bytes
pub reading_sound : (bytes : List ℕ) → IsValueOf bytes (reading bytes)
unfolding reading
reading_sound bytes = reads_is bytes [] 0 (at [] before_value) refl tt
