-- A text between its quotes is a JSON string of it.
use Rattle.std.proofs.Common.{◌≡◌, ℕ, suc, ◌/◌, ◌%◌, ◌<◌, ◌≤◌, Bool, true, false, not, ◌&&◌, nat_lt, List, [], ◌∷◌, ◌++◌, length, get_or, inl, inr, refl, sym, ap, subst, ◌∙◌, arith, eqb-true, ltb-true, ltb-false}
use Rattle.std.specs.Prelude.{◌==◌, IsUtf8, codes, ◌≢◌}
use Rattle.std.specs.List.{flat_map, AllByRecursion}
use Rattle.std.specs.Char.{IsScalar, encode_utf8, digit_value}
use Rattle.std.specs.Str.{encode_utf8_all}
use Rattle.std.proofs.lemmas.Bool.{cond_both, cases_lt, ne_eqb, eqb-false, le-ltb, not-true, and_parts, both_ways}
use Rattle.std.proofs.lemmas.List.{append-nil}
use Rattle.std.proofs.lemmas.List.Concat.{flat_map-append}
use Rattle.std.proofs.lemmas.Str.{encode_ascii, inside_one, digit_value-digit_char, IsUtf8-nil}
use lib.Utf8.{scalar, scalars, encode, encodes, low_scalar}
use Rattle.lg_base.specs.Texts.{is_plain, hex_digit, escape, escaped, quoted}
use Rattle.lg_base.proofs.Escapes.{plain_escaped}
use Rattle.lg_containers.specs.TextLaws.{ascii_utf8}
use Rattle.lg_json.specs.Grammar.{IsShort, IsChar, AreChars, IsString}
use Rattle.lg_json.specs.Grammar.IsShort.{quote, backslash, backspace, form_feed, line_feed, carriage_return, tab}
use Rattle.lg_json.specs.Grammar.IsChar.{unescaped, short, unit}

-- ---- a byte below 128

is_plain_from : (b : ℕ) → 32 ≤ b → b ≢ 34 → b ≢ 92 → is_plain b ≡ true
is_plain_from b low no_quote no_backslash = rw (ne_eqb b 34 no_quote, ne_eqb b 92 no_backslash, le-ltb b 32 low) refl

-- a byte that stands as it is is none of the three kinds
pub record StandsAlone (b : ℕ) : Type 0 where
  pub low : 32 ≤ b
  pub no_quote : b ≢ 34
  pub no_backslash : b ≢ 92

no_mark : (b n : ℕ) → not (b == n) ≡ true → b ≢ n
no_mark b n h = eqb-false b n (not-true (b == n) h)

pub plain_parts : (b : ℕ) → is_plain b ≡ true → StandsAlone b
plain_parts b h =
    let p = and_parts (not (b == 34) && not (b == 92)) (not (nat_lt b 32)) h in
    let q = and_parts (not (b == 34)) (not (b == 92)) p.0 in
    record { low = ltb-false b 32 (not-true (nat_lt b 32) p.1); no_quote = no_mark b 34 q.0; no_backslash = no_mark b 92 q.1 }

-- four hexadecimal digits of a number below 32
hex_value : (n : ℕ) → n < 16 → digit_value (hex_digit n) ≡ n
hex_value n h = digit_value-digit_char n (omega arith)

control : (c : ℕ) → c < 32 → IsChar c (codes "\\u00" ++ (hex_digit (c / 16) ∷ hex_digit (c % 16) ∷ []))
control c h =
    let high : digit_value (hex_digit (c / 16)) ≡ c / 16 = hex_value (c / 16) (omega arith) in
    let low : digit_value (hex_digit (c % 16)) ≡ c % 16 = hex_value (c % 16) (omega arith) in
    unit c (codes "\\u00" ++ (hex_digit (c / 16) ∷ hex_digit (c % 16) ∷ []))
    (record {
      a = 48;
      b = 48;
      c = hex_digit (c / 16);
      d = hex_digit (c % 16);
      a_is_digit = omega arith;
      b_is_digit = omega arith;
      c_is_digit = omega arith;
      d_is_digit = omega arith;
      value = omega arith;
      parts = refl;
    })
    (λ k. absurd (let above : 55296 ≤ c = k.0 in omega arith))
    (λ k. absurd (let above : 56320 ≤ c = k.0 in omega arith))

short_char : (c n b : ℕ) → c ≡ n → IsShort b n → IsChar c (92 ∷ b ∷ [])
short_char c n b e s = short c b (92 ∷ b ∷ []) (subst (λ (k : ℕ). IsShort b k) (sym e) s) refl

below_32 : (c : ℕ) → is_plain c ≡ false → (c == 34) ≡ false → (c == 92) ≡ false → c < 32
below_32 c h e34 e92 = elim (cases_lt c 32) [
  | inl k ↦ k
  | inr k ↦ absurd (both_ways (is_plain c) h (is_plain_from c k (eqb-false c 34 e34) (eqb-false c 92 e92)))
]

escape_char : (c : ℕ) → is_plain c ≡ false → IsChar c (escape c)
escape_char c h =
    cond_both (c == 34) _ _ (IsChar c) (λ e. short_char c 34 34 (eqb-true c 34 e) quote) (λ e34.
    cond_both (c == 92) _ _ (IsChar c) (λ e. short_char c 92 92 (eqb-true c 92 e) backslash) (λ e92.
    cond_both (c == 8) _ _ (IsChar c) (λ e. short_char c 8 98 (eqb-true c 8 e) backspace) (λ e8.
    cond_both (c == 9) _ _ (IsChar c) (λ e. short_char c 9 116 (eqb-true c 9 e) tab) (λ e9.
    cond_both (c == 10) _ _ (IsChar c) (λ e. short_char c 10 110 (eqb-true c 10 e) line_feed) (λ e10.
    cond_both (c == 12) _ _ (IsChar c) (λ e. short_char c 12 102 (eqb-true c 12 e) form_feed) (λ e12.
    cond_both (c == 13) _ _ (IsChar c) (λ e. short_char c 13 114 (eqb-true c 13 e) carriage_return) (λ e13.
    control c (below_32 c h e34 e92))))))))

plain_char : (c : ℕ) → c < 128 → is_plain c ≡ true → IsChar c (c ∷ [])
plain_char c small h =
    let p = plain_parts c h in
    unescaped c (c ∷ []) (low_scalar c (omega arith)) p.low p.no_quote p.no_backslash (sym (encode_ascii c small))

ascii_char : (c : ℕ) → c < 128 → IsChar c (escaped c)
ascii_char c small = cond_both (is_plain c) (c ∷ []) (escape c) (IsChar c) (plain_char c small) (escape_char c)

-- ---- a character from 128 on: its bytes stand as they are

plain_bytes : (bs : List ℕ) → ((k : ℕ) → k < length bs → 128 ≤ get_or bs k 0) → flat_map escaped bs ≡ bs
plain_bytes [] h = refl
plain_bytes (b ∷ bs) h =
    let above : 128 ≤ b = h 0 (omega arith) in
    let plain : is_plain b ≡ true = is_plain_from b (omega arith) (omega arith) (omega arith) in
    ap (λ (l : List ℕ). l ++ flat_map escaped bs) (plain_escaped b plain) ∙ ap (λ (l : List ℕ). b ∷ l) (plain_bytes bs (λ k lt. h (suc k) (omega arith)))

encoded_above : (c : ℕ) → 128 ≤ c → (k : ℕ) → k < length (encode c) → 128 ≤ get_or (encode c) k 0
encoded_above c above k lt = elim (cases_lt (get_or (encode c) k 0) 128) [
  | inl small ↦ absurd (let same : c ≡ get_or (encode c) k 0 = inside_one c [] (encode c) k (sym (append-nil (encode c))) lt small in omega arith)
  | inr large ↦ large
]

-- ---- any character, and any text

char_is : (c : ℕ) → IsScalar c → IsChar c (flat_map escaped (encode_utf8 c))
char_is c ok = elim (cases_lt c 128) [
  | inl small ↦ subst (λ (l : List ℕ). IsChar c (flat_map escaped l)) (sym (encode_ascii c small)) (subst (IsChar c) (sym (append-nil (escaped c))) (ascii_char c small))
  | inr above ↦ subst (IsChar c) (sym (plain_bytes (encode c) (encoded_above c above))) (unescaped c (encode c) ok (omega arith) (omega arith) (omega arith) refl)
]

chars_are : (cs : List ℕ) → scalars cs ≡ true → AreChars cs (flat_map escaped (encode_utf8_all cs))
chars_are [] h = refl
chars_are (c ∷ cs) h =
    let p = and_parts (scalar c) (scalars cs) h in
    (flat_map escaped (encode_utf8 c), flat_map escaped (encode_utf8_all cs), char_is c p.0, chars_are cs p.1, flat_map-append escaped (encode_utf8 c) (encode_utf8_all cs))

pub text_is_string : (t : List ℕ) → IsUtf8 t → IsString t (quoted t)
text_is_string t u = record {
  chars = u.0;
  inner = flat_map escaped t;
  spelled = subst (λ (l : List ℕ). AreChars u.0 (flat_map escaped l)) u.1.1 (chars_are u.0 u.1.0);
  value = sym u.1.1;
  parts = refl;
}

-- ---- texts of bytes below 128 that stand as they are

pub record IsPlain (b : ℕ) : Type 0 where
  pub small : b < 128
  pub plain : is_plain b ≡ true

pub plain_utf8 : (bs : List ℕ) → AllByRecursion IsPlain bs → IsUtf8 bs
plain_utf8 [] h = IsUtf8-nil
plain_utf8 (b ∷ bs) h = ascii_utf8 b bs h.0.small (plain_utf8 bs h.1)

pub plain_stands : (bs : List ℕ) → AllByRecursion IsPlain bs → flat_map escaped bs ≡ bs
plain_stands [] h = refl
plain_stands (b ∷ bs) h = ap (λ (l : List ℕ). l ++ flat_map escaped bs) (plain_escaped b h.0.plain) ∙ ap (λ (l : List ℕ). b ∷ l) (plain_stands bs h.1)

pub plain_is_string : (t : List ℕ) → AllByRecursion IsPlain t → IsString t ((34 ∷ []) ++ (t ++ (34 ∷ [])))
plain_is_string t h = subst (λ (l : List ℕ). IsString t ((34 ∷ []) ++ (l ++ (34 ∷ [])))) (plain_stands t h) (text_is_string t (plain_utf8 t h))

pub plain_from : (b : ℕ) → 32 ≤ b → b < 128 → b ≢ 34 → b ≢ 92 → IsPlain b
plain_from b low high no_quote no_backslash = record { small = high; plain = is_plain_from b low no_quote no_backslash }

-- a written-out text
abbrev pub all_plain : List ℕ → Bool
all_plain [] = true
all_plain (b ∷ bs) = (nat_lt b 128 && is_plain b) && all_plain bs

pub plain_parts_of : (bs : List ℕ) → all_plain bs ≡ true → AllByRecursion IsPlain bs
plain_parts_of [] h = tt
plain_parts_of (b ∷ bs) h =
    let p = and_parts (nat_lt b 128 && is_plain b) (all_plain bs) h in
    let q = and_parts (nat_lt b 128) (is_plain b) p.0 in
    (record { small = ltb-true b 128 q.0; plain = q.1 }, plain_parts_of bs p.1)

pub literal_is_string : (t : List ℕ) → all_plain t ≡ true → IsString t (quoted t)
literal_is_string t h = text_is_string t (plain_utf8 t (plain_parts_of t h))
