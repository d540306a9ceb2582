-- Texts whose numbers are bytes.
use Rattle.std.proofs.Common.{◌≡◌, ℕ, suc, zero, ◌+◌, ◌/◌, ◌%◌, ◌^◌, ◌<◌, ◌≤◌, Bool, true, ◌&&◌, nat_lt, List, [], ◌∷◌, ◌++◌, inl, inr, refl, sym, subst, arith, ltb-true}
use Rattle.std.specs.Prelude.{ℤ, ◌==◌, IsUtf8, codes, decimal}
use Rattle.std.specs.List.{concat, flat_map, AllByRecursion}
use Rattle.std.specs.Str.{encode_utf8_all}
use Rattle.std.proofs.lemmas.Bool.{cond_both, and_parts, and_from, lt-ltb}
use Rattle.base64.specs.GeneralPurpose.{IsBytes}
use Rattle.lg_base.specs.Texts.{is_plain, hex_digit, escape, escaped, quoted}
use Rattle.lg_json.specs.Grammar.{AreDigits, IsPositive}
use Rattle.lg_time.specs.Moment.{IsInMoments}
use Rattle.lg_time.specs.Canonical.{moment_text}
use Rattle.lg_types.specs.PartTexts.{date_text}
use Rattle.lg_views.specs.Tokens.{one_member}
use Rattle.lg_entry_lines.proofs.Moments.{date_is, moment_plain}
use Rattle.lg_entry_lines.proofs.Numbers.{decimal_digits}
use Rattle.lg_entry_lines.proofs.Strings.{IsPlain}
use Rattle.lg_tokens.proofs.Decimals.{wide_digits}
use lib.Utf8.{scalar, scalars, encode, scalar_cases}

abbrev pub all_bytes : List ℕ → Bool
all_bytes [] = true
all_bytes (b ∷ bs) = nat_lt b 256 && all_bytes bs

pub record AreBytes (bs : List ℕ) : Type 0 where
  pub all : all_bytes bs ≡ true

-- a written-out text
pub literal : (bs : List ℕ) → all_bytes bs ≡ true → AreBytes bs
literal bs h = record { all = h }

pub byte_first : (b : ℕ) (bs : List ℕ) → b < 256 → AreBytes bs → AreBytes (b ∷ bs)
byte_first b bs h k = record { all = and_from (nat_lt b 256) (all_bytes bs) (lt-ltb b 256 h) k.all }

-- the first byte, and the others
record Parts (b : ℕ) (bs : List ℕ) : Type 0 where
  first : b < 256
  others : AreBytes bs

parts : (b : ℕ) (bs : List ℕ) → AreBytes (b ∷ bs) → Parts b bs
parts b bs h =
    let p = and_parts (nat_lt b 256) (all_bytes bs) h.all in
    record { first = ltb-true b 256 p.0; others = record { all = p.1 } }

pub are_bytes : (bs : List ℕ) → AreBytes bs → IsBytes bs
are_bytes [] h i = omega arith
are_bytes (b ∷ bs) h zero = (parts b bs h).first
are_bytes (b ∷ bs) h (suc i) = are_bytes bs (parts b bs h).others i

pub both : (xs ys : List ℕ) → AreBytes xs → AreBytes ys → AreBytes (xs ++ ys)
both [] ys h k = k
both (b ∷ bs) ys h k = byte_first b (bs ++ ys) (parts b bs h).first (both bs ys (parts b bs h).others k)

pub together : (xss : List (List ℕ)) → AllByRecursion AreBytes xss → AreBytes (concat xss)
together [] h = literal [] refl
together (xs ∷ xss) h = both xs (concat xss) h.0 (together xss h.1)

-- ---- strings

hex_bytes : (n : ℕ) → n < 16 → hex_digit n < 256
hex_bytes n h = cond_both (nat_lt n 10) (48 + n) (87 + n) (λ (k : ℕ). k < 256) (λ e. omega arith) (λ e. omega arith)

hex_escape : (b : ℕ) → b < 256 → AreBytes (codes "\\u00" ++ (hex_digit (b / 16) ∷ hex_digit (b % 16) ∷ []))
hex_escape b h =
    both (codes "\\u00") (hex_digit (b / 16) ∷ hex_digit (b % 16) ∷ []) (literal (codes "\\u00") refl)
    (byte_first (hex_digit (b / 16)) (hex_digit (b % 16) ∷ []) (hex_bytes (b / 16) (omega arith)) (byte_first (hex_digit (b % 16)) [] (hex_bytes (b % 16) (omega arith)) (literal [] refl)))

escape_bytes : (b : ℕ) → b < 256 → AreBytes (escape b)
escape_bytes b h =
    cond_both (b == 34) _ _ AreBytes (λ e. literal (codes "\\\"") refl) (λ _.
    cond_both (b == 92) _ _ AreBytes (λ e. literal (codes "\\\\") refl) (λ _.
    cond_both (b == 8) _ _ AreBytes (λ e. literal (codes "\\b") refl) (λ _.
    cond_both (b == 9) _ _ AreBytes (λ e. literal (codes "\\t") refl) (λ _.
    cond_both (b == 10) _ _ AreBytes (λ e. literal (codes "\\n") refl) (λ _.
    cond_both (b == 12) _ _ AreBytes (λ e. literal (codes "\\f") refl) (λ _.
    cond_both (b == 13) _ _ AreBytes (λ e. literal (codes "\\r") refl) (λ _. hex_escape b h)))))))

escaped_bytes : (b : ℕ) → b < 256 → AreBytes (escaped b)
escaped_bytes b h = cond_both (is_plain b) (b ∷ []) (escape b) AreBytes (λ _. byte_first b [] h (literal [] refl)) (λ _. escape_bytes b h)

inner_bytes : (t : List ℕ) → AreBytes t → AreBytes (flat_map escaped t)
inner_bytes [] h = literal [] refl
inner_bytes (b ∷ bs) h = both (escaped b) (flat_map escaped bs) (escaped_bytes b (parts b bs h).first) (inner_bytes bs (parts b bs h).others)

pub between_quotes : (t : List ℕ) → AreBytes t → AreBytes ((34 ∷ []) ++ (t ++ (34 ∷ [])))
between_quotes t h = byte_first 34 (t ++ (34 ∷ [])) (omega arith) (both t (34 ∷ []) h (literal (34 ∷ []) refl))

pub quoted_bytes : (t : List ℕ) → AreBytes t → AreBytes (quoted t)
quoted_bytes t h = between_quotes (flat_map escaped t) (inner_bytes t h)

pub member_bytes : (name written : List ℕ) → AreBytes name → AreBytes written → AreBytes (one_member name written)
member_bytes name written h k =
    together (codes "{" ∷ quoted name ∷ codes ":" ∷ written ∷ codes "}" ∷ []) (literal (codes "{") refl, (quoted_bytes name h, (literal (codes ":") refl, (k, (literal (codes "}") refl, tt)))))

-- ---- UTF-8

rest_bytes : (bs : List ℕ) (b : ℕ) → AreBytes bs → AreBytes ((128 + b % 64) ∷ bs)
rest_bytes bs b h = byte_first (128 + b % 64) bs (omega arith) h

encoded_bytes : (c : ℕ) → c < 1114112 → AreBytes (encode c)
unfolding encode
encoded_bytes c h =
    let none : AreBytes [] = literal [] refl in
    let one : AreBytes ((128 + c % 64) ∷ []) = rest_bytes [] c none in
    let two : AreBytes ((128 + c / 64 % 64) ∷ (128 + c % 64) ∷ []) = rest_bytes ((128 + c % 64) ∷ []) (c / 64) one in
    let three : AreBytes ((128 + c / 4096 % 64) ∷ (128 + c / 64 % 64) ∷ (128 + c % 64) ∷ []) = rest_bytes ((128 + c / 64 % 64) ∷ (128 + c % 64) ∷ []) (c / 4096) two in
    cond_both (nat_lt c 128) _ _ AreBytes (λ e. let k : c < 128 = ltb-true c 128 e in byte_first c [] (omega arith) none) (λ _.
    cond_both (nat_lt c 2048) _ _ AreBytes (λ e. let k : c < 2048 = ltb-true c 2048 e in byte_first (192 + c / 64) ((128 + c % 64) ∷ []) (omega arith) one) (λ _.
    cond_both (nat_lt c 65536) _ _ AreBytes (λ e. let k : c < 65536 = ltb-true c 65536 e in byte_first (224 + c / 4096) ((128 + c / 64 % 64) ∷ (128 + c % 64) ∷ []) (omega arith) two) (λ _.
    byte_first (240 + c / 262144) ((128 + c / 4096 % 64) ∷ (128 + c / 64 % 64) ∷ (128 + c % 64) ∷ []) (omega arith) three)))

below_top : (c : ℕ) → scalar c ≡ true → c < 1114112
below_top c h = elim (scalar_cases c h) [ inl k ↦ omega arith | inr k ↦ k.1 ]

all_encoded : (cs : List ℕ) → scalars cs ≡ true → AreBytes (encode_utf8_all cs)
all_encoded [] h = literal [] refl
all_encoded (c ∷ cs) h =
    let p = and_parts (scalar c) (scalars cs) h in
    both (encode c) (encode_utf8_all cs) (encoded_bytes c (below_top c p.0)) (all_encoded cs p.1)

pub utf8_bytes : (t : List ℕ) → IsUtf8 t → AreBytes t
utf8_bytes t u = subst AreBytes u.1.1 (all_encoded u.0 u.1.0)

-- ---- numbers and dates

digits_bytes : (ds : List ℕ) → AreDigits ds → AreBytes ds
digits_bytes [] h = literal [] refl
digits_bytes (d ∷ ds) h = let k : d ≤ 57 = h.0.1 in byte_first d ds (omega arith) (digits_bytes ds h.1)

pub decimal_bytes : (n : ℕ) → n < 2 ^ 127 → AreBytes (decimal n)
decimal_bytes n h = digits_bytes (decimal n) (decimal_digits n h)

positive_bytes : (ds : List ℕ) → IsPositive ds → AreBytes ds
positive_bytes [] h = absurd h
positive_bytes (d ∷ ds) h = let k : d ≤ 57 = h.1 in byte_first d ds (omega arith) (digits_bytes ds h.2)

pub wide_bytes : (n : ℕ) → 1 ≤ n → n ≤ 2 ^ 127 → AreBytes (decimal n)
wide_bytes n some h = positive_bytes (decimal n) (wide_digits n some h)

plain_bytes : (bs : List ℕ) → AllByRecursion IsPlain bs → AreBytes bs
plain_bytes [] h = literal [] refl
plain_bytes (b ∷ bs) h = let k : b < 128 = h.0.small in byte_first b bs (omega arith) (plain_bytes bs h.1)

pub date_bytes : (moment : ℤ) → IsInMoments moment → AreBytes (date_text moment)
date_bytes moment h = subst AreBytes (sym (date_is moment h)) (between_quotes (moment_text moment) (plain_bytes (moment_text moment) (moment_plain moment h)))
