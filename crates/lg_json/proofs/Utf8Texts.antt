-- The text of whole characters is UTF-8.
use Rattle.std.proofs.Common.{◌≡◌, ℕ, ◌<◌, ◌≤◌, true, List, [], ◌∷◌, IsUtf8, refl, sym, inl, inr, arith}
use Rattle.std.proofs.lemmas.Bool.{and_from, cases_lt, le-ltb, lt-ltb}
use lib.Utf8.{scalar, scalars, low_scalar}
use Rattle.lg_json.specs.Grammar.{IsHigh, IsLow, IsShort, IsChar, AreChars}
use Rattle.lg_json.specs.Grammar.IsShort.{quote, backslash, slash, backspace, form_feed, line_feed, carriage_return, tab}
use Rattle.lg_json.specs.Grammar.IsChar.{unescaped, short, unit, surrogates}
use Rattle.lg_json.specs.Texts.{Spelled}

scalar_above : (c : ℕ) → 57344 ≤ c → c < 1114112 → scalar c ≡ true
scalar_above c low high = search (arith, le-ltb, lt-ltb)

short_scalar : (c b : ℕ) → IsShort b c → scalar c ≡ true
short_scalar _ _ quote = refl
short_scalar _ _ backslash = refl
short_scalar _ _ slash = refl
short_scalar _ _ backspace = refl
short_scalar _ _ form_feed = refl
short_scalar _ _ line_feed = refl
short_scalar _ _ carriage_return = refl
short_scalar _ _ tab = refl

unit_scalar : (c : ℕ) → c < 65536 → (IsHigh c → ⊥) → (IsLow c → ⊥) → scalar c ≡ true
unit_scalar c small high low = elim (cases_lt c 55296) [
  | inl below ↦ low_scalar c below
  | inr above ↦ elim (cases_lt c 56320) [
    | inl k ↦ absurd (high (above, omega arith))
    | inr k ↦ elim (cases_lt c 57344) [ inl l ↦ absurd (low (k, omega arith)) | inr l ↦ scalar_above c l (omega arith) ]
  ]
]

char_scalar : (c : ℕ) (bytes : List ℕ) → IsChar c bytes → scalar c ≡ true
char_scalar c bytes (unescaped _ _ ok low ne_quote ne_backslash e) = ok
char_scalar c bytes (short _ b _ h e) = short_scalar c b h
char_scalar c bytes (unit _ _ u high low) =
    let a = u.a_is_digit in
    let b = u.b_is_digit in
    let d = u.c_is_digit in
    let f = u.d_is_digit in
    let v = u.value in
    unit_scalar c (omega arith) high low
char_scalar c bytes (surrogates _ h l front back _ high low uh ul e f) =
    let h0 = high.0 in
    let h1 = high.1 in
    let l0 = low.0 in
    let l1 = low.1 in
    scalar_above c (omega arith) (omega arith)

chars_scalars : (cs inner : List ℕ) → AreChars cs inner → scalars cs ≡ true
chars_scalars [] inner h = refl
chars_scalars (c ∷ cs) inner h = and_from (scalar c) (scalars cs) (char_scalar c h.0 h.2) (chars_scalars cs h.1 h.3)

pub spelled_utf8 : (t inner : List ℕ) → Spelled t inner → IsUtf8 t
spelled_utf8 t inner s = (s.chars, (chars_scalars s.chars inner s.spelled, sym s.value))
