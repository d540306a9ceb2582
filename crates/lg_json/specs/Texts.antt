-- What the parts of a reading of a text do.
use Rattle.std.specs.Prelude.{◌≡◌, ℕ, ◌+◌, ◌*◌, ◌<◌, ◌≤◌, ◌≢◌, ◌⊎◌, List, [], ◌∷◌, ◌++◌, length, drop, slice_index, Option, Some, None}
use Rattle.std.specs.Char.{digit_value}
use Rattle.std.specs.Str.{encode_utf8_all}
use Rattle.lg_containers.specs.Utf8.{BeginsChar}
use Rattle.lg_containers.specs.declared.utf8.Utf8State.TheVariants.{Boundary, Inside}
use Rattle.lg_json.specs.Grammar.{IsHexDigit, IsUnit, IsHigh, AreChars}
use Rattle.lg_json.specs.Reading.{Frame, Role, at, text_step, reads}
use Rattle.lg_json.specs.Reading.Mode.{in_text}
use Rattle.lg_json.specs.declared.state.TextMode.{TextMode}
use Rattle.lg_json.specs.declared.state.TextMode.TheVariants.{Character, Escape, Unit as UnitMode, AfterHigh, AfterHighEscape, Low}

-- an ASCII character that stands for itself
abbrev pub IsPlain : ℕ → Type 0
IsPlain b = (32 ≤ b) × (b < 128) × (b ≢ 34) × (b ≢ 92)

-- whole characters, and their text
pub record Spelled (t inner : List ℕ) : Type 0 where
  pub chars : List ℕ
  pub spelled : AreChars chars inner
  pub value : t ≡ encode_utf8_all chars

-- the digits of an escape so far: how many are to come, and their value. Two digits tell a low surrogate.
abbrev pub IsNoLow : ℕ → Type 0
IsNoLow u = (u < 220) ⊎ (223 < u)

abbrev pub UnitDigits : ℕ → ℕ → List ℕ → Type 0
UnitDigits n u [] = (n ≡ 4) × (u ≡ 0)
UnitDigits n u (a ∷ []) = (n ≡ 3) × IsHexDigit a × (u ≡ digit_value a)
UnitDigits n u (a ∷ b ∷ []) = (n ≡ 2) × IsHexDigit a × IsHexDigit b × (u ≡ digit_value a * 16 + digit_value b) × IsNoLow u
UnitDigits n u (a ∷ b ∷ c ∷ []) = (n ≡ 1) × IsHexDigit a × IsHexDigit b × IsHexDigit c × (u ≡ (digit_value a * 16 + digit_value b) * 16 + digit_value c) × IsNoLow (digit_value a * 16 + digit_value b)
UnitDigits n u (a ∷ b ∷ c ∷ d ∷ ds) = ⊥

abbrev pub LowDigits : ℕ → ℕ → List ℕ → Type 0
LowDigits n u [] = (n ≡ 4) × (u ≡ 0)
LowDigits n u (a ∷ []) = (n ≡ 3) × (digit_value a ≡ 13) × (u ≡ 13)
LowDigits n u (a ∷ b ∷ []) = (n ≡ 2) × (digit_value a ≡ 13) × IsHexDigit b × (12 ≤ digit_value b) × (u ≡ 208 + digit_value b)
LowDigits n u (a ∷ b ∷ c ∷ []) = (n ≡ 1) × (digit_value a ≡ 13) × IsHexDigit b × (12 ≤ digit_value b) × IsHexDigit c × (u ≡ (208 + digit_value b) * 16 + digit_value c)
LowDigits n u (a ∷ b ∷ c ∷ d ∷ ds) = ⊥

-- the bytes after the first quote, of which the text so far is t
abbrev pub TextStands : List ℕ → TextMode → List ℕ → Type 0
TextStands t (Character Boundary) inner = Spelled t inner
TextStands t (Character (Inside low high left)) inner = (text done part : List ℕ) × Spelled text done × BeginsChar part (Inside low high left) × (low ≤ high) × (t ≡ text ++ part) × (inner ≡ done ++ part)
TextStands t Escape inner = (done : List ℕ) × Spelled t done × (inner ≡ done ++ 92 ∷ [])
TextStands t (UnitMode n u) inner = (done digits : List ℕ) × Spelled t done × UnitDigits n u digits × (inner ≡ done ++ 92 ∷ 117 ∷ digits)
TextStands t (AfterHigh h) inner = (done front : List ℕ) × Spelled t done × IsHigh h × IsUnit h front × (inner ≡ done ++ front)
TextStands t (AfterHighEscape h) inner = (done front : List ℕ) × Spelled t done × IsHigh h × IsUnit h front × (inner ≡ done ++ (front ++ 92 ∷ []))
TextStands t (Low h n u) inner = (done front digits : List ℕ) × Spelled t done × IsHigh h × IsUnit h front × LowDigits n u digits × (inner ≡ done ++ (front ++ 92 ∷ 117 ∷ digits))

-- some bytes stand so
abbrev pub StandsSome : List ℕ → TextMode → Type 0
StandsSome t m = (inner : List ℕ) × TextStands t m inner

-- from the place on the text t, in the mode m, becomes u up to a later place; or the byte there goes on no text
abbrev pub TextMoves : List ℕ → ℕ → List ℕ → TextMode → List ℕ → Option (TextMode × ℕ) → Type 0
TextMoves bytes place t m u None = text_step t m (slice_index bytes place) ≡ None
TextMoves bytes place t m u (Some p) = (place < p.1) × (p.1 ≤ length bytes) × StandsSome u p.0
    × ((fs : List Frame) (role : Role) → reads place (at fs (in_text role t m)) (drop place bytes) ≡ reads p.1 (at fs (in_text role u p.0)) (drop p.1 bytes))
