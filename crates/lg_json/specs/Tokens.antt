-- What a part of the reading does over some bytes, whatever is open.
use Rattle.std.specs.Prelude.{◌≡◌, ◌≢◌, ◌⊎◌, ℕ, suc, ◌+◌, ◌-◌, ◌<◌, ◌≤◌, Bool, true, false, slice_index, List, [], ◌∷◌, length, drop, ℤ, Result, Ok, Err}
use Rattle.lg_json.specs.Tree.{Tree}
use Rattle.lg_json.specs.Tree.Tree.{whole}
use Rattle.lg_json.specs.Reading.{Frame, Mode, Role, State, at, is_blank, is_digit, begins_part, fits, complete, begin, end_text, step, and_then, reads}
use Rattle.lg_json.specs.Reading as machine
use Rattle.lg_json.specs.Reading.Mode.{in_word, after_zero, in_digits, in_text}
use Rattle.lg_json.specs.Grammar.{signed}
use Rattle.lg_json.specs.View.{Fails, standing}
use Rattle.lg_json.specs.declared.json.JsonFault.{JsonFault}
use Rattle.lg_json.specs.declared.json.JsonFault.TheVariants.{Syntax, NotWhole, TooWide}
use Rattle.lg_json.specs.declared.state.Frame.{Frame as OpenFrame}
use Rattle.lg_json.specs.declared.state.Next.{Next}
use Rattle.lg_json.specs.declared.state.TextMode.TheVariants.{Character}
use Rattle.lg_containers.specs.declared.utf8.Utf8State.TheVariants.{Boundary}

-- blanks change nothing
pub record Passes (fs : List Frame) (m : Mode) : Type 0 where
  pub over : (i b : ℕ) → is_blank b ≡ true → step i fs m b ≡ Ok (at fs m)

-- a value from its first byte on
abbrev pub begins : ℕ → List Frame → List ℕ → Result Tree JsonFault
begins i fs [] = Err (Syntax i)
begins i fs (b ∷ bs) = and_then (begin i fs b) (λ next. reads (suc i) next bs)

-- only blanks stand from the place up to `next`
pub record Skips (bytes : List ℕ) (place next : ℕ) : Type 0 where
  pub above : place ≤ next
  pub within : next ≤ length bytes
  pub same : (fs : List Frame) (m : Mode) → Passes fs m → reads place (at fs m) (drop place bytes) ≡ reads next (at fs m) (drop next bytes)

-- what is read from the place on is read from the new place on, where fs is open
abbrev pub Moves : List ℕ → ℕ → Result Tree JsonFault → List OpenFrame → Result (Next × ℕ) JsonFault → Type 0
Moves bytes place before fs (Ok p) = (place < p.1) × (p.1 ≤ length bytes) × (before ≡ reads p.1 (standing fs p.0) (drop p.1 bytes))
Moves bytes place before fs (Err f) = Fails f before

-- a number from its first byte on: its value and the place after it
abbrev pub IsNumber : List ℕ → ℕ → Result (ℤ × ℕ) JsonFault → Type 0
IsNumber bytes place (Ok p) = (place < p.1) × (p.1 ≤ length bytes) × ((fs : List Frame) → begins place fs (drop place bytes) ≡ reads p.1 (complete fs (whole p.0)) (drop p.1 bytes))
IsNumber bytes place (Err f) = (fs : List Frame) → Fails f (begins place fs (drop place bytes))

-- the rest of a word: the place after it
abbrev pub IsWord : List ℕ → ℕ → List ℕ → Result ℕ JsonFault → Type 0
IsWord bytes place rest (Ok next) = (place ≤ next) × (next ≤ length bytes) × ((fs : List Frame) (t : Tree) → reads place (at fs (in_word rest t)) (drop place bytes) ≡ reads next (complete fs t) (drop next bytes))
IsWord bytes place rest (Err f) = (fs : List Frame) (t : Tree) → Fails f (reads place (at fs (in_word rest t)) (drop place bytes))

-- a text from after its first quote on, and the place of its last quote
pub record TextEnds (bytes : List ℕ) (place : ℕ) (text : List ℕ) (quote : ℕ) : Type 0 where
  pub above : place ≤ quote
  pub within : quote < length bytes
  pub same : (fs : List Frame) (role : Role) → reads place (at fs (in_text role [] (Character Boundary))) (drop place bytes) ≡ and_then (end_text quote fs role text) (λ next. reads (suc quote) next (drop (quote + 1) bytes))

abbrev pub IsText : List ℕ → ℕ → Result (List ℕ × ℕ) JsonFault → Type 0
IsText bytes place (Ok p) = TextEnds bytes place p.0 p.1
IsText bytes place (Err f) = (fs : List Frame) (role : Role) → Fails f (reads place (at fs (in_text role [] (Character Boundary))) (drop place bytes))

-- a minus or a digit
abbrev pub IsNumberByte : ℕ → Type 0
IsNumberByte b = (b ≡ 45) ⊎ ((48 ≤ b) × (b ≤ 57))

-- the digits of a number from the place `at` on take its value from n to m
pub record DigitsTo (bytes : List ℕ) (at n m end : ℕ) : Type 0 where
  pub above : at ≤ end
  pub within : end ≤ length bytes
  pub stops : end < length bytes → is_digit (slice_index bytes end) ≡ false
  pub same : (fs : List Frame) (negative : Bool) (p : ℕ) → reads at (machine.at fs (in_digits negative n p)) (drop at bytes) ≡ reads end (machine.at fs (in_digits negative m p)) (drop end bytes)

-- a number's digits end before the place `end`
pub record IsDigits (bytes : List ℕ) (place : ℕ) (negative : Bool) (n end : ℕ) : Type 0 where
  pub ends : (fs : List Frame) → (end < length bytes → begins_part (slice_index bytes end) ≡ false) → fits negative n ≡ true → begins place fs (drop place bytes) ≡ reads end (complete fs (whole (signed negative n))) (drop end bytes)
  pub part : (fs : List Frame) → end < length bytes → begins_part (slice_index bytes end) ≡ true → begins place fs (drop place bytes) ≡ Err (NotWhole place)
  pub wide : (fs : List Frame) → (end < length bytes → begins_part (slice_index bytes end) ≡ false) → fits negative n ≡ false → begins place fs (drop place bytes) ≡ Err (TooWide place)

-- a number's digits begin at the place `at`
pub record AfterSign (bytes : List ℕ) (place : ℕ) (negative : Bool) (at : ℕ) : Type 0 where
  pub ended : (fs : List Frame) → at ≡ length bytes → begins place fs (drop place bytes) ≡ Err (Syntax at)
  pub other : (fs : List Frame) → at < length bytes → is_digit (slice_index bytes at) ≡ false → begins place fs (drop place bytes) ≡ Err (Syntax at)
  pub zero : (fs : List Frame) → at < length bytes → slice_index bytes at ≡ 48 → begins place fs (drop place bytes) ≡ reads (at + 1) (machine.at fs (after_zero negative place)) (drop (at + 1) bytes)
  pub digit : (fs : List Frame) → at < length bytes → 49 ≤ slice_index bytes at → slice_index bytes at ≤ 57 → begins place fs (drop place bytes) ≡ reads (at + 1) (machine.at fs (in_digits negative (slice_index bytes at - 48) place)) (drop (at + 1) bytes)

-- no byte with which a text, a list, an object or a word begins
abbrev pub IsOtherByte : ℕ → Type 0
IsOtherByte b = (b ≢ 34) × (b ≢ 91) × (b ≢ 123) × (b ≢ 110) × (b ≢ 116) × (b ≢ 102)
