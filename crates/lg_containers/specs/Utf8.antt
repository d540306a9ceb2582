-- UTF-8 as it is read from left to right, by table 3-7 of the Unicode Standard.
use Rattle.std.specs.Prelude.{◌≡◌, ℕ, ◌-◌, ◌≤◌, nat_lt, ◌==◌, if◌then◌else◌, Option, Some, None, IsSomeAnd, Bool, true, false, List, [], ◌∷◌, ◌++◌}
use Rattle.std.specs.Char.{IsScalar, encode_utf8}
use Rattle.lg_containers.specs.declared.utf8.Utf8State.{Utf8State}
use Rattle.lg_containers.specs.declared.utf8.Utf8State.TheVariants.{Boundary, Inside}

-- what the first byte of a character asks for: the range of its next byte, and how many follow that one
unfoldable pub lead_state : ℕ → Option Utf8State
lead_state b =
    if nat_lt b 0x80 then Some Boundary else
    (if nat_lt b 0xC2 then None else
    (if nat_lt b 0xE0 then Some (Inside 0x80 0xBF 0) else
    (if b == 0xE0 then Some (Inside 0xA0 0xBF 1) else
    (if b == 0xED then Some (Inside 0x80 0x9F 1) else
    (if nat_lt b 0xF0 then Some (Inside 0x80 0xBF 1) else
    (if b == 0xF0 then Some (Inside 0x90 0xBF 2) else
    (if nat_lt b 0xF4 then Some (Inside 0x80 0xBF 2) else
    (if b == 0xF4 then Some (Inside 0x80 0x8F 2) else None))))))))

-- the state after one more byte, or none where no character goes on so
unfoldable pub utf8_step : Utf8State → ℕ → Option Utf8State
utf8_step Boundary b = lead_state b
utf8_step (Inside low high left) b =
    if nat_lt b low then None else
    (if nat_lt high b then None else
    (if left == 0 then Some Boundary else Some (Inside 0x80 0xBF (left - 1))))

-- a character may begin, or the text end
abbrev pub is_boundary : Utf8State → Bool
is_boundary Boundary = true
is_boundary (Inside low high left) = false

-- the bytes end the character that the state is in, and go no further
abbrev pub Finishes : Utf8State → List ℕ → Type 0
Finishes Boundary bytes = bytes ≡ []
Finishes (Inside low high left) [] = ⊥
Finishes (Inside low high left) (b ∷ bs) = IsSomeAnd (utf8_step (Inside low high left) b) (λ next. Finishes next bs)

-- the bytes begin a character from 128 on, and whatever finishes the state ends one
abbrev pub BeginsChar : List ℕ → Utf8State → Type 0
BeginsChar part state = (more : List ℕ) → Finishes state more → (c : ℕ) × IsScalar c × (128 ≤ c) × (part ++ more ≡ encode_utf8 c)
