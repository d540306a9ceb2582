-- A reading of a JSON text from left to right, byte by byte: what is open, and what comes next.
use Rattle.std.specs.Prelude.{ℕ, suc, ◌+◌, ◌-◌, ◌*◌, ◌%◌, ◌^◌, min, Bool, true, false, nat_lt, nat_le, ◌==◌, ◌||◌, ◌&&◌, if◌then◌else◌, List, [], ◌∷◌, ◌++◌, length, bytes_eq, Option, Some, None, Result, Ok, Err}
use Rattle.std.specs.List.{list_any}
use Rattle.std.specs.Char.{encode_utf8, digit_value}
use Rattle.lg_containers.specs.Utf8.{utf8_step}
use Rattle.lg_containers.specs.declared.utf8.Utf8State.{Utf8State}
use Rattle.lg_containers.specs.declared.utf8.Utf8State.TheVariants.{Boundary, Inside}
use Rattle.lg_json.specs.Tree.{Tree, Entry, trees, entries}
use Rattle.lg_json.specs.Tree.Tree.{null, truth, whole, text, list, members}
use Rattle.lg_json.specs.Grammar.{signed}
use Rattle.lg_json.specs.declared.json.JsonFault.{JsonFault}
use Rattle.lg_json.specs.declared.json.JsonFault.TheVariants.{Syntax, NotWhole, TooWide, TooDeep, Repeated}
use Rattle.lg_json.specs.declared.state.TextMode.{TextMode}
use Rattle.lg_json.specs.declared.state.TextMode.TheVariants.{Character, Escape, Unit, AfterHigh, AfterHighEscape, Low}

-- a list or an object that is open; `named`: its last name has its value still to come
pub data Frame : Type 0 where
  in_list : List Tree → Frame
  in_object : List Entry → Frame
  named : List Entry → List ℕ → Frame

-- what a text is read for: a value, or a name whose first quote stands at the place
pub data Role : Type 0 where
  Value : Role
  Name : ℕ → Role

-- what comes next; the last number of a mode is the place of a number's first byte
pub data Mode : Type 0 where
  before_value : Mode
  before_first : Mode
  before_first_name : Mode
  before_name : Mode
  before_colon : Mode
  in_word : List ℕ → Tree → Mode
  after_minus : ℕ → Mode
  after_zero : Bool → ℕ → Mode
  in_digits : Bool → ℕ → ℕ → Mode
  in_text : Role → List ℕ → TextMode → Mode
  after_item : Mode
  ended : Tree → Mode

-- the innermost of what is open first
pub record State : Type 0 where
  pub frames : List Frame
  pub mode : Mode

abbrev pub at : List Frame → Mode → State
at fs m = record { frames = fs; mode = m }

abbrev pub is_blank : ℕ → Bool
is_blank b = b == 32 || b == 9 || b == 10 || b == 13

abbrev pub is_digit : ℕ → Bool
is_digit b = nat_le 48 b && nat_le b 57

-- the value t stands where a value was to come
abbrev pub with_value : Frame → Tree → Frame
with_value (in_list ts) t = in_list (ts ++ t ∷ [])
with_value (in_object ms) t = in_object ms
with_value (named ms name) t = in_object (ms ++ (name, t) ∷ [])

abbrev pub complete : List Frame → Tree → State
complete [] t = at [] (ended t)
complete (f ∷ fs) t = at (with_value f t ∷ fs) after_item

-- a list or an object that begins
abbrev pub open_frame : ℕ → List Frame → Frame → Mode → Result State JsonFault
open_frame i fs f m = if nat_lt (length fs) 64 then Ok (at (f ∷ fs) m) else Err (TooDeep i)

-- a value that begins
unfoldable pub begin : ℕ → List Frame → ℕ → Result State JsonFault
begin i fs b =
    if b == 34 then Ok (at fs (in_text Role.Value [] (Character Boundary))) else
    (if b == 91 then open_frame i fs (in_list []) before_first else
    (if b == 123 then open_frame i fs (in_object []) before_first_name else
    (if b == 110 then Ok (at fs (in_word (117 ∷ 108 ∷ 108 ∷ []) null)) else
    (if b == 116 then Ok (at fs (in_word (114 ∷ 117 ∷ 101 ∷ []) (truth true))) else
    (if b == 102 then Ok (at fs (in_word (97 ∷ 108 ∷ 115 ∷ 101 ∷ []) (truth false))) else
    (if b == 45 then Ok (at fs (after_minus i)) else
    (if b == 48 then Ok (at fs (after_zero false i)) else
    (if is_digit b then Ok (at fs (in_digits false (b - 48) i)) else Err (Syntax i)))))))))

-- after an item or a member: a comma, or the end of the list or the object
abbrev pub follow_on : ℕ → List Frame → ℕ → Result State JsonFault
follow_on i [] b = Err (Syntax i)
follow_on i (in_list ts ∷ fs) b =
    if b == 44 then Ok (at (in_list ts ∷ fs) before_value) else
    (if b == 93 then Ok (complete fs (list (trees ts))) else Err (Syntax i))
follow_on i (in_object ms ∷ fs) b =
    if b == 44 then Ok (at (in_object ms ∷ fs) before_name) else
    (if b == 125 then Ok (complete fs (members (entries ms))) else Err (Syntax i))
follow_on i (named ms name ∷ fs) b = Err (Syntax i)

abbrev pub follow : ℕ → List Frame → ℕ → Result State JsonFault
follow i fs b = if is_blank b then Ok (at fs after_item) else follow_on i fs b

-- after the value t, which is complete
unfoldable pub after : ℕ → List Frame → Tree → ℕ → Result State JsonFault
after i [] t b = if is_blank b then Ok (at [] (ended t)) else Err (Syntax i)
after i (f ∷ fs) t b = follow i (with_value f t ∷ fs) b

-- a number's value so far is kept below this and counts as too wide at it
abbrev pub capped : ℕ → ℕ
capped n = min n (2 ^ 127 + 1)

abbrev pub fits : Bool → ℕ → Bool
fits true n = nat_le n (2 ^ 127)
fits false n = nat_lt n (2 ^ 127)

-- a fraction or an exponent begins
abbrev pub begins_part : ℕ → Bool
begins_part b = b == 46 || b == 101 || b == 69

-- a number ends before the byte b
unfoldable pub end_number : ℕ → List Frame → Bool → ℕ → ℕ → ℕ → Result State JsonFault
end_number i fs negative n p b =
    if begins_part b then Err (NotWhole p) else
    (if fits negative n then after i fs (whole (signed negative n)) b else Err (TooWide p))

-- the character that a byte after a backslash stands for
abbrev pub short_escape : ℕ → Option ℕ
short_escape b =
    if b == 34 then Some 34 else
    (if b == 92 then Some 92 else
    (if b == 47 then Some 47 else
    (if b == 98 then Some 8 else
    (if b == 102 then Some 12 else
    (if b == 110 then Some 10 else
    (if b == 114 then Some 13 else
    (if b == 116 then Some 9 else None)))))))

abbrev pub is_high : ℕ → Bool
is_high u = nat_le 55296 u && nat_le u 56319

-- the number of hexadecimal digits with one more, in 16 bits
abbrev pub hex_more : ℕ → ℕ → ℕ
hex_more u d = (u * 16 + d) % 65536

-- the character of a high and a low surrogate
abbrev pub joined : ℕ → ℕ → ℕ
joined h l = 65536 + (h % 1024 * 1024 + l % 1024)

-- the text so far and its mode
abbrev pub TextState : Type 0
TextState = List ℕ × TextMode

-- a byte that stands for itself
abbrev pub character_step : List ℕ → ℕ → Option Utf8State → Option TextState
character_step t b None = None
character_step t b (Some u) = Some (t ++ b ∷ [], Character u)

abbrev pub escape_step : List ℕ → Option ℕ → Option TextState
escape_step t None = None
escape_step t (Some c) = Some (t ++ c ∷ [], Character Boundary)

-- u: the value with this digit; n: the digits that were to come before it. The second digit tells a low surrogate.
abbrev pub unit_step : List ℕ → ℕ → ℕ → Option TextState
unit_step t n u =
    if n == 1 then (if is_high u then Some (t, AfterHigh u) else Some (t ++ encode_utf8 u, Character Boundary)) else
    (if n == 3 then (if nat_lt u 220 then Some (t, Unit 2 u) else (if nat_lt 223 u then Some (t, Unit 2 u) else None)) else
    Some (t, Unit (n - 1) u))

-- the same for the low surrogate that has to follow h: D, then C to F
abbrev pub low_step : List ℕ → ℕ → ℕ → ℕ → Option TextState
low_step t h n u =
    if n == 1 then Some (t ++ encode_utf8 (joined h u), Character Boundary) else
    (if n == 4 then (if u == 13 then Some (t, Low h 3 u) else None) else
    (if n == 3 then (if nat_lt u 220 then None else Some (t, Low h 2 u)) else
    Some (t, Low h (n - 1) u)))

-- the byte b, which doesn't end the text
unfoldable pub text_step : List ℕ → TextMode → ℕ → Option TextState
text_step t (Character Boundary) b =
    if b == 92 then Some (t, Escape) else
    (if nat_lt b 32 then None else character_step t b (utf8_step Boundary b))
text_step t (Character (Inside low high left)) b = character_step t b (utf8_step (Inside low high left) b)
text_step t Escape b = if b == 117 then Some (t, Unit 4 0) else escape_step t (short_escape b)
text_step t (Unit n u) b = if nat_lt (digit_value b) 16 then unit_step t n (hex_more u (digit_value b)) else None
text_step t (AfterHigh h) b = if b == 92 then Some (t, AfterHighEscape h) else None
text_step t (AfterHighEscape h) b = if b == 117 then Some (t, Low h 4 0) else None
text_step t (Low h n u) b = if nat_lt (digit_value b) 16 then low_step t h n (hex_more u (digit_value b)) else None

-- the byte is the closing quote
abbrev pub closes : TextMode → ℕ → Bool
closes (Character Boundary) b = b == 34
closes (Character (Inside low high left)) b = false
closes Escape b = false
closes (Unit n u) b = false
closes (AfterHigh h) b = false
closes (AfterHighEscape h) b = false
closes (Low h n u) b = false

-- the name is that of a member
abbrev pub has_name : List ℕ → List Entry → Bool
has_name name ms = list_any (λ m. bytes_eq m.0 name) ms

-- the name that was quoted from the place q on, as the name of the next member
abbrev pub with_name : ℕ → ℕ → List Frame → List ℕ → Result State JsonFault
with_name i q [] name = Err (Syntax i)
with_name i q (in_list ts ∷ fs) name = Err (Syntax i)
with_name i q (named ms other ∷ fs) name = Err (Syntax i)
with_name i q (in_object ms ∷ fs) name =
    if has_name name ms then Err (Repeated q) else Ok (at (named ms name ∷ fs) before_colon)

-- the text t has ended
abbrev pub end_text : ℕ → List Frame → Role → List ℕ → Result State JsonFault
end_text i fs Role.Value t = Ok (complete fs (text t))
end_text i fs (Role.Name q) t = with_name i q fs t

abbrev pub in_text_step : ℕ → List Frame → Role → Option TextState → Result State JsonFault
in_text_step i fs role None = Err (Syntax i)
in_text_step i fs role (Some s) = Ok (at fs (in_text role s.0 s.1))

abbrev pub word_step : ℕ → List Frame → List ℕ → Tree → ℕ → Result State JsonFault
word_step i fs [] t b = Err (Syntax i)
word_step i fs (c ∷ []) t b = if b == c then Ok (complete fs t) else Err (Syntax i)
word_step i fs (c ∷ d ∷ ds) t b = if b == c then Ok (at fs (in_word (d ∷ ds) t)) else Err (Syntax i)

-- the list or object that is open ends with no item
abbrev pub close_empty : ℕ → List Frame → Tree → Result State JsonFault
close_empty i [] t = Err (Syntax i)
close_empty i (f ∷ fs) t = Ok (complete fs t)

abbrev pub begin_name : ℕ → List Frame → State
begin_name i fs = at fs (in_text (Role.Name i) [] (Character Boundary))

-- the byte b at the place i
unfoldable pub step : ℕ → List Frame → Mode → ℕ → Result State JsonFault
step i fs before_value b = if is_blank b then Ok (at fs before_value) else begin i fs b
step i fs before_first b =
    if is_blank b then Ok (at fs before_first) else
    (if b == 93 then close_empty i fs (list (trees [])) else begin i fs b)
step i fs before_first_name b =
    if is_blank b then Ok (at fs before_first_name) else
    (if b == 34 then Ok (begin_name i fs) else
    (if b == 125 then close_empty i fs (members (entries [])) else Err (Syntax i)))
step i fs before_name b =
    if is_blank b then Ok (at fs before_name) else
    (if b == 34 then Ok (begin_name i fs) else Err (Syntax i))
step i fs before_colon b =
    if is_blank b then Ok (at fs before_colon) else
    (if b == 58 then Ok (at fs before_value) else Err (Syntax i))
step i fs (in_word rest t) b = word_step i fs rest t b
step i fs (after_minus p) b =
    if b == 48 then Ok (at fs (after_zero true p)) else
    (if is_digit b then Ok (at fs (in_digits true (b - 48) p)) else Err (Syntax i))
step i fs (after_zero negative p) b = end_number i fs negative 0 p b
step i fs (in_digits negative n p) b =
    if is_digit b then Ok (at fs (in_digits negative (capped (n * 10 + (b - 48))) p)) else
    end_number i fs negative n p b
step i fs (in_text role t m) b =
    if closes m b then end_text i fs role t else in_text_step i fs role (text_step t m b)
step i fs after_item b = follow i fs b
step i fs (ended t) b = if is_blank b then Ok (at fs (ended t)) else Err (Syntax i)

-- the value that is complete at the end, where nothing is open
abbrev pub whole_text : ℕ → List Frame → Tree → Result Tree JsonFault
whole_text i [] t = Ok t
whole_text i (f ∷ fs) t = Err (Syntax i)

-- the bytes end at the place i
unfoldable pub finish : ℕ → List Frame → Mode → Result Tree JsonFault
finish i fs (after_zero negative p) = whole_text i fs (whole (signed negative 0))
finish i fs (in_digits negative n p) =
    if fits negative n then whole_text i fs (whole (signed negative n)) else Err (TooWide p)
finish i fs (ended t) = Ok t
finish i fs before_value = Err (Syntax i)
finish i fs before_first = Err (Syntax i)
finish i fs before_first_name = Err (Syntax i)
finish i fs before_name = Err (Syntax i)
finish i fs before_colon = Err (Syntax i)
finish i fs (in_word rest t) = Err (Syntax i)
finish i fs (after_minus p) = Err (Syntax i)
finish i fs (in_text role t m) = Err (Syntax i)
finish i fs after_item = Err (Syntax i)

abbrev pub and_then : {A B : Type 0} → Result A JsonFault → (A → Result B JsonFault) → Result B JsonFault
and_then (Ok x) f = f x
and_then (Err e) f = Err e

-- what is left to read, from the place i on
unfoldable pub reads : ℕ → State → List ℕ → Result Tree JsonFault
reads i s [] = finish i s.frames s.mode
reads i s (b ∷ bs) = and_then (step i s.frames s.mode b) (λ next. reads (suc i) next bs)

-- the value of a JSON text, or its first fault
unfoldable pub reading : List ℕ → Result Tree JsonFault
reading bytes = reads 0 (at [] before_value) bytes
