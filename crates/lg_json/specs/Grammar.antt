-- The grammar of JSON texts (RFC 8259) as a relation between a value and the bytes that write it, in UTF-8.
use Rattle.std.specs.Prelude.{◌≡◌, ℕ, ◌+◌, ◌-◌, ◌*◌, ◌^◌, ◌<◌, ◌≤◌, ◌≢◌, Bool, true, false, ◌⊎◌, List, [], ◌∷◌, ◌++◌, ℤ, pos, negsuc, neg_ℤ, codes}
use Rattle.std.specs.List.{AllByRecursion}
use Rattle.std.specs.Char.{IsScalar, encode_utf8, digit_value}
use Rattle.std.specs.Str.{encode_utf8_all}
use Rattle.lg_json.specs.Tree.{Tree, Trees, Members}
use Rattle.lg_json.specs.Tree.Tree.{null, truth, whole, part, text, list, members}
use Rattle.lg_json.specs.Tree.Trees.{none, item}
use Rattle.lg_json.specs.Tree.Members.{no_member, member}

-- Section 2: blanks are space, tab, line feed and carriage return.
abbrev pub IsBlankByte : ℕ → Type 0
IsBlankByte b = (b ≡ 32) ⊎ (b ≡ 9) ⊎ (b ≡ 10) ⊎ (b ≡ 13)

abbrev pub IsBlank : List ℕ → Type 0
IsBlank bytes = AllByRecursion IsBlankByte bytes

-- Section 6: a number is an optional minus, an int, an optional fraction and an optional exponent.
abbrev pub IsDigit : ℕ → Type 0
IsDigit b = (48 ≤ b) × (b ≤ 57)

abbrev pub AreDigits : List ℕ → Type 0
AreDigits bytes = AllByRecursion IsDigit bytes

-- a digit from 1 to 9, and digits
abbrev pub IsPositive : List ℕ → Type 0
IsPositive [] = ⊥
IsPositive (b ∷ bs) = (49 ≤ b) × (b ≤ 57) × AreDigits bs

abbrev pub IsInt : List ℕ → Type 0
IsInt bytes = (bytes ≡ 48 ∷ []) ⊎ IsPositive bytes

-- the number that digits write after the number n
abbrev pub number_from : ℕ → List ℕ → ℕ
number_from n [] = n
number_from n (b ∷ bs) = number_from (n * 10 + (b - 48)) bs

abbrev pub signed : Bool → ℕ → ℤ
signed true n = neg_ℤ (pos n)
signed false n = pos n

abbrev pub minus_if : Bool → List ℕ
minus_if true = 45 ∷ []
minus_if false = []

pub record IsWhole (n : ℤ) (bytes : List ℕ) : Type 0 where
  pub negative : Bool
  pub digits : List ℕ
  pub is_int : IsInt digits
  pub value : n ≡ signed negative (number_from 0 digits)
  pub parts : bytes ≡ minus_if negative ++ digits

-- at least one digit
abbrev pub AreSomeDigits : List ℕ → Type 0
AreSomeDigits [] = ⊥
AreSomeDigits (b ∷ bs) = IsDigit b × AreDigits bs

abbrev pub IsFraction : List ℕ → Type 0
IsFraction bytes = (digits : List ℕ) × AreSomeDigits digits × (bytes ≡ 46 ∷ digits)

abbrev pub IsSign : List ℕ → Type 0
IsSign bytes = (bytes ≡ []) ⊎ (bytes ≡ 43 ∷ []) ⊎ (bytes ≡ 45 ∷ [])

abbrev pub IsExponent : List ℕ → Type 0
IsExponent bytes = (e : ℕ) × (sign digits : List ℕ) × ((e ≡ 101) ⊎ (e ≡ 69)) × IsSign sign × AreSomeDigits digits × (bytes ≡ e ∷ (sign ++ digits))

abbrev pub IsFractionAndExponent : List ℕ → Type 0
IsFractionAndExponent bytes = (fraction exponent : List ℕ) × IsFraction fraction × IsExponent exponent × (bytes ≡ fraction ++ exponent)

abbrev pub IsPart : List ℕ → Type 0
IsPart bytes = (n : ℤ) × (front more : List ℕ) × IsWhole n front × (IsFraction more ⊎ IsExponent more ⊎ IsFractionAndExponent more) × (bytes ≡ front ++ more)

-- Section 7: a string is characters between quotes. A character stands for itself or is escaped.
-- `IsShort b c`: the byte b after a backslash is the character c.
pub data IsShort : ℕ → ℕ → Type 0 where
  quote : IsShort 34 34
  backslash : IsShort 92 92
  slash : IsShort 47 47
  backspace : IsShort 98 8
  form_feed : IsShort 102 12
  line_feed : IsShort 110 10
  carriage_return : IsShort 114 13
  tab : IsShort 116 9

abbrev pub IsHexDigit : ℕ → Type 0
IsHexDigit b = digit_value b < 16

-- the number of four hexadecimal digits
abbrev pub hex_number : ℕ → ℕ → ℕ → ℕ → ℕ
hex_number a b c d = ((digit_value a * 16 + digit_value b) * 16 + digit_value c) * 16 + digit_value d

-- the escape \uXXXX of the number u
pub record IsUnit (u : ℕ) (bytes : List ℕ) : Type 0 where
  pub a : ℕ
  pub b : ℕ
  pub c : ℕ
  pub d : ℕ
  pub a_is_digit : IsHexDigit a
  pub b_is_digit : IsHexDigit b
  pub c_is_digit : IsHexDigit c
  pub d_is_digit : IsHexDigit d
  pub value : u ≡ hex_number a b c d
  pub parts : bytes ≡ 92 ∷ 117 ∷ a ∷ b ∷ c ∷ d ∷ []

-- the surrogates, 0xD800 to 0xDBFF and 0xDC00 to 0xDFFF, stand in pairs alone (section 8.2)
abbrev pub IsHigh : ℕ → Type 0
IsHigh u = (55296 ≤ u) × (u ≤ 56319)

abbrev pub IsLow : ℕ → Type 0
IsLow u = (56320 ≤ u) × (u ≤ 57343)

-- the character that a pair of surrogates is
abbrev pub pair : ℕ → ℕ → ℕ
pair high low = 65536 + (high - 55296) * 1024 + (low - 56320)

pub data IsChar : ℕ → List ℕ → Type 0 where
  unescaped : (c : ℕ) (bytes : List ℕ) → IsScalar c → 32 ≤ c → c ≢ 34 → c ≢ 92 → bytes ≡ encode_utf8 c → IsChar c bytes
  short : (c b : ℕ) (bytes : List ℕ) → IsShort b c → bytes ≡ 92 ∷ b ∷ [] → IsChar c bytes
  unit : (c : ℕ) (bytes : List ℕ) → IsUnit c bytes → (IsHigh c → ⊥) → (IsLow c → ⊥) → IsChar c bytes
  surrogates : (c h l : ℕ) (front back bytes : List ℕ) → IsHigh h → IsLow l → IsUnit h front → IsUnit l back → c ≡ pair h l → bytes ≡ front ++ back → IsChar c bytes

abbrev pub AreChars : List ℕ → List ℕ → Type 0
AreChars [] bytes = bytes ≡ []
AreChars (c ∷ cs) bytes = (first others : List ℕ) × IsChar c first × AreChars cs others × (bytes ≡ first ++ others)

-- `t` is the string's text, in UTF-8
pub record IsString (t bytes : List ℕ) : Type 0 where
  pub chars : List ℕ
  pub inner : List ℕ
  pub spelled : AreChars chars inner
  pub value : t ≡ encode_utf8_all chars
  pub parts : bytes ≡ 34 ∷ (inner ++ 34 ∷ [])

-- Section 2: blanks may stand before and after a value, a name and each of [ ] { } : and ,
abbrev pub Padded : (List ℕ → Type 0) → List ℕ → Type 0
Padded P bytes = (before inner after : List ℕ) × IsBlank before × P inner × IsBlank after × (bytes ≡ before ++ (inner ++ after))

-- Section 4: a member is a name, a colon and a value.
abbrev pub IsMember : List ℕ → (List ℕ → Type 0) → List ℕ → Type 0
IsMember name P bytes = (a b : List ℕ) × Padded (IsString name) a × Padded P b × (bytes ≡ a ++ 58 ∷ b)

-- Sections 3 to 5: values, the items of a list between its brackets, the members of an object between its braces.
abbrev mutual
  pub IsValue : Tree → List ℕ → Type 0
  IsValue null bytes = bytes ≡ codes "null"
  IsValue (truth true) bytes = bytes ≡ codes "true"
  IsValue (truth false) bytes = bytes ≡ codes "false"
  IsValue (whole n) bytes = IsWhole n bytes
  IsValue part bytes = IsPart bytes
  IsValue (text t) bytes = IsString t bytes
  IsValue (list ts) bytes = (inner : List ℕ) × AreItems ts inner × (bytes ≡ 91 ∷ (inner ++ 93 ∷ []))
  IsValue (members ms) bytes = (inner : List ℕ) × AreMembers ms inner × (bytes ≡ 123 ∷ (inner ++ 125 ∷ []))

  pub AreItems : Trees → List ℕ → Type 0
  AreItems none bytes = IsBlank bytes
  AreItems (item t none) bytes = Padded (IsValue t) bytes
  AreItems (item t (item u us)) bytes = (first others : List ℕ) × Padded (IsValue t) first × AreItems (item u us) others × (bytes ≡ first ++ 44 ∷ others)

  pub AreMembers : Members → List ℕ → Type 0
  AreMembers no_member bytes = IsBlank bytes
  AreMembers (member name t no_member) bytes = IsMember name (IsValue t) bytes
  AreMembers (member name t (member m u us)) bytes = (first others : List ℕ) × IsMember name (IsValue t) first × AreMembers (member m u us) others × (bytes ≡ first ++ 44 ∷ others)

-- the bytes are a JSON text (section 2) of the value t
abbrev pub IsJson : Tree → List ℕ → Type 0
IsJson t bytes = Padded (IsValue t) bytes

-- What a reader may refuse (sections 4, 6 and 9), and this one does: numbers that aren't whole or not from -2^127 to
-- 2^127 - 1, repeated names, and more than `room` lists and objects inside one another.
abbrev pub InRange : ℤ → Type 0
InRange (pos n) = n < 2 ^ 127
InRange (negsuc n) = n < 2 ^ 127

-- the name isn't among those of the members
abbrev pub IsNew : List ℕ → Members → Type 0
IsNew name no_member = Unit {0}
IsNew name (member other t ms) = (name ≢ other) × IsNew name ms

abbrev mutual
  pub Fits : ℕ → Tree → Type 0
  Fits room null = Unit {0}
  Fits room (truth b) = Unit {0}
  Fits room (whole n) = InRange n
  Fits room part = ⊥
  Fits room (text t) = Unit {0}
  Fits room (list ts) = (0 < room) × AllFit (room - 1) ts
  Fits room (members ms) = (0 < room) × MembersFit (room - 1) ms

  pub AllFit : ℕ → Trees → Type 0
  AllFit room none = Unit {0}
  AllFit room (item t ts) = Fits room t × AllFit room ts

  pub MembersFit : ℕ → Members → Type 0
  MembersFit room no_member = Unit {0}
  MembersFit room (member name t ms) = IsNew name ms × Fits room t × MembersFit room ms
