-- The first fault of some bytes, reading from left to right, and its place.
--     Begins front            the bytes begin some JSON text
--     BeginsFitting front     they begin one that fits: nothing that a reader refuses has come yet
--     IsFault bytes f         f is the first fault of the bytes
use Rattle.std.specs.Prelude.{◌≡◌, ℕ, ◌<◌, ◌≤◌, true, false, ◌⊎◌, List, [], ◌∷◌, ◌++◌, length, take, ℤ}
use Rattle.lg_json.specs.Tree.{Tree, Entry, entries}
use Rattle.lg_json.specs.Grammar.{IsWhole, IsString, IsJson, InRange, IsNew, Fits}
use Rattle.lg_json.specs.Reading.{Frame, is_digit, begins_part}
use Rattle.lg_json.specs.Before.{BeforeName, BeforeValue}
use Rattle.lg_json.specs.declared.json.JsonFault.{JsonFault}
use Rattle.lg_json.specs.declared.json.JsonFault.TheVariants.{Syntax, NotWhole, TooWide, TooDeep, Repeated, NoMemory}

abbrev pub Begins : List ℕ → Type 0
Begins front = (rest : List ℕ) × (t : Tree) × IsJson t (front ++ rest)

abbrev pub BeginsFitting : List ℕ → Type 0
BeginsFitting front = (rest : List ℕ) × (t : Tree) × Fits 64 t × IsJson t (front ++ rest)

abbrev pub NotJson : List ℕ → Type 0
NotJson bytes = (t : Tree) → IsJson t bytes → ⊥

-- k is the length of the longest prefix of the bytes that begins some JSON text
pub record IsLongestFront (bytes : List ℕ) (k : ℕ) : Type 0 where
  pub within : k ≤ length bytes
  pub begins : Begins (take k bytes)
  pub longest : (m : ℕ) → k < m → m ≤ length bytes → Begins (take m bytes) → ⊥

-- a value is to come at the place p, after `outer`, where fs is open and no fault has come
pub record Before (fs : List Frame) (p : ℕ) (outer : List ℕ) : Type 0 where
  pub stands : BeforeValue fs outer
  pub fitting : BeginsFitting outer
  pub place : p ≡ length outer

-- no byte of a number comes next
abbrev pub EndsNumber : List ℕ → Type 0
EndsNumber [] = Unit {0}
EndsNumber (b ∷ bs) = (is_digit b ≡ false) × (begins_part b ≡ false)

-- the bytes are no JSON text, and go wrong before anything else does
abbrev pub IsSyntax : List ℕ → ℕ → Type 0
IsSyntax bytes k = IsLongestFront bytes k × NotJson bytes × BeginsFitting (take k bytes)

-- a point, an e or an E follows a whole number
abbrev pub IsNotWhole : List ℕ → ℕ → Type 0
IsNotWhole bytes p = (fs : List Frame) × (outer number rest : List ℕ) × (n : ℤ) × (c : ℕ) × Before fs p outer × IsWhole n number × (begins_part c ≡ true) × (bytes ≡ outer ++ (number ++ c ∷ rest))

-- a whole number that is out of range has ended
abbrev pub IsTooWide : List ℕ → ℕ → Type 0
IsTooWide bytes p = (fs : List Frame) × (outer number rest : List ℕ) × (n : ℤ) × Before fs p outer × IsWhole n number × (InRange n → ⊥) × EndsNumber rest × (bytes ≡ outer ++ (number ++ rest))

-- a list or an object begins where 64 are open
abbrev pub IsTooDeep : List ℕ → ℕ → Type 0
IsTooDeep bytes p = (fs : List Frame) × (outer rest : List ℕ) × (c : ℕ) × Before fs p outer × (length fs ≡ 64) × ((c ≡ 91) ⊎ (c ≡ 123)) × (bytes ≡ outer ++ c ∷ rest)

-- a name is that of an earlier member of its object
abbrev pub IsRepeated : List ℕ → ℕ → Type 0
IsRepeated bytes p = (fs : List Frame) × (ms : List Entry) × (outer name quoted rest : List ℕ) × BeforeName (BeforeValue fs) ms outer × BeginsFitting outer × (p ≡ length outer) × IsString name quoted × (IsNew name (entries ms) → ⊥) × (bytes ≡ outer ++ (quoted ++ rest))

abbrev pub IsFault : List ℕ → JsonFault → Type 0
IsFault bytes (Syntax k) = IsSyntax bytes k
IsFault bytes (NotWhole p) = IsNotWhole bytes p
IsFault bytes (TooWide p) = IsTooWide bytes p
IsFault bytes (TooDeep p) = IsTooDeep bytes p
IsFault bytes (Repeated p) = IsRepeated bytes p
IsFault bytes NoMemory = ⊥

-- want of memory may come at any time
abbrev pub MayFail : List ℕ → JsonFault → Type 0
MayFail bytes (Syntax k) = IsSyntax bytes k
MayFail bytes (NotWhole p) = IsNotWhole bytes p
MayFail bytes (TooWide p) = IsTooWide bytes p
MayFail bytes (TooDeep p) = IsTooDeep bytes p
MayFail bytes (Repeated p) = IsRepeated bytes p
MayFail bytes NoMemory = Unit {0}
