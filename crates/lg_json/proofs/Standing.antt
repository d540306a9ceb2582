-- What the bytes that were read are, in each state of the reading.
use Rattle.std.proofs.Common.{◌≡◌, ℕ, Bool, List, [], ◌∷◌, ◌++◌, length}
use Rattle.lg_json.specs.Tree.{Tree, Entry, trees, entries}
use Rattle.lg_json.specs.Grammar.{IsBlank, IsPositive, number_from, minus_if, IsString, IsValue, AreItems, AreMembers, IsJson}
use Rattle.lg_json.specs.Reading.{Frame, Mode, State, capped}
use Rattle.lg_json.specs.Reading.Frame.{in_list, in_object, named}
use Rattle.lg_json.specs.Reading.Mode.{before_value, before_first, before_first_name, before_name, before_colon, in_word, after_minus, after_zero, in_digits, in_text, after_item, ended}
use Rattle.lg_json.specs.Texts.{TextStands}
use Rattle.lg_json.specs.Before.{BeforeName, BeforeValue}
use Rattle.lg_json.specs.declared.state.TextMode.{TextMode}
use Rattle.lg_json.specs.Reading.{Role}

-- a number's digits so far
pub record DigitsStand (Outer : List ℕ → Type 0) (negative : Bool) (n p : ℕ) (front : List ℕ) : Type 0 where
  pub outer : List ℕ
  pub digits : List ℕ
  pub before : Outer outer
  pub first : p ≡ length outer
  pub positive : IsPositive digits
  pub value : n ≡ capped (number_from 0 digits)
  pub parts : front ≡ outer ++ (minus_if negative ++ digits)

abbrev pub WordStands : (List ℕ → Type 0) → List ℕ → Tree → List ℕ → Type 0
WordStands Outer rest t front = (outer done : List ℕ) × Outer outer × IsValue t (done ++ rest) × (front ≡ outer ++ done)

abbrev pub MinusStands : (List ℕ → Type 0) → ℕ → List ℕ → Type 0
MinusStands Outer p front = (outer : List ℕ) × Outer outer × (p ≡ length outer) × (front ≡ outer ++ 45 ∷ [])

abbrev pub ZeroStands : (List ℕ → Type 0) → Bool → ℕ → List ℕ → Type 0
ZeroStands Outer negative p front = (outer : List ℕ) × Outer outer × (p ≡ length outer) × (front ≡ outer ++ (minus_if negative ++ 48 ∷ []))

abbrev pub InTextStands : (List ℕ → Type 0) → List ℕ → TextMode → List ℕ → Type 0
InTextStands Outer t m front = (outer inner : List ℕ) × Outer outer × TextStands t m inner × (front ≡ outer ++ 34 ∷ inner)

abbrev pub NameStands : (List ℕ → Type 0) → ℕ → List ℕ → TextMode → List ℕ → Type 0
NameStands Outer q t m front = (outer inner : List ℕ) × Outer outer × (q ≡ length outer) × TextStands t m inner × (front ≡ outer ++ 34 ∷ inner)

-- after an item of a list, and a member of an object
abbrev pub AfterItem : (List ℕ → Type 0) → List Tree → List ℕ → Type 0
AfterItem Outer [] front = ⊥
AfterItem Outer (t ∷ ts) front = (outer inner : List ℕ) × Outer outer × AreItems (trees (t ∷ ts)) inner × (front ≡ outer ++ 91 ∷ inner)

abbrev pub AfterMember : (List ℕ → Type 0) → List Entry → List ℕ → Type 0
AfterMember Outer [] front = ⊥
AfterMember Outer (m ∷ ms) front = (outer inner : List ℕ) × Outer outer × AreMembers (entries (m ∷ ms)) inner × (front ≡ outer ++ 123 ∷ inner)

abbrev pub BeforeColon : (List ℕ → Type 0) → List Entry → List ℕ → List ℕ → Type 0
BeforeColon Outer ms name front = (before quoted gap : List ℕ) × BeforeName Outer ms before × IsString name quoted × IsBlank gap × (front ≡ before ++ (quoted ++ gap))

-- the modes that depend on the innermost of what is open
abbrev pub FirstStands : List Frame → List ℕ → Type 0
FirstStands (in_list [] ∷ fs) front = BeforeValue (in_list [] ∷ fs) front
FirstStands _ front = ⊥

abbrev pub FirstNameStands : List Frame → List ℕ → Type 0
FirstNameStands (in_object [] ∷ fs) front = BeforeName (BeforeValue fs) [] front
FirstNameStands _ front = ⊥

abbrev pub NextNameStands : List Frame → List ℕ → Type 0
NextNameStands (in_object (m ∷ ms) ∷ fs) front = BeforeName (BeforeValue fs) (m ∷ ms) front
NextNameStands _ front = ⊥

abbrev pub ColonStands : List Frame → List ℕ → Type 0
ColonStands (named ms name ∷ fs) front = BeforeColon (BeforeValue fs) ms name front
ColonStands _ front = ⊥

abbrev pub RoleStands : List Frame → Role → List ℕ → TextMode → List ℕ → Type 0
RoleStands fs Role.Value t m front = InTextStands (BeforeValue fs) t m front
RoleStands (in_object ms ∷ fs) (Role.Name q) t m front = NameStands (BeforeName (BeforeValue fs) ms) q t m front
RoleStands _ (Role.Name q) t m front = ⊥

abbrev pub ItemStands : List Frame → List ℕ → Type 0
ItemStands (in_list ts ∷ fs) front = AfterItem (BeforeValue fs) ts front
ItemStands (in_object ms ∷ fs) front = AfterMember (BeforeValue fs) ms front
ItemStands _ front = ⊥

abbrev pub EndStands : List Frame → Tree → List ℕ → Type 0
EndStands [] t front = IsJson t front
EndStands (f ∷ fs) t front = ⊥

abbrev pub Stands : List Frame → Mode → List ℕ → Type 0
Stands fs before_value front = BeforeValue fs front
Stands fs before_first front = FirstStands fs front
Stands fs before_first_name front = FirstNameStands fs front
Stands fs before_name front = NextNameStands fs front
Stands fs before_colon front = ColonStands fs front
Stands fs (in_word rest t) front = WordStands (BeforeValue fs) rest t front
Stands fs (after_minus p) front = MinusStands (BeforeValue fs) p front
Stands fs (after_zero negative p) front = ZeroStands (BeforeValue fs) negative p front
Stands fs (in_digits negative n p) front = DigitsStand (BeforeValue fs) negative n p front
Stands fs (in_text role t m) front = RoleStands fs role t m front
Stands fs after_item front = ItemStands fs front
Stands fs (ended t) front = EndStands fs t front

abbrev pub StandsAt : List ℕ → State → Type 0
StandsAt front s = Stands s.frames s.mode front
