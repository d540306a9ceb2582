-- What stands before a value or a name, where lists and objects are open.
use Rattle.std.specs.Prelude.{◌≡◌, ℕ, List, [], ◌∷◌, ◌++◌}
use Rattle.lg_json.specs.Tree.{Tree, Entry, trees, entries}
use Rattle.lg_json.specs.Grammar.{IsBlank, AreItems, AreMembers, IsString}
use Rattle.lg_json.specs.Reading.{Frame}
use Rattle.lg_json.specs.Reading.Frame.{in_list, in_object, named}

-- a list that began where `Outer` holds, and the items that it has so far, before one more
abbrev pub BeforeItem : (List ℕ → Type 0) → List Tree → List ℕ → Type 0
BeforeItem Outer [] front = (outer blank : List ℕ) × Outer outer × IsBlank blank × (front ≡ outer ++ 91 ∷ blank)
BeforeItem Outer (t ∷ ts) front = (outer inner blank : List ℕ) × Outer outer × AreItems (trees (t ∷ ts)) inner × IsBlank blank × (front ≡ outer ++ 91 ∷ (inner ++ 44 ∷ blank))

-- the same of an object and its members, before one more name
abbrev pub BeforeName : (List ℕ → Type 0) → List Entry → List ℕ → Type 0
BeforeName Outer [] front = (outer blank : List ℕ) × Outer outer × IsBlank blank × (front ≡ outer ++ 123 ∷ blank)
BeforeName Outer (m ∷ ms) front = (outer inner blank : List ℕ) × Outer outer × AreMembers (entries (m ∷ ms)) inner × IsBlank blank × (front ≡ outer ++ 123 ∷ (inner ++ 44 ∷ blank))

-- before the value of a name
abbrev pub BeforeNamed : (List ℕ → Type 0) → List Entry → List ℕ → List ℕ → Type 0
BeforeNamed Outer ms name front = (before quoted gap blank : List ℕ) × BeforeName Outer ms before × IsString name quoted × IsBlank gap × IsBlank blank × (front ≡ before ++ (quoted ++ (gap ++ 58 ∷ blank)))

-- what stands before a value: the innermost of what is open first
abbrev pub BeforeValue : List Frame → List ℕ → Type 0
BeforeValue [] front = IsBlank front
BeforeValue (in_list ts ∷ fs) front = BeforeItem (BeforeValue fs) ts front
BeforeValue (in_object ms ∷ fs) front = ⊥
BeforeValue (named ms name ∷ fs) front = BeforeNamed (BeforeValue fs) ms name front
