-- An index of the names of an object's members.
use Rattle.std.specs.Prelude.{◌≡◌, ℕ, ◌+◌, ◌-◌, ◌*◌, ◌/◌, ◌%◌, ◌^◌, ◌<◌, ◌≤◌, Bool, true, false, ◌==◌, ◌||◌, not, if◌then◌else◌, List, [], ◌∷◌, ◌++◌, length, map, slice_index_or, bytes_eq, Option, Some, None}
use Rattle.std.specs.List.{list_any}
use Rattle.std.specs.Cmp.Lexicographic.{slice_cmp}
use Rattle.std.specs.Ordering.{nat_cmp}
use Rattle.std.specs.BTreeSet.{BTreeSet, contains}
use Rattle.lg_json.specs.Tree.{entry}
use Rattle.lg_json.specs.declared.json.Member.{Member}
use Rattle.lg_json.specs.declared.index.NameIndex.{NameIndex}

abbrev pub names_view : List Member → List (List ℕ)
names_view ms = map (λ m. (entry m).0) ms

-- the name is among the names
abbrev pub has : List ℕ → List (List ℕ) → Bool
has name names = list_any (λ n. bytes_eq n name) names

-- the number that bytes write after the number n, of 64 bits
unfoldable pub number_from : ℕ → List ℕ → ℕ
number_from n [] = n
number_from n (b ∷ bs) = number_from (((n + b) % 2 ^ 64 * 11400714819323198485) % 2 ^ 64) bs

abbrev pub name_number : List ℕ → ℕ
name_number name = number_from 0 name

-- the part of a name's number that is kept
abbrev pub part_of : ℕ → ℕ
part_of n = n % 2 ^ 32

-- parts of the names' numbers, and maybe more
pub record HaveParts (names : List (List ℕ)) (parts : List ℕ) : Type 0 where
  pub within : length names ≤ length parts
  pub same : (i : ℕ) → i < length names → slice_index_or parts i 0 ≡ part_of (name_number (slice_index_or names i []))

abbrev pub mixed : ℕ → ℕ
mixed n = (n * 15485907386658061715) % 2 ^ 64

abbrev pub other_number : List ℕ → ℕ
other_number name = mixed (name_number name)

-- the slots are as far along as the number is among those of 64 bits
abbrev pub slot_of : ℕ → ℕ → ℕ
slot_of number count = number * count / 2 ^ 64

-- a slot's place, where it is taken
abbrev pub place_of : ℕ → Option ℕ
place_of n = if n == 0 then None else Some (n - 1)

-- the place that a name finds in its slot, by a number of names
abbrev pub slot_place : (List ℕ → ℕ) → List ℕ → List ℕ → Option ℕ
slot_place number slots name = place_of (slice_index_or slots (slot_of (number name) (length slots)) 0)

-- what `known` says of each name comes of one place, of which there may be none, and of what `others` says
pub record Comes (known : List ℕ → Bool) (names : List (List ℕ)) (place : List ℕ → Option ℕ) (others : List ℕ → Bool) : Type 0 where
  pub within : (name : List ℕ) (i : ℕ) → place name ≡ Some i → i < length names
  pub absent : (name : List ℕ) → place name ≡ None → known name ≡ false
  pub present : (name : List ℕ) (i : ℕ) → place name ≡ Some i → known name ≡ (bytes_eq (slice_index_or names i []) name || others name)
  pub among : (name : List ℕ) → others name ≡ true → known name ≡ true

abbrev pub set_has : BTreeSet (List ℕ) → List ℕ → Bool
set_has set name = contains (slice_cmp nat_cmp) set name

-- slots and a set that tell some of the names from every other name
abbrev pub IsFilled : List (List ℕ) → List ℕ → BTreeSet (List ℕ) → Type 0
IsFilled names slots others = (0 < length slots) × (known : List ℕ → Bool) × Comes known names (slot_place other_number slots) (set_has others)

abbrev pub known_with : (List ℕ → Bool) → List ℕ → List ℕ → Bool
known_with known name q = known q || bytes_eq name q

-- the same after one more name of theirs: whether it is new among them
abbrev pub Fills : List (List ℕ) → List ℕ → List ℕ → BTreeSet (List ℕ) → List ℕ → BTreeSet (List ℕ) → Bool → Type 0
Fills names name slots others more_slots more_others is_new =
    (0 < length more_slots) × ((known : List ℕ → Bool) → Comes known names (slot_place other_number slots) (set_has others) → (known name ≡ not is_new) × Comes (known_with known name) (names ++ name ∷ []) (slot_place other_number more_slots) (set_has more_others))

-- no name has a slot
abbrev pub AreFree : List ℕ → Type 0
AreFree slots = (i : ℕ) → slice_index_or slots i 0 ≡ 0

-- the index tells each of the names from every other name
pub record IsIndexed (names : List (List ℕ)) (index : NameIndex) : Type 0 where
  pub count : length index.parts.items ≡ length names
  pub parts : HaveParts names index.parts.items
  pub some : 0 < length index.first.items
  pub more : 0 < length index.second.items
  pub known : List ℕ → Bool
  pub comes : Comes (λ name. has name names) names (slot_place name_number index.first.items) known
  pub rest : Comes known names (slot_place other_number index.second.items) (set_has index.others)

-- the index after one more name: whether it is new
abbrev pub IsAdded : List (List ℕ) → List ℕ → Bool → NameIndex → Type 0
IsAdded names name true index = (has name names ≡ false) × IsIndexed (names ++ name ∷ []) index
IsAdded names name false index = (has name names ≡ true) × IsIndexed (names ++ name ∷ []) index

abbrev pub IsAddedTo : List (List ℕ) → List ℕ → Bool → Option NameIndex → Type 0
IsAddedTo names name is_new None = ⊥
IsAddedTo names name is_new (Some index) = IsAdded names name is_new index

-- an index of the names, where there is one
abbrev pub IsCovering : List (List ℕ) → Option NameIndex → Type 0
IsCovering names None = Unit {0}
IsCovering names (Some index) = IsIndexed names index

-- the names of an object's members, and the one whose value is to come
abbrev pub all_names : List Member → Option (List ℕ) → List (List ℕ)
all_names ms None = names_view ms
all_names ms (Some name) = names_view ms ++ name ∷ []
