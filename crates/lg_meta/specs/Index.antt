-- Where the changes of each name stand, and what is read there.
--     names change             the names that a change sets or drops
--     places name k changes    the places, counted from k, of the changes that set or drop the name
--     places_in index name     the places that an index gives the name, none where it isn't there
--     value_of name change     what a change makes of a name that it sets or drops
--     last_value               the value at the last of the places, and else the value given
--     IsIndexed                the index gives each name the places of its changes; the dates of those applied never fall
use Rattle.std.specs.Prelude.{◌≡◌, ℕ, suc, ◌≤◌, ℤ, ◌≤ℤ◌, Bool, false, cond, List, [], ◌∷◌, ◌++◌, map, filter, nat_lt, take, length, unwrap_or, Option, Some, None}
use Rattle.std.specs.Ordering.{eq_by_cmp}
use Rattle.lg_containers.specs.NameOrder.{name_order}
use Rattle.lg_containers.specs.NameTable.{NameTable, pairs_of, get, insert}
use Rattle.lg_types.specs.declared.changes.MetaChange.{MetaChange}
use Rattle.lg_types.specs.declared.changes.MetaChange.TheVariants.{Set, Drop}
use Rattle.lg_meta.specs.declared.change.DatedChange.{DatedChange}
use Rattle.lg_types.specs.Changes.{MetaOf}
use Rattle.lg_types.specs.Tally.{is_to}

abbrev pub names : MetaChange → List (List ℕ)
names (Set set) = map (λ pair. pair.0) (pairs_of set)
names (Drop name) = name ∷ []

-- the place, once for each of the names that is the name
abbrev pub hits : List ℕ → ℕ → List (List ℕ) → List ℕ
hits name place [] = []
hits name place (other ∷ rest) = cond (eq_by_cmp name_order name other) (place ∷ hits name place rest) (hits name place rest)

abbrev pub places : List ℕ → ℕ → List MetaChange → List ℕ
places name k [] = []
places name k (change ∷ rest) = hits name k (names change) ++ places name (suc k) rest

abbrev pub places_in : NameTable (List ℕ) → List ℕ → List ℕ
places_in index name = unwrap_or (get index name) []

abbrev pub changes_of : List DatedChange → List MetaChange
changes_of all = map (λ dated. dated.change) all

abbrev pub value_of : List ℕ → MetaChange → Option (List ℕ)
value_of name (Set set) = get set name
value_of name (Drop dropped) = None

-- at a place among the changes
abbrev pub value_there : List ℕ → Option DatedChange → Option (List ℕ)
value_there name None = None
value_there name (Some dated) = value_of name dated.change

-- whether a change is there, dated at most at the date
abbrev pub is_there_by : Option ℤ → Option DatedChange → Bool
is_there_by date None = false
is_there_by date (Some dated) = is_to date dated.date

abbrev pub last_value : (ℕ → Option (List ℕ)) → Option (List ℕ) → List ℕ → Option (List ℕ)
last_value value_at value [] = value
last_value value_at value (place ∷ rest) = last_value value_at (value_at place) rest

-- the date is at most that of each change
abbrev pub IsFrom : ℤ → List DatedChange → Type 0
IsFrom date [] = Unit {0}
IsFrom date (dated ∷ rest) = (date ≤ℤ dated.date) × IsFrom date rest

-- the dates never fall
abbrev pub IsRising : List DatedChange → Type 0
IsRising [] = Unit {0}
IsRising (dated ∷ rest) = IsFrom dated.date rest × IsRising rest

pub record IsIndexed (all : List DatedChange) (applied : ℕ) (index : NameTable (List ℕ)) : Type 0 where
  pub within : applied ≤ length all
  pub rising : IsRising (take applied all)
  pub complete : (name : List ℕ) → places_in index name ≡ places name 0 (changes_of all)

-- the places below the place are the same
abbrev pub SameBelowPlace : ℕ → List ℕ → List ℕ → Type 0
SameBelowPlace place old new = filter (λ p. nat_lt p place) new ≡ filter (λ p. nat_lt p place) old

-- the value is put under the name, where there is one
abbrev pub with_value : MetaOf → List ℕ → Option (List ℕ) → MetaOf
with_value meta name None = meta
with_value meta name (Some value) = insert meta name value
