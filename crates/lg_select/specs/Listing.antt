-- A list that is walked from item to item, and what stands from an item on.
use Rattle.std.specs.Prelude.{◌≡◌, Bool, true, List, [], ◌∷◌, ◌++◌, Option, Some, None}
use Rattle.std.specs.List.{filter}
use Rattle.lg_types.specs.declared.filters.After.{After}
use Rattle.lg_types.specs.declared.filters.Filter.{Filter}
use Rattle.lg_types.specs.declared.queries.Query.{Query}
use Rattle.lg_views.specs.Pages.{after_place}

-- the first item of a list
abbrev pub first_of : {A : Type 0} → List A → Option A
first_of [] = None
first_of (x ∷ xs) = Some x

-- the last items of a list, all from some item on
abbrev pub IsSuffix : {A : Type 0} → List A → List A → Type 0
IsSuffix {A} whole rest = (before : List A) × (whole ≡ before ++ rest)

-- an item with all that stand after its place; nothing where there is no item
abbrev pub from_item : {A : Type 0} → (After → A → Bool) → (A → After) → List A → Option A → List A
from_item is_after place whole None = []
from_item is_after place whole (Some x) = x ∷ filter (is_after (place x)) whole

-- what stands after an item's place stands after each place that the item stands after
abbrev pub IsTransitive : {A : Type 0} → (After → A → Bool) → (A → After) → Type 0
IsTransitive {A} is_after place = (p : After) (x y : A) → is_after p x ≡ true → is_after (place x) y ≡ true → is_after p y ≡ true

-- what a query has left of a list: the items after its place that pass its filter
abbrev pub left_of : {A : Type 0} → (After → A → Bool) → (Filter → A → Bool) → Query → List A → List A
left_of is_after passes query whole = after_place is_after query.after (filter (passes query.filter) whole)
