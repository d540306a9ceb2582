-- What a value that stands at a path is read as: what it shows, where it has no fault, or the refusal of its first fault.
use Rattle.std.specs.Prelude.{◌≡◌, ℕ, List, [], ◌∷◌, MatchBool, Option, Some, None, Ok, Err, codes}
use Rattle.std.specs.Str.{bytes_eq}
use Rattle.lg_json.specs.Tree.{Tree, Trees}
use Rattle.lg_json.specs.Tree.Tree.{list}
use Rattle.lg_json.specs.Tree.Trees.{none, item}
use Rattle.lg_types.specs.declared.filters.ListKind.{ListKind}
use Rattle.lg_types.specs.declared.filters.Filter.{Filter}
use Rattle.lg_types.specs.declared.refusals.Refusal.TheVariants.{BadFilter}
use Rattle.lg_readings.specs.Answers.{Answer}
use Rattle.lg_readings.specs.Paths.{Path}
use Rattle.lg_readings.specs.FilterReadings.{one, is_of_list, IsFilter, LeafFault, FilterFault, ListFault, ItemsFault}

abbrev pub ReadsBy : {A : Type 0} → (A → Type 0) → (Option (List ℕ) → Type 0) → Answer A → Type 0
ReadsBy Shows Fault (Ok a) = Shows a × Fault None
ReadsBy Shows Fault (Err refusal) = (path : List ℕ) × Fault (Some path) × (refusal ≡ BadFilter path)

abbrev pub FilterAt : ListKind → Path → Tree → Answer Filter → Type 0
FilterAt kind path t = ReadsBy (λ filter. IsFilter kind filter t) (FilterFault kind path t)

-- an operator whose own path this is
abbrev pub OperatorFault : ListKind → Path → List ℕ → Tree → Option (List ℕ) → Type 0
OperatorFault kind path name over r =
    MatchBool (is_of_list name) (ListFault kind path over r) (MatchBool (bytes_eq name (codes "$not")) (FilterFault kind path over r) (LeafFault kind path (one name over) r))

abbrev pub OperatorAt : ListKind → Path → List ℕ → Tree → Answer Filter → Type 0
OperatorAt kind path name over =
    ReadsBy (λ filter. IsFilter kind filter (one name over)) (OperatorFault kind path name over)

-- the filters of the items of a list, in their order
abbrev pub AreFiltersOf : ListKind → List Filter → Trees → Type 0
AreFiltersOf kind [] ts = ts ≡ none
AreFiltersOf kind (filter ∷ filters) none = ⊥
AreFiltersOf kind (filter ∷ filters) (item t ts) = IsFilter kind filter t × AreFiltersOf kind filters ts

abbrev pub ShowsFilters : ListKind → Tree → List Filter → Type 0
ShowsFilters kind t filters = (ts : Trees) × (t ≡ list ts) × AreFiltersOf kind filters ts

abbrev pub ListAt : ListKind → Path → Tree → Answer (List Filter) → Type 0
ListAt kind path t = ReadsBy (ShowsFilters kind t) (ListFault kind path t)

abbrev pub ItemsAt : ListKind → Path → Trees → Answer (List Filter) → Type 0
ItemsAt kind path ts = ReadsBy (λ filters. AreFiltersOf kind filters ts) (ItemsFault kind path 0 ts)

abbrev pub LeafAt : ListKind → Path → List ℕ → Tree → Answer Filter → Type 0
LeafAt kind path name over =
    ReadsBy (λ filter. IsFilter kind filter (one name over)) (LeafFault kind path (one name over))
