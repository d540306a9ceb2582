-- Which filter a JSON value shows, for each list, and where the first fault of one that shows none stands.
use Rattle.std.specs.Prelude.{◌≡◌, ◌⊎◌, ℕ, ◌+◌, Bool, true, false, ◌||◌, MatchBool, IsUtf8, List, [], ◌∷◌, ◌++◌, Option, Some, None, Ok, Err, codes}
use Rattle.std.specs.Str.{bytes_eq}
use Rattle.lg_containers.specs.AssetGrammar.{IsAsset}
use Rattle.lg_json.specs.Tree.{Tree, Trees, Members}
use Rattle.lg_json.specs.Tree.Tree.{null, truth, whole, part, text, list, members}
use Rattle.lg_json.specs.Tree.Trees.{none, item}
use Rattle.lg_json.specs.Tree.Members.{no_member, member}
use Rattle.lg_time.specs.Moment.{IsMoment}
use Rattle.lg_types.specs.declared.filters.ListKind.{ListKind}
use Rattle.lg_types.specs.declared.filters.ListKind.TheVariants.{Ledgers, Accounts, Transactions, Logs, Volumes, Aggregate}
use Rattle.lg_types.specs.declared.filters.Op.{Op}
use Rattle.lg_types.specs.declared.filters.Op.TheVariants.{Equal, Less, LessEqual, Greater, GreaterEqual}
use Rattle.lg_types.specs.declared.filters.Field.{Field}
use Rattle.lg_types.specs.declared.filters.Field.TheVariants as field
use Rattle.lg_types.specs.declared.filters.Value.{Value}
use Rattle.lg_types.specs.declared.filters.Value.TheVariants as value
use Rattle.lg_types.specs.declared.filters.Filter.{Filter, All, Compare, Has, Both', Either', Not', Row_of-Filter, end_of-Filter, more_of-Filter}
use Rattle.lg_types.specs.declared.refusals.Refusal.TheVariants.{BadFilter}
use Rattle.lg_readings.specs.Answers.{Answer}
use Rattle.lg_readings.specs.Paths.{Path, top, below, at_item, path_text}
use Rattle.lg_views.specs.Tokens.{op_name, field_name}

-- an object of one member
abbrev pub one : List ℕ → Tree → Tree
one name value = members (member name value no_member)

-- the fields of each list that `$match` compares
abbrev pub is_matched : ListKind → Field → Bool
is_matched Accounts field.Address = true
is_matched Accounts (field.Metadata name) = true
is_matched Accounts (field.Balance asset) = true
is_matched Transactions field.Reference = true
is_matched Transactions field.Account = true
is_matched Transactions field.Source = true
is_matched Transactions field.Destination = true
is_matched Transactions field.Id = true
is_matched Transactions field.Timestamp = true
is_matched Transactions field.Reverted = true
is_matched Transactions (field.Metadata name) = true
is_matched Logs field.Id = true
is_matched Logs field.Date = true
is_matched Volumes field.Account = true
is_matched Volumes field.Address = true
is_matched Volumes (field.Metadata name) = true
is_matched Volumes (field.Balance asset) = true
is_matched Aggregate field.Address = true
is_matched Aggregate (field.Metadata name) = true
is_matched kind f = false

-- those that `$lt`, `$lte`, `$gt` and `$gte` compare
abbrev pub is_ordered : ListKind → Field → Bool
is_ordered Accounts (field.Balance asset) = true
is_ordered Transactions field.Id = true
is_ordered Transactions field.Timestamp = true
is_ordered Logs field.Id = true
is_ordered Logs field.Date = true
is_ordered Volumes (field.Balance asset) = true
is_ordered kind f = false

abbrev pub compares_field : ListKind → Op → Field → Bool
compares_field kind Equal f = is_matched kind f
compares_field kind Less f = is_ordered kind f
compares_field kind LessEqual f = is_ordered kind f
compares_field kind Greater f = is_ordered kind f
compares_field kind GreaterEqual f = is_ordered kind f

-- the lists whose items have metadata
abbrev pub has_metadata : ListKind → Bool
has_metadata Accounts = true
has_metadata Transactions = true
has_metadata Volumes = true
has_metadata Aggregate = true
has_metadata kind = false

-- what stands in brackets is of its grammar
abbrev pub IsFieldInGrammar : Field → Type 0
IsFieldInGrammar (field.Metadata name) = IsUtf8 name
IsFieldInGrammar (field.Balance asset) = IsAsset asset
IsFieldInGrammar f = Unit {0}

-- the value that is compared with a field: whole numbers with ids and balances, moments with dates, truths with `reverted`, and
-- texts with all other fields
abbrev pub ShowsText : Tree → Value → Type 0
ShowsText (text t) v = IsUtf8 t × (v ≡ value.Text t)
ShowsText shown v = ⊥

abbrev pub ShowsWhole : Tree → Value → Type 0
ShowsWhole (whole n) v = v ≡ value.Whole n
ShowsWhole shown v = ⊥

abbrev pub ShowsMoment : Tree → Value → Type 0
ShowsMoment (text t) (value.Moment moment) = IsMoment t moment
ShowsMoment shown v = ⊥

abbrev pub ShowsTruth : Tree → Value → Type 0
ShowsTruth (truth b) v = v ≡ value.Truth b
ShowsTruth shown v = ⊥

abbrev pub ShowsValue : Field → Tree → Value → Type 0
ShowsValue field.Id shown v = ShowsWhole shown v
ShowsValue (field.Balance asset) shown v = ShowsWhole shown v
ShowsValue field.Timestamp shown v = ShowsMoment shown v
ShowsValue field.Date shown v = ShowsMoment shown v
ShowsValue field.Reverted shown v = ShowsTruth shown v
ShowsValue f shown v = ShowsText shown v

-- a comparison that the list has
pub record IsComparison (kind : ListKind) (op : Op) (f : Field) (v : Value) (t : Tree) : Type 0 where
  pub compared : compares_field kind op f ≡ true
  pub grammar : IsFieldInGrammar f
  pub shown : Tree
  pub is : t ≡ one (op_name op) (one (field_name f) shown)
  pub value : ShowsValue f shown v

-- the filter of a list that a value shows: an empty object, or an object of one operator
abbrev mutual
  pub IsFilter : ListKind → Filter → Tree → Type 0
  IsFilter kind All t = t ≡ members no_member
  IsFilter kind (Compare op f v) t = IsComparison kind op f v t
  IsFilter kind (Has name) t = (has_metadata kind ≡ true) × IsUtf8 name × (t ≡ one (codes "$exists") (one (codes "metadata") (text name)))
  IsFilter kind (Both' shape filters) t = (ts : Trees) × (t ≡ one (codes "$and") (list ts)) × AreFilters kind filters ts
  IsFilter kind (Either' shape filters) t = (ts : Trees) × (t ≡ one (codes "$or") (list ts)) × AreFilters kind filters ts
  IsFilter kind (Not' shape filter) t = (shown : Tree) × (t ≡ one (codes "$not") shown) × AreFilters kind filter (item shown none)

  pub AreFilters : {m : _} → ListKind → Row_of-Filter m → Trees → Type 0
  AreFilters kind end_of-Filter ts = ts ≡ none
  AreFilters kind (more_of-Filter filter filters) none = ⊥
  AreFilters kind (more_of-Filter filter filters) (item t ts) = IsFilter kind filter t × AreFilters kind filters ts

-- ---- faults

-- an operator over one field, or over a name of metadata
abbrev pub IsLeaf : ListKind → Tree → Type 0
IsLeaf kind t = ((op : Op) × (f : Field) × (v : Value) × IsComparison kind op f v t) ⊎ ((name : List ℕ) × (has_metadata kind ≡ true) × IsUtf8 name × (t ≡ one (codes "$exists") (one (codes "metadata") (text name))))

abbrev pub LeafFault : ListKind → Path → Tree → Option (List ℕ) → Type 0
LeafFault kind path t r = (IsLeaf kind t × (r ≡ None)) ⊎ ((¬ (IsLeaf kind t)) × (r ≡ Some (path_text path)))

abbrev pub is_of_list : List ℕ → Bool
is_of_list name = bytes_eq name (codes "$and") || bytes_eq name (codes "$or")

abbrev pub FirstOf : Option (List ℕ) → Option (List ℕ) → Option (List ℕ) → Type 0
FirstOf (Some path) later r = r ≡ Some path
FirstOf None later r = r ≡ later

-- the path of the first fault from the top down and from left to right, where there is one: a value that is no object of at most one
-- member is bad at its own path, and an operator whose list, field or value isn't of its form at the operator's
abbrev mutual
  pub FilterFault : ListKind → Path → Tree → Option (List ℕ) → Type 0
  FilterFault kind path (members no_member) r = r ≡ None
  FilterFault kind path (members (member name over no_member)) r = MatchBool (is_of_list name) (ListFault kind (below path name) over r) (MatchBool (bytes_eq name (codes "$not")) (FilterFault kind (below path name) over r) (LeafFault kind (below path name) (one name over) r))
  FilterFault kind path t r = r ≡ Some (path_text path)

  pub ListFault : ListKind → Path → Tree → Option (List ℕ) → Type 0
  ListFault kind path (list ts) r = ItemsFault kind path 0 ts r
  ListFault kind path t r = r ≡ Some (path_text path)

  pub ItemsFault : ListKind → Path → ℕ → Trees → Option (List ℕ) → Type 0
  ItemsFault kind path place none r = r ≡ None
  ItemsFault kind path place (item t ts) r =
      (first : Option (List ℕ)) × (later : Option (List ℕ)) × FilterFault kind (at_item path place) t first × ItemsFault kind path (place + 1) ts later × FirstOf first later r

-- ---- readings

-- the filter that a value shows, or the refusal of its first fault
abbrev pub FilterIn : ListKind → Tree → Answer Filter → Type 0
FilterIn kind t r =
    ((filter : Filter) × IsFilter kind filter t × (r ≡ Ok filter))
    ⊎ ((path : List ℕ) × FilterFault kind top t (Some path) × (r ≡ Err (BadFilter path)))

-- the filter of a body; all items where the body is absent
abbrev pub FilterOf : ListKind → Tree → Answer Filter → Type 0
FilterOf kind null r = r ≡ Ok All
FilterOf kind t r = FilterIn kind t r
