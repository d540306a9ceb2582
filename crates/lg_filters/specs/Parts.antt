-- What the parts of an operator over one field are read as.
use Rattle.std.specs.Prelude.{◌≡◌, ◌⊎◌, ℕ, List, Option, Some, None, IsUtf8, codes}
use Rattle.lg_containers.specs.AssetGrammar.{IsAsset}
use Rattle.lg_json.specs.Tree.{Tree}
use Rattle.lg_json.specs.Tree.Tree.{text}
use Rattle.lg_types.specs.declared.filters.ListKind.{ListKind}
use Rattle.lg_types.specs.declared.filters.Op.{Op}
use Rattle.lg_types.specs.declared.filters.Field.{Field}
use Rattle.lg_types.specs.declared.filters.Field.TheVariants as field
use Rattle.lg_types.specs.declared.filters.Filter.{Filter, Has}
use Rattle.lg_views.specs.Tokens.{op_name, field_name, in_brackets}
use Rattle.lg_readings.specs.FilterReadings.{IsFieldInGrammar, IsFilter, IsLeaf}

-- what is shown, or none where nothing is
abbrev pub IsRead : {A : Type 0} → (A → Type 0) → Option A → Type 0
IsRead Shows (Some a) = Shows a
IsRead {A = A} Shows None = (a : A) → ¬ (Shows a)

-- the operator of a name
abbrev pub NamesOp : List ℕ → Op → Type 0
NamesOp bytes op = op_name op ≡ bytes

-- the field of a name
abbrev pub NamesField : List ℕ → Field → Type 0
NamesField bytes f = (field_name f ≡ bytes) × IsFieldInGrammar f

abbrev pub IsTextField : Field → Type 0
IsTextField field.Address = Unit {0}
IsTextField field.Account = Unit {0}
IsTextField field.Source = Unit {0}
IsTextField field.Destination = Unit {0}
IsTextField field.Reference = Unit {0}
IsTextField field.Id = ⊥
IsTextField field.Timestamp = ⊥
IsTextField field.Date = ⊥
IsTextField field.Reverted = ⊥
IsTextField (field.Metadata name) = ⊥
IsTextField (field.Balance asset) = ⊥

abbrev pub IsStateField : Field → Type 0
IsStateField field.Address = ⊥
IsStateField field.Account = ⊥
IsStateField field.Source = ⊥
IsStateField field.Destination = ⊥
IsStateField field.Reference = ⊥
IsStateField field.Id = Unit {0}
IsStateField field.Timestamp = Unit {0}
IsStateField field.Date = Unit {0}
IsStateField field.Reverted = Unit {0}
IsStateField (field.Metadata name) = ⊥
IsStateField (field.Balance asset) = ⊥

abbrev pub NamesTextField : List ℕ → Field → Type 0
NamesTextField bytes f = (field_name f ≡ bytes) × IsTextField f

abbrev pub NamesStateField : List ℕ → Field → Type 0
NamesStateField bytes f = (field_name f ≡ bytes) × IsStateField f

abbrev pub IsMetadataOf : List ℕ → Field → Type 0
IsMetadataOf name f = (f ≡ field.Metadata name) × IsUtf8 name

abbrev pub IsBalanceOf : List ℕ → Field → Type 0
IsBalanceOf asset f = (f ≡ field.Balance asset) × IsAsset asset

-- a field with a name or an asset in brackets
abbrev pub NamesBracketField : List ℕ → Field → Type 0
NamesBracketField bytes f =
    (inner : List ℕ) × (((bytes ≡ in_brackets (codes "metadata") inner) × IsMetadataOf inner f) ⊎ ((bytes ≡ in_brackets (codes "balance") inner) × IsBalanceOf inner f))

-- the filter of an operator over one field, or over a name of metadata
abbrev pub ShowsLeaf : ListKind → Tree → Option Filter → Type 0
ShowsLeaf kind t (Some filter) = IsLeaf kind t × IsFilter kind filter t
ShowsLeaf kind t None = ¬ (IsLeaf kind t)

-- the test for a name of metadata
abbrev pub ShowsPresence : Tree → Option Filter → Type 0
ShowsPresence t (Some filter) = (name : List ℕ) × IsUtf8 name × (t ≡ text name) × (filter ≡ Has name)
ShowsPresence t None = (name : List ℕ) → IsUtf8 name → ¬ (t ≡ text name)
