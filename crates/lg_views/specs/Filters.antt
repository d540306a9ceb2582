-- What filters mean.
use Rattle.std.specs.Prelude.{ℕ, ℤ, pos, Bool, true, false, not, ◌&&◌, ◌||◌, ◌==◌, int_le, int_lt, List, [], ◌∷◌, Option, Some, None}
use Rattle.std.specs.Ordering.{int_eq}
use Rattle.std.specs.Bool.{beq}
use Rattle.std.specs.List.{list_any, slice_split}
use Rattle.std.specs.Str.{bytes_eq}
use Rattle.lg_containers.specs.NameTable as table
use Rattle.lg_types.specs.declared.filters.Op.{Op}
use Rattle.lg_types.specs.declared.filters.Op.TheVariants.{Equal, Less, LessEqual, Greater, GreaterEqual}
use Rattle.lg_types.specs.declared.filters.Field.{Field}
use Rattle.lg_types.specs.declared.filters.Field.TheVariants as field
use Rattle.lg_types.specs.declared.filters.Value.{Value}
use Rattle.lg_types.specs.declared.filters.Value.TheVariants as value
use Rattle.lg_types.specs.declared.filters.Filter.{Filter, All, Compare, Has, Both', Either', Not', Row_of-Filter, end_of-Filter, more_of-Filter}
use Rattle.lg_types.specs.declared.records.Entry.{Entry}
use Rattle.lg_types.specs.declared.records.Posting.{Posting}
use Rattle.lg_types.specs.Changes.{MetaOf}
use Rattle.lg_types.specs.Known.{Dated}

-- a filter, by what it means of a comparison and of a name of metadata
module _ (atom : Op → Field → Value → Bool) (has : List ℕ → Bool) where
  abbrev mutual
    pub passes : Filter → Bool
    passes All = true
    passes (Compare op field value) = atom op field value
    passes (Has name) = has name
    passes (Both' shape filters) = all_pass filters
    passes (Either' shape filters) = any_passes filters
    passes (Not' shape filter) = not (any_passes filter)

    pub all_pass : {m : _} → Row_of-Filter m → Bool
    all_pass end_of-Filter = true
    all_pass (more_of-Filter filter filters) = passes filter && all_pass filters

    pub any_passes : {m : _} → Row_of-Filter m → Bool
    any_passes end_of-Filter = false
    any_passes (more_of-Filter filter filters) = passes filter || any_passes filters

-- whether two numbers stand as the operator says
abbrev pub compares : Op → ℤ → ℤ → Bool
compares Equal x y = int_eq x y
compares Less x y = int_lt x y
compares LessEqual x y = int_le x y
compares Greater x y = int_lt y x
compares GreaterEqual x y = int_le y x

-- an address fits a pattern of as many segments, an empty one of which stands for any
abbrev pub is_colon : ℕ → Bool
is_colon b = b == 58

abbrev pub fits_segment : List ℕ → List ℕ → Bool
fits_segment [] segment = true
fits_segment (b ∷ bs) segment = bytes_eq (b ∷ bs) segment

abbrev pub fits_segments : List (List ℕ) → List (List ℕ) → Bool
fits_segments [] [] = true
fits_segments [] (s ∷ ss) = false
fits_segments (p ∷ ps) [] = false
fits_segments (p ∷ ps) (s ∷ ss) = fits_segment p s && fits_segments ps ss

abbrev pub segments : List ℕ → List (List ℕ)
segments address = slice_split is_colon address

abbrev pub fits_address : List ℕ → List ℕ → Bool
fits_address pattern address = fits_segments (segments pattern) (segments address)

-- whether a name has the value in metadata
abbrev pub has_value : MetaOf → List ℕ → List ℕ → Bool
has_value metadata name text = elim (table.get metadata name) [ None ↦ false | Some found ↦ bytes_eq found text ]

-- what a filter means of an account, with its metadata and its balances
abbrev pub account_atom : List ℕ → MetaOf → (List ℕ → ℤ) → Op → Field → Value → Bool
account_atom account metadata balance Equal field.Address (value.Text pattern) = fits_address pattern account
account_atom account metadata balance Equal field.Account (value.Text pattern) = fits_address pattern account
account_atom account metadata balance Equal (field.Metadata name) (value.Text text) = has_value metadata name text
account_atom account metadata balance op (field.Balance asset) (value.Whole n) = compares op (balance asset) n
account_atom account metadata balance op f v = false

-- of a transaction, with its metadata and whether it is reverted
abbrev pub has_source : List ℕ → Posting → Bool
has_source pattern p = fits_address pattern p.source

abbrev pub has_destination : List ℕ → Posting → Bool
has_destination pattern p = fits_address pattern p.destination

abbrev pub has_end : List ℕ → Posting → Bool
has_end pattern p = has_source pattern p || has_destination pattern p

abbrev pub is_reference : List ℕ → Option (List ℕ) → Bool
is_reference text None = false
is_reference text (Some reference) = bytes_eq reference text

abbrev pub transaction_atom : Dated → MetaOf → Bool → Op → Field → Value → Bool
transaction_atom d metadata reverted Equal field.Reference (value.Text text) = is_reference text d.transaction.reference
transaction_atom d metadata reverted Equal field.Account (value.Text pattern) = list_any (has_end pattern) d.transaction.postings
transaction_atom d metadata reverted Equal field.Source (value.Text pattern) = list_any (has_source pattern) d.transaction.postings
transaction_atom d metadata reverted Equal field.Destination (value.Text pattern) = list_any (has_destination pattern) d.transaction.postings
transaction_atom d metadata reverted Equal field.Reverted (value.Truth truth) = beq reverted truth
transaction_atom d metadata reverted Equal (field.Metadata name) (value.Text text) = has_value metadata name text
transaction_atom d metadata reverted op field.Id (value.Whole n) = compares op (pos d.transaction.id) n
transaction_atom d metadata reverted op field.Timestamp (value.Moment moment) = compares op d.transaction.timestamp moment
transaction_atom d metadata reverted op f v = false

-- of an entry
abbrev pub entry_atom : Entry → Op → Field → Value → Bool
entry_atom e op field.Id (value.Whole n) = compares op (pos e.id) n
entry_atom e op field.Date (value.Moment moment) = compares op e.date moment
entry_atom e op f v = false

-- of a ledger there is nothing to compare
abbrev pub ledger_atom : Op → Field → Value → Bool
ledger_atom op f v = false

abbrev pub no_name : List ℕ → Bool
no_name name = false

abbrev pub has_name : MetaOf → List ℕ → Bool
has_name metadata name = table.contains metadata name
