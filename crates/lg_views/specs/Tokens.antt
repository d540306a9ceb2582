-- The tokens of pages: a query with the place after which it goes on, in canonical form, in unpadded base64url (RFC 4648, section 5).
use Rattle.std.specs.Prelude.{ℕ, ◌+◌, ℤ, pos, negsuc, Bool, true, false, nat_eq, if◌then◌else◌, List, [], ◌∷◌, ◌++◌, codes, decimal}
use Rattle.std.specs.List.{concat}
use Rattle.base64.specs.GeneralPurpose.{encode_of}
use Rattle.base64.specs.Engines.{url_safe_no_pad}
use Rattle.lg_base.specs.Texts.{quoted}
use Rattle.lg_types.specs.PartTexts.{date_text, optional_text}
use Rattle.lg_types.specs.CallTexts.{truth_text}
use Rattle.lg_types.specs.declared.filters.ListKind.{ListKind}
use Rattle.lg_types.specs.declared.filters.ListKind.TheVariants.{Ledgers, Accounts, Transactions, Logs, Volumes, Aggregate}
use Rattle.lg_types.specs.declared.filters.After.{After}
use Rattle.lg_types.specs.declared.filters.After.TheVariants.{Place, Address as AddressPlace, Pair}
use Rattle.lg_types.specs.declared.filters.Op.{Op}
use Rattle.lg_types.specs.declared.filters.Op.TheVariants.{Equal, Less, LessEqual, Greater, GreaterEqual}
use Rattle.lg_types.specs.declared.filters.Field.{Field}
use Rattle.lg_types.specs.declared.filters.Field.TheVariants as field
use Rattle.lg_types.specs.declared.filters.Value.{Value}
use Rattle.lg_types.specs.declared.filters.Value.TheVariants as value
use Rattle.lg_types.specs.declared.filters.Filter.{Filter, All, Compare, Has, Both', Either', Not', Row_of-Filter, end_of-Filter, more_of-Filter}
use Rattle.lg_types.specs.declared.queries.Query.{Query}

abbrev pub kind_name : ListKind → List ℕ
kind_name Ledgers = codes "ledgers"
kind_name Accounts = codes "accounts"
kind_name Transactions = codes "transactions"
kind_name Logs = codes "logs"
kind_name Volumes = codes "volumes"
kind_name Aggregate = codes "aggregate"

abbrev pub op_name : Op → List ℕ
op_name Equal = codes "$match"
op_name Less = codes "$lt"
op_name LessEqual = codes "$lte"
op_name Greater = codes "$gt"
op_name GreaterEqual = codes "$gte"

abbrev pub in_brackets : List ℕ → List ℕ → List ℕ
in_brackets word name = concat (word ∷ codes "[" ∷ name ∷ codes "]" ∷ [])

abbrev pub field_name : Field → List ℕ
field_name field.Address = codes "address"
field_name field.Account = codes "account"
field_name field.Source = codes "source"
field_name field.Destination = codes "destination"
field_name field.Reference = codes "reference"
field_name field.Id = codes "id"
field_name field.Timestamp = codes "timestamp"
field_name field.Date = codes "date"
field_name field.Reverted = codes "reverted"
field_name (field.Metadata name) = in_brackets (codes "metadata") name
field_name (field.Balance asset) = in_brackets (codes "balance") asset

-- a whole number in decimal, with its sign
abbrev pub whole_text : ℤ → List ℕ
whole_text (pos n) = decimal n
whole_text (negsuc n) = codes "-" ++ decimal (n + 1)

abbrev pub value_text : Value → List ℕ
value_text (value.Text text) = quoted text
value_text (value.Whole n) = whole_text n
value_text (value.Moment moment) = date_text moment
value_text (value.Truth truth) = truth_text truth

-- an object of one member
abbrev pub one_member : List ℕ → List ℕ → List ℕ
one_member name text = concat (codes "{" ∷ quoted name ∷ codes ":" ∷ text ∷ codes "}" ∷ [])

-- a filter as it was read, in canonical form
abbrev mutual
  pub filter_text : Filter → List ℕ
  filter_text All = codes "{}"
  filter_text (Compare op field value) = one_member (op_name op) (one_member (field_name field) (value_text value))
  filter_text (Has name) = one_member (codes "$exists") (one_member (codes "metadata") (quoted name))
  filter_text (Both' shape filters) = one_member (codes "$and") (concat (codes "[" ∷ filters_text filters ∷ codes "]" ∷ []))
  filter_text (Either' shape filters) = one_member (codes "$or") (concat (codes "[" ∷ filters_text filters ∷ codes "]" ∷ []))
  filter_text (Not' shape filter) = one_member (codes "$not") (filters_text filter)

  pub filters_text : {m : _} → Row_of-Filter m → List ℕ
  filters_text end_of-Filter = []
  filters_text (more_of-Filter filter filters) = filter_text filter ++ after_commas filters

  pub after_commas : {m : _} → Row_of-Filter m → List ℕ
  after_commas end_of-Filter = []
  after_commas (more_of-Filter filter filters) = (44 ∷ []) ++ (filter_text filter ++ after_commas filters)

abbrev pub after_text : After → List ℕ
after_text (Place n) = decimal n
after_text (AddressPlace address) = quoted address
after_text (Pair account asset) = quoted (account ++ (32 ∷ asset))

abbrev pub pit_text : ℤ → List ℕ
pit_text date = concat (codes ",\"pit\":" ∷ date_text date ∷ [])

abbrev pub start_text : ℤ → List ℕ
start_text date = concat (codes ",\"startTime\":" ∷ date_text date ∷ [])

abbrev pub end_text : ℤ → List ℕ
end_text date = concat (codes ",\"endTime\":" ∷ date_text date ∷ [])

abbrev pub expand_text : Bool → Bool → List ℕ
expand_text true true = codes ",\"expand\":[\"volumes\",\"effectiveVolumes\"]"
expand_text true false = codes ",\"expand\":[\"volumes\"]"
expand_text false true = codes ",\"expand\":[\"effectiveVolumes\"]"
expand_text false false = []

abbrev pub filter_member : Filter → List ℕ
filter_member All = []
filter_member filter = concat (codes ",\"filter\":" ∷ filter_text filter ∷ [])

-- the text of a query that goes on after a place
abbrev pub token_text : ListKind → Query → After → List ℕ
token_text kind q after = concat (
    codes "{\"kind\":" ∷ quoted (kind_name kind) ∷ codes ",\"pageSize\":" ∷ decimal q.page_size
    ∷ optional_text pit_text q.pit ∷ optional_text start_text q.span.from ∷ optional_text end_text q.span.to
    ∷ (if q.span.by_insertion then codes ",\"insertionDate\":true" else [])
    ∷ (if nat_eq q.span.group 0 then [] else concat (codes ",\"groupBy\":" ∷ decimal q.span.group ∷ []))
    ∷ expand_text q.expand.volumes q.expand.effective ∷ filter_member q.filter
    ∷ codes ",\"after\":" ∷ after_text after ∷ codes "}" ∷ [])

unfoldable pub token : ListKind → Query → After → List ℕ
token kind query after = encode_of url_safe_no_pad (token_text kind query after)
