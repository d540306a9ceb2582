-- Which query a token stands for: the token of a page of the list that is asked, byte for byte.
use Rattle.std.specs.Prelude.{◌≡◌, ◌⊎◌, ℕ, ◌<◌, ◌≤◌, ◌^◌, ℤ, false, List, Option, Some, None, Ok, Err, IfSome}
use Rattle.lg_containers.specs.AddressGrammar.{IsAddress}
use Rattle.lg_containers.specs.AssetGrammar.{IsAsset}
use Rattle.lg_json.specs.Tree.{Tree}
use Rattle.lg_json.specs.Grammar.{Fits}
use Rattle.lg_time.specs.Moment.{IsInMoments}
use Rattle.lg_types.specs.declared.filters.ListKind.{ListKind}
use Rattle.lg_types.specs.declared.filters.ListKind.TheVariants.{Ledgers, Accounts, Transactions, Logs, Volumes}
use Rattle.lg_types.specs.declared.filters.After.{After}
use Rattle.lg_types.specs.declared.filters.After.TheVariants.{Place, Address as AddressPlace, Pair}
use Rattle.lg_types.specs.declared.queries.Query.{Query}
use Rattle.lg_types.specs.declared.queries.Expand.{Expand}
use Rattle.lg_types.specs.declared.queries.Span.{Span}
use Rattle.lg_types.specs.declared.refusals.Refusal.TheVariants.{Token}
use Rattle.lg_readings.specs.Answers.{Answer}
use Rattle.lg_readings.specs.FilterReadings.{IsFilter}
use Rattle.lg_views.specs.Tokens.{token}

-- the place of an item of each list; an aggregate has none
abbrev pub IsPlaceOf : ListKind → After → Type 0
IsPlaceOf Ledgers (Place n) = n < 2 ^ 64
IsPlaceOf Transactions (Place n) = n < 2 ^ 64
IsPlaceOf Logs (Place n) = n < 2 ^ 64
IsPlaceOf Accounts (AddressPlace address) = IsAddress address
IsPlaceOf Volumes (Pair account asset) = IsAddress account × IsAsset asset
IsPlaceOf kind place = ⊥

-- a date of a query, in the range of moments
abbrev pub IsDate : Option ℤ → Type 0
IsDate date = IfSome date IsInMoments

-- which lists are read at a date, which show volumes, and which are read between dates
abbrev pub IsPit : ListKind → Option ℤ → Type 0
IsPit Accounts pit = IsDate pit
IsPit Transactions pit = IsDate pit
IsPit Logs pit = IsDate pit
IsPit kind pit = pit ≡ None

abbrev pub IsExpand : ListKind → Expand → Type 0
IsExpand Accounts expand = Unit {0}
IsExpand Transactions expand = Unit {0}
IsExpand kind expand = expand ≡ record { volumes = false; effective = false }

abbrev pub IsSpan : ListKind → Span → Type 0
IsSpan Volumes span = IsDate span.from × IsDate span.to × (span.group < 2 ^ 32)
IsSpan kind span = span ≡ record { from = None; to = None; by_insertion = false; group = 0 }

-- a filter of the list, of at most 64 lists and objects inside one another
pub record IsListFilter (kind : ListKind) (q : Query) : Type 0 where
  pub shown : Tree
  pub is : IsFilter kind q.filter shown
  pub fits : Fits 64 shown

-- a query of a list that goes on after a place
pub record IsPageQuery (kind : ListKind) (q : Query) (place : After) : Type 0 where
  pub some : 1 ≤ q.page_size
  pub most : q.page_size ≤ 100
  pub after : q.after ≡ Some place
  pub of_list : IsPlaceOf kind place
  pub filter : IsListFilter kind q
  pub pit : IsPit kind q.pit
  pub expand : IsExpand kind q.expand
  pub span : IsSpan kind q.span

-- the bytes are the token of the query
abbrev pub IsTokenOf : ListKind → List ℕ → Query → Type 0
IsTokenOf kind bytes q = (place : After) × IsPageQuery kind q place × (bytes ≡ token kind q place)

abbrev pub TokenQuery : ListKind → List ℕ → Answer Query → Type 0
TokenQuery kind bytes r = ((q : Query) × IsTokenOf kind bytes q × (r ≡ Ok q)) ⊎ (((q : Query) → ¬ (IsTokenOf kind bytes q)) × (r ≡ Err Token))
