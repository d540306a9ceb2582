-- The laws by which a reader of tokens finds again what was written.
use Rattle.std.specs.Prelude.{◌≡◌, ℕ, ℤ, [], ◌∷◌, ◌++◌, Ok, All}
use Rattle.std.specs.Int.{IsInRange}
use Rattle.base64.specs.GeneralPurpose.{IsBytes, decode_of}
use Rattle.base64.specs.Engines.{url_safe_no_pad}
use Rattle.lg_json.specs.Tree.{Tree}
use Rattle.lg_json.specs.Grammar.{IsValue, Fits}
use Rattle.lg_time.specs.Canonical.{moment_text}
use Rattle.lg_time.specs.Moment.{IsMoment, IsInMoments}
use Rattle.lg_types.specs.PartTexts.{date_text}
use Rattle.lg_types.specs.declared.filters.ListKind.{ListKind}
use Rattle.lg_types.specs.declared.filters.After.{After}
use Rattle.lg_types.specs.declared.filters.Filter.{Filter}
use Rattle.lg_types.specs.declared.queries.Query.{Query}
use Rattle.lg_readings.specs.FilterReadings.{IsFilter}
use Rattle.lg_readings.specs.TokenReadings.{IsPageQuery}
use Rattle.lg_views.specs.Tokens.{filter_text, token_text, token}

-- ---- filters

-- the text of the filter is a JSON text of a value that shows the filter and is within the limits
pub record IsSpelled (kind : ListKind) (filter : Filter) (room : ℕ) : Type 0 where
  pub shown : Tree
  pub is : IsFilter kind filter shown
  pub written : IsValue shown (filter_text filter)
  pub fits : Fits room shown

-- so it is where any value within the limits shows the filter
abbrev pub FiltersSpelled : Type 0
FiltersSpelled = (kind : ListKind) (filter : Filter) (room : ℕ) (t : Tree) → IsFilter kind filter t → Fits room t → IsSpelled kind filter room

-- filters that one value shows have one text
abbrev pub FiltersHaveOneText : Type 0
FiltersHaveOneText = (kind : ListKind) (t : Tree) (f g : Filter) → IsFilter kind f t → IsFilter kind g t → filter_text f ≡ filter_text g

-- ---- tokens

-- the token of a query is decoded to its text
pub record Decodes (kind : ListKind) (q : Query) (place : After) : Type 0 where
  pub bytes : IsBytes (token_text kind q place)
  pub decoded : decode_of url_safe_no_pad (token kind q place) ≡ Ok (token_text kind q place)

abbrev pub TokensDecode : Type 0
TokensDecode = (kind : ListKind) (q : Query) (place : After) → IsPageQuery kind q place → Decodes kind q place

-- ---- dates

-- a date's text is a text of the moment between quotes, in which no quote stands
pub record DateReadsBack (moment : ℤ) : Type 0 where
  pub parts : date_text moment ≡ (34 ∷ []) ++ (moment_text moment ++ (34 ∷ []))
  pub is : IsMoment (moment_text moment) moment
  pub bytes : All (IsInRange 45 90) (moment_text moment)

abbrev pub DatesReadBack : Type 0
DatesReadBack = (moment : ℤ) → IsInMoments moment → DateReadsBack moment
