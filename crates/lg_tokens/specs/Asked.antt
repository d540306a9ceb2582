-- What a query asks for beside its filter and its place.
use Rattle.std.specs.Prelude.{ℕ, List, ◌++◌, None, false, codes}
use Rattle.lg_types.specs.declared.filters.ListKind.{ListKind}
use Rattle.lg_types.specs.declared.queries.Expand.{Expand}
use Rattle.lg_types.specs.declared.queries.Span.{Span}
use Rattle.lg_views.specs.Tokens.{expand_text}
use Rattle.lg_readings.specs.TokenReadings.{IsPit, IsExpand, IsSpan}
use Rattle.lg_tokens.specs.declared.asked.Asked.{Asked}
use Rattle.lg_tokens.specs.Parts.{dated, insertion_text, group_text}

abbrev pub no_expand : Expand
no_expand = record { volumes = false; effective = false }

abbrev pub no_span : Span
no_span = record { from = None; to = None; by_insertion = false; group = 0 }

-- what the list has
pub record IsAsked (kind : ListKind) (asked : Asked) : Type 0 where
  pub pit : IsPit kind asked.pit
  pub expand : IsExpand kind asked.expand
  pub span : IsSpan kind asked.span

abbrev pub span_text : Span → List ℕ
span_text span = dated (codes ",\"startTime\":") span.from ++ (dated (codes ",\"endTime\":") span.to ++ (insertion_text span.by_insertion ++ group_text span.group))

abbrev pub asked_text : Asked → List ℕ
asked_text asked = dated (codes ",\"pit\":") asked.pit ++ (span_text asked.span ++ expand_text asked.expand.volumes asked.expand.effective)
