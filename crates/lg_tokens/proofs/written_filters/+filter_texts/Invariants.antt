use Rattle.std.proofs.Common.{drop}
use Rattle.lg_base.specs.Growth.{Completes}
use Rattle.lg_base.specs.declared.feed.Stop.{Stop}
use Rattle.lg_containers.specs.CanonicalTexts.{commas}
use Rattle.lg_views.specs.Tokens.{filter_text}
use Rattle.lg_tokens.specs.TextParts.{parted}
use Rattle.lg_tokens.proofs.written_filters.+filter_texts.Given as goal

abbrev pub invariant-feed_filters-loop-filter : goal.invariant-feed_filters-loop-filter
invariant-feed_filters-loop-filter g l =
    Completes Stop g.F.Feed.fed g.F.Feed.stops g.F.Feed.lent l.fn.to l.to (commas filter_text l.filters) (parted l.is_first (drop l.filter-index l.filters))
