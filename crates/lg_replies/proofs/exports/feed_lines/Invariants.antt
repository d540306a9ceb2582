use Rattle.std.proofs.Common.{drop}
use Rattle.std.specs.List.{flat_map}
use Rattle.lg_base.specs.Growth.{Completes}
use Rattle.lg_base.specs.declared.feed.Stop.{Stop}
use Rattle.lg_views.specs.Import.{line_text}
use Rattle.lg_replies.proofs.exports.feed_lines.Given as goal

abbrev pub invariant-loop-entry : goal.invariant-loop-entry
invariant-loop-entry g l =
    Completes Stop g.F.Feed.fed g.F.Feed.stops g.F.Feed.lent l.fn.to l.to (flat_map line_text l.entries) (flat_map line_text (drop l.entry-index l.entries))
