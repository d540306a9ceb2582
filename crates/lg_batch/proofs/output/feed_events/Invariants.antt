use Rattle.std.proofs.Common.{drop}
use Rattle.std.specs.List.{flat_map, enumerate_from}
use Rattle.lg_base.specs.Growth.{Completes}
use Rattle.lg_base.specs.declared.feed.Stop.{Stop}
use Rattle.lg_views.specs.Output.{event_line}
use Rattle.lg_batch.proofs.output.feed_events.Given as goal

abbrev pub invariant-loop-place : goal.invariant-loop-place
invariant-loop-place g l =
    Completes Stop g.F.Feed.fed g.F.Feed.stops g.F.Feed.lent l.fn.to l.to (flat_map event_line (enumerate_from 0 l.book.events)) (flat_map event_line (drop l.place (enumerate_from 0 l.book.events)))
