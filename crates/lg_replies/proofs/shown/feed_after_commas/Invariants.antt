use Rattle.std.proofs.Common.{◌++◌, drop, codes}
use Rattle.std.specs.List.{flat_map}
use Rattle.lg_base.specs.Growth.{Completes}
use Rattle.lg_base.specs.declared.feed.Stop.{Stop}
use Rattle.lg_replies.proofs.shown.feed_after_commas.Given as goal

abbrev pub invariant-loop-item : goal.invariant-loop-item
invariant-loop-item g l =
    Completes Stop g.F.Feed.fed g.F.Feed.stops g.F.Feed.lent l.fn.to l.to (flat_map (λ item. codes "," ++ g.T.Shown.shown item) l.items) (flat_map (λ item. codes "," ++ g.T.Shown.shown item) (drop l.item-index l.items))
