use Rattle.std.proofs.Common.{◌++◌, drop, codes}
use Rattle.std.specs.List.{flat_map}
use Rattle.lg_base.specs.Growth.{Completes}
use Rattle.lg_base.specs.declared.feed.Stop.{Stop}
use Rattle.lg_containers.specs.CanonicalTexts.{member_text}
use Rattle.lg_containers.specs.NameTable.{pairs_of}
use Rattle.lg_replies.proofs.shown.show_after_first.Given as goal

abbrev pub invariant-loop-place : goal.invariant-loop-place
invariant-loop-place g l =
    Completes Stop g.F.Feed.fed g.F.Feed.stops g.F.Feed.lent l.fn.to l.to
    (flat_map (λ member. codes "," ++ member_text g.V.Shown.shown member) (drop 1 (pairs_of l.members)))
    (flat_map (λ member. codes "," ++ member_text g.V.Shown.shown member) (drop l.place (pairs_of l.members)))
