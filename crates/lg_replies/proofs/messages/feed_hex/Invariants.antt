use Rattle.std.proofs.Common.{drop}
use Rattle.std.specs.List.{flat_map}
use Rattle.lg_base.specs.Growth.{Completes}
use Rattle.lg_base.specs.Texts.{escaped}
use Rattle.lg_base.specs.declared.feed.Stop.{Stop}
use Rattle.lg_views.specs.RefusalTexts.{hex_byte}
use Rattle.lg_replies.proofs.messages.feed_hex.Given as goal

abbrev pub invariant-loop-byte : goal.invariant-loop-byte
invariant-loop-byte g l =
    Completes Stop g.F.Feed.fed g.F.Feed.stops g.F.Feed.lent l.fn.to l.to (flat_map (λ b. flat_map escaped (hex_byte b)) l.hash) (flat_map (λ b. flat_map escaped (hex_byte b)) (drop l.byte-index l.hash))
