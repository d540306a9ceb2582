use Rattle.std.proofs.Common.{drop}
use Rattle.std.specs.List.{flat_map}
use Rattle.lg_base.specs.Growth.{Completes}
use Rattle.lg_base.specs.declared.feed.Stop.{Stop}
use Rattle.lg_views.specs.RefusalTexts.{hex_byte}
use Rattle.lg_generator.proofs.summary.feed_hex.Given as goal

abbrev pub invariant-loop-byte : goal.invariant-loop-byte
invariant-loop-byte g l = Completes Stop g.F.Feed.fed g.F.Feed.stops g.F.Feed.lent l.fn.to l.to (flat_map hex_byte l.bytes) (flat_map hex_byte (drop l.byte-index l.bytes))
