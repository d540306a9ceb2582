use Rattle.std.proofs.Common.{◌≡◌, drop}
use Rattle.std.specs.List.{flat_map, range_with_len}
use Rattle.lg_base.specs.Growth.{Completes}
use Rattle.lg_base.specs.declared.feed.Stop.{Stop}
use Rattle.lg_generator.specs.Made.{number_at, made_line}
use Rattle.lg_generator.proofs.script.make_script.Given as goal

abbrev pub invariant-loop-place : goal.invariant-loop-place
invariant-loop-place g l = record {
  number : l.number ≡ number_at l.fn.seed l.place;
  left : Completes Stop g.F.Feed.fed g.F.Feed.stops g.F.Feed.lent l.fn.to l.to (flat_map (made_line l.seed) (range_with_len 0 l.lines)) (flat_map (made_line l.seed) (drop l.place (range_with_len 0 l.lines)));
}
