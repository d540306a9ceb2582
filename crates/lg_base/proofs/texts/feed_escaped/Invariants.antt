use Rattle.std.proofs.Common.{◌≡◌, ◌≤◌, ◌-◌, take, drop}
use Rattle.std.specs.List.{flat_map}
use Rattle.lg_base.specs.Growth.{Completes}
use Rattle.lg_base.specs.Texts.{escaped}
use Rattle.lg_base.specs.declared.feed.Stop.{Stop}
use Rattle.lg_base.proofs.texts.feed_escaped.Given as goal

abbrev pub invariant-bytes : goal.invariant-bytes
invariant-bytes g l = record {
  within : l.start ≤ l.place;
  plain : flat_map escaped (take (l.place - l.start) (drop l.start l.text)) ≡ take (l.place - l.start) (drop l.start l.text);
  rest : Completes Stop g.F.Feed.fed g.F.Feed.stops g.F.Feed.lent l.fn.to l.to (flat_map escaped l.text) (flat_map escaped (drop l.start l.text));
}
