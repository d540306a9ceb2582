use Rattle.std.proofs.Common.{◌≡◌}
use Rattle.lg_filters.proofs.WholeReadings.{ItemsSoFar}
use Rattle.lg_filters.proofs.reading.+reading.Given as goal

abbrev pub invariant-read_items-loop-item : goal.invariant-read_items-loop-item
invariant-read_items-loop-item l =
    (l.item-items ≡ l.items) × ItemsSoFar l.kind l.path l.item-items l.item-index l.filters
