use Rattle.std.proofs.Common.{◌≡◌, ◌++◌}
use Rattle.std.specs.List.{slice_split}
use Rattle.std.specs.Option.{option_map}
use Rattle.lg_readings.specs.Targets as targets
use Rattle.lg_routes.specs.Seen.{segments_seen, decoded, pieces_left, left_size}
use Rattle.lg_routes.proofs.segments.segments_behind.Given as goal

abbrev pub invariant-loop-left : goal.invariant-loop-left
invariant-loop-left l =
    option_map (λ more. segments_seen l.segments.items ++ more) (decoded (pieces_left l.left)) ≡ decoded (slice_split targets.is_slash l.behind)

abbrev pub decreases-loop-left : goal.decreases-loop-left
decreases-loop-left l = left_size l.left
