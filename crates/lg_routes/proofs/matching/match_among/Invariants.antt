use Rattle.std.proofs.Common.{◌≡◌, map, drop, Bool}
use Rattle.lg_routes.specs.Seen.{segments_seen}
use Rattle.lg_routes.specs.Table.{route_seen, found_in}
use Rattle.lg_routes.proofs.RouteLists.{goes_on, of_path}
use Rattle.lg_routes.proofs.matching.match_among.Given as goal

abbrev pub invariant-loop-route : goal.invariant-loop-route
invariant-loop-route l =
    goes_on (segments_seen l.segments) l.method l.known (of_path (segments_seen l.segments) l.method (map route_seen (drop l.route-index l.table)))
    ≡ found_in (of_path (segments_seen l.segments) l.method (map route_seen l.table)) l.method
