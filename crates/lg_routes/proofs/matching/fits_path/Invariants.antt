use Rattle.std.proofs.Common.{◌≡◌, map, drop, length}
use Rattle.lg_readings.specs.Routes as routes
use Rattle.lg_routes.specs.Seen.{segments_seen}
use Rattle.lg_routes.specs.Table.{pattern_seen}
use Rattle.lg_routes.proofs.matching.fits_path.Given as goal

abbrev pub invariant-loop-place : goal.invariant-loop-place
invariant-loop-place l =
    routes.fits_path (map pattern_seen (drop l.place l.path)) (segments_seen (drop l.place l.segments)) ≡ routes.fits_path (map pattern_seen l.path) (segments_seen l.segments)
