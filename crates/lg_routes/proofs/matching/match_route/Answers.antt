use Rattle.std.proofs.Common.{◌≡◌, ℕ, List, [], ◌∷◌, Option, Some, sym}
use Rattle.std.specs.List.{filter, find}
use Rattle.lg_readings.specs.Routes as views
use Rattle.lg_routes.specs.declared.matching.RouteMatch.{RouteMatch}
use Rattle.lg_routes.specs.declared.matching.RouteMatch.TheVariants.{Found, NoMethod, NoPath}
use Rattle.lg_routes.specs.Seen.{segments_seen}
use Rattle.lg_routes.specs.Table.{route_seen, found_in, match_seen, MatchHasNames}
use Rattle.lg_routes.proofs.PathNames.{has_names}
use Rattle.lg_routes.proofs.matching.match_route.Goals as goal

find_of : (rs : List views.Route) (method : List ℕ) (r : views.Route) → Some (Some r) ≡ found_in rs method → find (views.has_method method) rs ≡ Some r
find_of [] method r e = absurd (cc)
find_of (x ∷ xs) method r e = cc

names_of_match : (m : RouteMatch) (segments : List (List ℕ)) (method : List ℕ) → match_seen m ≡ found_in (filter (views.has_path segments) views.routes) method → MatchHasNames m segments
names_of_match NoPath segments method e = tt
names_of_match NoMethod segments method e = tt
names_of_match (Found route) segments method e = has_names segments method (route_seen route) (find_of (filter (views.has_path segments) views.routes) method (route_seen route) e)

pub returns-clause-names : goal.returns-clause-names
returns-clause-names c = names_of_match c.match_among.result (segments_seen c.args.segments.now) c.args.method.now c.match_among.ensures
