use Rattle.std.proofs.Common.{map, sym, ◌∙◌}
use Rattle.form_urlencoded.specs.Form.{raw_pairs}
use Rattle.lg_readings.specs.Routes.{routes_at}
use Rattle.lg_readings.specs.Targets.{parameter_of}
use Rattle.std.specs.Prelude.{Some}
use Rattle.lg_routes.specs.Seen.{segments_seen, bytes_seen}
use Rattle.lg_routes.specs.Table.{route_seen}
use Rattle.lg_routes.specs.Body.{body_seen}
use Rattle.lg_routes.proofs.Routing.{asks_found, asks_no_method, asks_no_path}
use Rattle.lg_routes.proofs.calls.call_at.Goals as goal

pub call_of_query-requires : goal.call_of_query-requires
call_of_query-requires g c = (rw c.in-Found.is at c.match_route.ensures.names).count

pub returns-in-Found : goal.returns-in-Found
returns-in-Found g c =
    asks_found c.args.method.now (segments_seen c.args.segments.now) (map parameter_of (raw_pairs c.args.query.now)) (bytes_seen c.args.key) (body_seen c.args.body)
    (routes_at (Some (segments_seen c.args.segments.now))) (route_seen c.in-Found.route) (rw c.in-Found.is at c.match_route.ensures.route) (rw c.in-Found.is at c.match_route.ensures.names) c.call_of_query.ensures

pub returns-in-NoMethod : goal.returns-in-NoMethod
returns-in-NoMethod g c =
    asks_no_method c.args.method.now (segments_seen c.args.segments.now) (map parameter_of (raw_pairs c.args.query.now)) (bytes_seen c.args.key) (body_seen c.args.body)
    (routes_at (Some (segments_seen c.args.segments.now))) (rw c.in-NoMethod.is at c.match_route.ensures.route)

pub returns-in-NoPath : goal.returns-in-NoPath
returns-in-NoPath g c =
    asks_no_path c.args.method.now (segments_seen c.args.segments.now) (map parameter_of (raw_pairs c.args.query.now)) (bytes_seen c.args.key) (body_seen c.args.body)
    (routes_at (Some (segments_seen c.args.segments.now))) (rw c.in-NoPath.is at c.match_route.ensures.route)
