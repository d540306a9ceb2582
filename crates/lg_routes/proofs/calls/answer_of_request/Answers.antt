use Rattle.std.specs.Option.{option_map}
use Rattle.lg_routes.specs.Seen.{segments_seen, bytes_seen}
use Rattle.lg_routes.specs.Body.{body_seen}
use Rattle.lg_routes.proofs.Routing.{request_of}
use Rattle.lg_routes.proofs.calls.answer_of_request.Goals as goal

pub returns : goal.returns
returns g c =
    request_of c.args.method.now c.args.target.now (bytes_seen c.args.key) (body_seen c.args.body) (option_map (λ s. segments_seen s.items) c.in_ok-segments.segments) _ _
    c.in_ok-segments.ensures c.split_target.ensures.path c.split_target.ensures.query c.call_at_path.ensures
