use Rattle.std.specs.Option.{option_map}
use Rattle.lg_routes.specs.Seen.{segments_seen}
use Rattle.lg_routes.proofs.Routing.{kind_is}
use Rattle.lg_routes.proofs.kinds.body_kind.Goals as goal

pub returns : goal.returns
returns c =
    kind_is c.args.method.now c.args.target.now (option_map (λ s. segments_seen s.items) c.in_ok-segments.segments) _ _ c.kind_at_path.result
    c.in_ok-segments.ensures c.split_target.ensures.path c.split_target.ensures.query c.kind_at_path.ensures
