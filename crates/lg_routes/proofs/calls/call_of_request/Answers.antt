use Rattle.lg_routes.specs.Seen.{bytes_seen}
use Rattle.lg_routes.specs.Body.{body_seen}
use Rattle.lg_routes.proofs.Routing.{call_is}
use Rattle.lg_routes.proofs.calls.call_of_request.Goals as goal

pub returns : goal.returns
returns g c =
    call_is c.args.method.now c.args.target.now (bytes_seen c.args.key) (body_seen c.args.body) c.answer_of_request.result c.call_of_answer.result c.answer_of_request.ensures c.call_of_answer.ensures
