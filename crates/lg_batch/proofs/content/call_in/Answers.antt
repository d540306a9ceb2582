use Rattle.lg_routes.specs.Body.{body_seen}
use Rattle.lg_batch.proofs.content.call_in.Goals as goal

pub returns : goal.returns
returns g c = (body_seen c.in_ok-body.body, c.in_ok-call.call, c.in_ok-body.ensures, c.in_ok-call.ensures.request, c.as_unbuilt.ensures)
