use Rattle.std.proofs.Common.{ℕ, List, Option, Vec, Global, map, ap}
use Rattle.std.specs.declared.borrow.CowSlice.{CowSlice}
use Rattle.form_urlencoded.specs.Form.{raw_pairs}
use Rattle.lg_readings.specs.Targets.{parameter_of}
use Rattle.lg_codec.specs.Results.{Reads}
use Rattle.lg_routes.specs.Seen.{segments_seen, bytes_seen}
use Rattle.lg_routes.specs.Body.{body_seen}
use Rattle.lg_routes.specs.Calls.{AsksAt}
use Rattle.lg_routes.proofs.Lent.{at_some}
use Rattle.lg_routes.proofs.calls.call_at_path.Goals as goal

pub returns-in-Some : goal.returns-in-Some
returns-in-Some g c =
    at_some c.args.segments c.in-Some.segments (λ (s : Vec (CowSlice ℕ Global) Global). segments_seen s.items)
    (λ (segments : Option (List (List ℕ))). Reads (AsksAt segments c.args.method.now (map parameter_of (raw_pairs c.args.query.now)) (bytes_seen c.args.key) (body_seen c.args.body)) c.call_at.result)
    (segments_seen c.as_slice.result.now) c.in-Some.is (ap segments_seen c.as_slice.ensures.value) c.call_at.ensures
