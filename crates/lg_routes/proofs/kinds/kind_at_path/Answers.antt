use Rattle.std.proofs.Common.{◌≡◌, ℕ, List, Option, Vec, Global, ap}
use Rattle.std.specs.Prelude.{IfOk}
use Rattle.std.specs.declared.borrow.CowSlice.{CowSlice}
use Rattle.lg_readings.specs.Routes as routes
use Rattle.lg_routes.specs.Seen.{segments_seen}
use Rattle.lg_routes.specs.Table.{found_in}
use Rattle.lg_routes.specs.Calls.{kind_found, recomputes_in}
use Rattle.lg_routes.proofs.Lent.{at_some}
use Rattle.lg_routes.proofs.kinds.kind_at_path.Goals as goal

pub returns-in-Some : goal.returns-in-Some
returns-in-Some c =
    at_some c.args.segments c.in-Some.segments (λ (s : Vec (CowSlice ℕ Global) Global). segments_seen s.items)
    (λ (segments : Option (List (List ℕ))). IfOk c.kind_at.result (λ kind. kind ≡ kind_found (recomputes_in c.args.query.now) (found_in (routes.routes_at segments) c.args.method.now)))
    (segments_seen c.as_slice.result.now) c.in-Some.is (ap segments_seen c.as_slice.ensures.value) c.kind_at.ensures
