use Rattle.lg_routes.specs.Body.{body_seen}
use Rattle.lg_routes.specs.Seen.{parameters_seen}
use Rattle.lg_pages.specs.FirstPages.{FirstItems}
use Rattle.lg_pages.proofs.Cursors.{without_cursor}
use Rattle.lg_pages.proofs.queries.items_query.Goals as goal

pub returns-in-None : goal.returns-in-None
returns-in-None c =
    without_cursor c.args.kind (parameters_seen c.args.parameters.now) (FirstItems c.args.kind (parameters_seen c.args.parameters.now) (body_seen c.args.body)) (rw c.in-None.is at c.first_value.ensures) c.first_items.ensures
