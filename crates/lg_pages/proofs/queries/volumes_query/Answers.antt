use Rattle.lg_types.specs.declared.filters.ListKind.TheVariants as kind
use Rattle.lg_routes.specs.Body.{body_seen}
use Rattle.lg_routes.specs.Seen.{parameters_seen}
use Rattle.lg_pages.specs.FirstPages.{FirstVolumes}
use Rattle.lg_pages.proofs.Cursors.{without_cursor}
use Rattle.lg_pages.proofs.queries.volumes_query.Goals as goal

pub returns-in-None : goal.returns-in-None
returns-in-None c =
    without_cursor kind.Volumes (parameters_seen c.args.parameters.now) (FirstVolumes (parameters_seen c.args.parameters.now) (body_seen c.args.body)) (rw c.in-None.is at c.first_value.ensures) c.first_volumes.ensures
