use Rattle.lg_routes.specs.Seen.{parameters_seen}
use Rattle.lg_pages.proofs.Sizes.{absent_size}
use Rattle.lg_pages.proofs.number_parameters.page_size.Goals as goal

pub returns-in-None : goal.returns-in-None
returns-in-None c = absent_size (parameters_seen c.args.parameters.now) (rw c.in-None.is at c.first_value.ensures)
