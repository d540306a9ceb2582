use Rattle.lg_routes.proofs.Readings.{onward_tree, halted_tree}
use Rattle.lg_pages.proofs.first_pages.filter_of_body.Goals as goal

pub returns-in_err-value : goal.returns-in_err-value
returns-in_err-value c = halted_tree _ c.from_residual.ensures.1 c.in_err-value.ensures

pub returns : goal.returns
returns c = onward_tree c.in_ok-value.ensures c.filter_of_json.ensures
