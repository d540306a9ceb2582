use Rattle.lg_plan.proofs.PlanLemmas.{fits-more}
use Rattle.lg_plan.proofs.laws.fits_more.Goals as goal

pub returns : goal.returns
returns c = fits-more
