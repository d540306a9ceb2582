-- Plans that fit.
use Rattle.lg_plan.specs.Laws.{FitsMore}
use Rattle.lg_plan.proofs.EventLemmas.{all-prepare-more}

pub fits-more : FitsMore
fits-more plan events event volumes fits may = record { place = fits.place; prepare = all-prepare-more events plan.events plan.volumes event volumes fits.prepare may }
