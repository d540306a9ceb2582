use Rattle.lg_views.proofs.FirstViews.{new_metadata_shown}
use Rattle.lg_views.proofs.laws.new_metadata_shown.Goals as goal

pub returns : goal.returns
returns c = new_metadata_shown
