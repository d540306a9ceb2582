use Rattle.lg_views.proofs.Imported.{imported_answers_alike}
use Rattle.lg_views.proofs.laws.imported_answers_alike.Goals as goal

pub returns : goal.returns
returns c = imported_answers_alike
