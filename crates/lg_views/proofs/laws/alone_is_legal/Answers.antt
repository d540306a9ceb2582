use Rattle.lg_views.proofs.Histories.{alone_is_legal}
use Rattle.lg_views.proofs.laws.alone_is_legal.Goals as goal

pub returns : goal.returns
returns c = alone_is_legal
