use Rattle.lg_meta.proofs.Histories.{none_indexed}
use Rattle.lg_meta.proofs.history.MetaHistory.new.Goals as goal

pub invariant_of-result : goal.invariant_of-result
invariant_of-result c = none_indexed c.new.result.items c.new-2.result c.new.ensures.items c.new-2.ensures
