use Rattle.std.proofs.Common.{arith}
use Rattle.lg_meta.proofs.Histories.{forgotten}
use Rattle.lg_meta.proofs.history.MetaHistory.forget.Goals as goal

pub invariant_of-self : goal.invariant_of-self
invariant_of-self c = forgotten _ _ _ _ _ _ c.self.invariant (omega arith) c.self.invariant.within c.truncate.ensures.items c.cut.ensures
