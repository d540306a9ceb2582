use Rattle.lg_shard.proofs.HeldLemmas.{held-new}
use Rattle.lg_shard.proofs.shard.Shard.new.Goals as goal

pub invariant_of-result : goal.invariant_of-result
invariant_of-result c = held-new c.args.stripe c.new.result.items c.new-2.result c.new.ensures.items c.new-2.ensures
