use Rattle.lg_shard.proofs.HeldLemmas.{limits-shown}
use Rattle.lg_shard.proofs.shard.Shard.totals_within.Goals as goal

pub returns : goal.returns
returns c = let x = c.self.inside in limits-shown x.stripe x.events.items x.applied x.ledgers c.self.invariant _ c.self.view_is
