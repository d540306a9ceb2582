use Rattle.std.proofs.Common.{refl}
use Rattle.lg_shard.proofs.HeldLemmas.{no-changes}
use Rattle.lg_shard.proofs.shard.Shard.history.Goals as goal

pub returns-in-None-clause-none : goal.returns-in-None-clause-none
returns-in-None-clause-none c =
    let x = c.self.inside in (
      λ _. no-changes x.stripe x.events.items x.applied x.ledgers c.self.invariant _ c.self.view_is c.args.ledger.now c.bytes.result.now c.bytes.ensures.value _ c.in-None.ensures refl c.args.account.now,
      λ _. refl,
    )
