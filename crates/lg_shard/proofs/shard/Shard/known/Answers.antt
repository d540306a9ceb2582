use Rattle.std.proofs.Common.{Some, refl, ◌∙◌}
use Rattle.lg_shard.proofs.HeldLemmas.{known-shown, unknown}
use Rattle.lg_shard.proofs.shard.Shard.known.Goals as goal

pub returns-in-Some : goal.returns-in-Some
returns-in-Some c =
    let x = c.self.inside in
    c.is_named_in.ensures ∙ known-shown x.stripe x.events.items x.applied x.ledgers c.self.invariant _ c.self.view_is c.args.ledger.now c.bytes.result.now c.bytes.ensures.value (Some c.in-Some.part.now) c.in-Some.ensures c.args.account.now

pub returns-in-None : goal.returns-in-None
returns-in-None c =
    let x = c.self.inside in
    unknown x.stripe x.events.items x.applied x.ledgers c.self.invariant _ c.self.view_is c.args.ledger.now c.bytes.result.now c.bytes.ensures.value _ c.in-None.ensures refl c.args.account.now
