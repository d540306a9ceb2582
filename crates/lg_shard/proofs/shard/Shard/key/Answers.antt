use Rattle.std.proofs.Common.{sym, ◌∙◌}
use Rattle.lg_containers.specs.NameTable.{get-empty}
use Rattle.lg_keys.specs.declared.kept.Kept.{Kept}
use Rattle.lg_shard.proofs.HeldLemmas.{key-shown}
use Rattle.lg_shard.proofs.shard.Shard.key.Goals as goal

pub returns-in-None : goal.returns-in-None
returns-in-None c =
    let x = c.self.inside in
    sym (get-empty Kept c.args.key.now)
    ∙ key-shown x.stripe x.events.items x.applied x.ledgers c.self.invariant _ c.self.view_is c.args.ledger.now c.bytes.result.now c.bytes.ensures.value _ c.in-None.ensures c.args.key.now
