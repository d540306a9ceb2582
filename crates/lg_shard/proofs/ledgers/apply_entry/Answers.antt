use Rattle.lg_shard.specs.Holdings.{ledger_holding}
use Rattle.lg_shard.proofs.LedgerLemmas.{ledgers-applied, part-ready, part-follows, still_there}
use Rattle.lg_shard.proofs.ledgers.apply_entry.Goals as goal

pub apply_part-requires-clause-ready : goal.apply_part-requires-clause-ready
apply_part-requires-clause-ready g c =
    let r = c.requires.ready in (
      ledger_holding c.args.ledger.now r.shares,
      ledger_holding c.args.ledger.now r.coming,
      part-ready c.args.ledgers.now c.args.stripe r.place c.args.ledger.now c.args.entry.now c.bytes.result.now c.bytes.ensures.value c.value_mut-part.result.now c.value_mut-part.ensures.value r.shares r.coming r.tied,
      part-follows c.args.ledgers.now c.args.stripe r.place c.args.ledger.now c.args.entry.now c.bytes.result.now c.bytes.ensures.value c.value_mut-part.result.now c.value_mut-part.ensures.value r.shares r.coming r.follows,
    )

pub returns-clause-tied : goal.returns-clause-tied
returns-clause-tied g c place shares coming tied =
    ledgers-applied c.args.ledgers.now c.args.ledger.now c.bytes.result.now c.bytes.ensures.value c.value_mut-part.result.now c.apply_part.new.part c.value_mut-part.ensures.value
    c.args.stripe place c.args.entry.now shares coming c.apply_part.ensures tied

pub returns-clause-still : goal.returns-clause-still
returns-clause-still g c q h = still_there c.args.ledgers.now c.bytes.result.now c.value_mut-part.result.now c.apply_part.new.part c.value_mut-part.ensures.value q h
