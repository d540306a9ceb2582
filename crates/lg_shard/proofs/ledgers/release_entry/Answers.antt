use Rattle.std.proofs.Common.{sym, ◌∙◌}
use Rattle.lg_shard.proofs.AccountLemmas.{copied-none}
use Rattle.lg_shard.proofs.LedgerLemmas.{ledgers-released, ledgers-absent}
use Rattle.lg_shard.proofs.ledgers.release_entry.Goals as goal

pub returns-then-is_some : goal.returns-then-is_some
returns-then-is_some c place shares coming tied =
    ledgers-released c.args.ledgers.now c.args.ledger.now c.bytes-then-is_some.result.now c.bytes-then-is_some.ensures.value c.value_mut-part.result.now c.release_part.new.part c.value_mut-part.ensures.value
    c.args.stripe place c.args.entry.now shares coming c.release_part.ensures tied

pub returns-else-is_some : goal.returns-else-is_some
returns-else-is_some c place shares coming tied = ledgers-absent c.args.ledgers.now c.args.ledger.now _ c.bytes.ensures.value (copied-none c.find.result _ c.find.ensures (sym c.is_some.ensures ∙ c.if-is_some.false)) c.args.stripe place c.args.entry.now shares coming tied
