use Rattle.lg_listed.proofs.AmountLemmas.{entries_next, entry_within, entries_done}
use Rattle.lg_listed.proofs.amounts.with_entries.Goals as goal

pub with_entry-sum-requires : goal.with_entry-sum-requires
with_entry-sum-requires c =
    entry_within c.args.account.now c.args.asset.now c.args.entries.now c.loop-entry.entry-index c.entry-item.result c.loop-entry.sum _
    c.loop-entry-test.true c.entry-item.is c.loop-entry.invariant c.requires

pub loop-entry-preserved : goal.loop-entry-preserved
loop-entry-preserved c =
    entries_next c.args.account.now c.args.asset.now c.args.entries.now c.loop-entry.entry-index c.entry-item.result c.loop-entry.sum c.with_entry-sum.result _
    c.loop-entry-test.true c.entry-item.is c.with_entry-sum.ensures c.loop-entry.invariant

pub returns : goal.returns
returns c = entries_done c.args.account.now c.args.asset.now c.args.entries.now c.loop-entry.entry-index c.loop-entry.sum _ c.loop-entry-test.false c.loop-entry.invariant
