use Rattle.lg_commit_volumes.proofs.SumLemmas.{entries_next, entry_within, entries_done}
use Rattle.lg_commit_volumes.proofs.before.with_entries.Goals as goal

pub with_entry-known-requires : goal.with_entry-known-requires
with_entry-known-requires c =
    entry_within c.args.transaction.now c.args.account.now c.args.asset.now c.args.entries.now c.loop-entry.entry-index c.entry-item.result c.loop-entry.known _
    c.loop-entry-test.true c.entry-item.is c.loop-entry.invariant c.requires

pub loop-entry-preserved : goal.loop-entry-preserved
loop-entry-preserved c =
    entries_next c.args.transaction.now c.args.account.now c.args.asset.now c.args.entries.now c.loop-entry.entry-index c.entry-item.result c.loop-entry.known c.with_entry-known.result _
    c.loop-entry-test.true c.entry-item.is c.with_entry-known.ensures c.loop-entry.invariant

pub returns : goal.returns
returns c =
    entries_done c.args.transaction.now c.args.account.now c.args.asset.now c.args.entries.now c.loop-entry.entry-index c.loop-entry.known _ c.loop-entry-test.false c.loop-entry.invariant
