use Rattle.std.proofs.Common.{◌^◌, arith}
use Rattle.lg_listed.proofs.AppendLemmas.{count_next, count_within, count_done}
use Rattle.lg_listed.proofs.found.count_with.Goals as goal

pub overflow_add-total : goal.overflow_add-total
overflow_add-total c =
    let room = count_within c.args.entries.now c.loop-entry.entry-index c.entry-item.result c.loop-entry.total c.made_by-total.result c.args.count (2 ^ 64)
    c.loop-entry-test.true c.entry-item.is c.made_by-total.ensures c.loop-entry.invariant c.requires in
    omega (arith, room)

pub loop-entry-preserved : goal.loop-entry-preserved
loop-entry-preserved c =
    count_next c.args.entries.now c.loop-entry.entry-index c.entry-item.result c.loop-entry.total c.made_by-total.result _
    c.loop-entry-test.true c.entry-item.is c.made_by-total.ensures c.loop-entry.invariant

pub returns : goal.returns
returns c = count_done c.args.entries.now c.loop-entry.entry-index c.loop-entry.total _ c.loop-entry-test.false c.loop-entry.invariant
