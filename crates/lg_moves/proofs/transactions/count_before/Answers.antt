use Rattle.lg_moves.proofs.TransactionLemmas.{before_near, before_far, before_cost}
use Rattle.lg_moves.proofs.transactions.count_before.Goals as goal

pub loop-size-preserved-then-entry-id : goal.loop-size-preserved-then-entry-id
loop-size-preserved-then-entry-id g c =
    before_near c.args.id c.args.entries.now.items c.loop-size.low c.loop-size.size c.args.steps.now c.loop-size.steps c.read_at-entry.new.steps c.read_at-entry.result
    c.loop-size.invariant c.loop-size-test.true c.read_at-entry.ensures.cost c.requires c.read_at-entry.ensures.value c.if-entry-id.true

pub loop-size-preserved : goal.loop-size-preserved
loop-size-preserved g c =
    before_far c.args.id c.args.entries.now.items c.loop-size.low c.loop-size.size c.args.steps.now c.loop-size.steps c.read_at-entry.new.steps c.read_at-entry.result
    c.loop-size.invariant c.loop-size-test.true c.read_at-entry.ensures.cost c.requires c.read_at-entry.ensures.value c.if-entry-id.false

pub returns-clause-cost : goal.returns-clause-cost
returns-clause-cost g c = before_cost c.args.id c.args.entries.now.items c.loop-size.low c.loop-size.size c.args.steps.now c.loop-size.steps c.loop-size.invariant
