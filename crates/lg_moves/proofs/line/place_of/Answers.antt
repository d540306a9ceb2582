use Rattle.std.proofs.Common.{sym, ◌∙◌}
use Rattle.lg_moves.proofs.LineLemmas.{searching_near, searching_far, search_cost}
use Rattle.lg_moves.proofs.line.place_of.Goals as goal

pub loop-size-preserved-then-is_near : goal.loop-size-preserved-then-is_near
loop-size-preserved-then-is_near g c =
    searching_near c.args.bound.now c.args.marks.now.items c.loop-size.low c.loop-size.size c.args.steps.now c.loop-size.steps c.read_at-mark.new.steps c.read_at-mark.result
    c.loop-size.invariant c.loop-size-test.true c.read_at-mark.ensures.cost c.requires c.read_at-mark.ensures.value (sym c.is_near.ensures ∙ c.if-is_near.true)

pub loop-size-preserved : goal.loop-size-preserved
loop-size-preserved g c =
    searching_far c.args.bound.now c.args.marks.now.items c.loop-size.low c.loop-size.size c.args.steps.now c.loop-size.steps c.read_at-mark.new.steps c.read_at-mark.result
    c.loop-size.invariant c.loop-size-test.true c.read_at-mark.ensures.cost c.requires c.read_at-mark.ensures.value (sym c.is_near.ensures ∙ c.if-is_near.false)

pub returns-clause-cost : goal.returns-clause-cost
returns-clause-cost g c = search_cost c.args.bound.now c.args.marks.now.items c.loop-size.low c.loop-size.size c.args.steps.now c.loop-size.steps c.loop-size.invariant
