use Rattle.lg_moves.proofs.LineLemmas.{hits_bounded}
use Rattle.lg_moves.proofs.IndexLemmas.{reading, reading_cost, count_room}
use Rattle.lg_moves.proofs.index.MoveIndex.sum.Goals as goal

pub with_late-requires-clause-input : goal.with_late-requires-clause-input
with_late-requires-clause-input g c = rw (c.sum-sums.ensures.value.input) (hits_bounded c.args.bound.now c.self.inside.line.items c.sum-sums.ensures.bounded).input

pub with_late-requires-clause-output : goal.with_late-requires-clause-output
with_late-requires-clause-output g c = rw (c.sum-sums.ensures.value.output) (hits_bounded c.args.bound.now c.self.inside.line.items c.sum-sums.ensures.bounded).output

pub with_late-requires-clause-count : goal.with_late-requires-clause-count
with_late-requires-clause-count g c r = count_room c.args.bound.now c.self.inside.line c.self.inside.late c.sum-sums.result r c.self.invariant c.sum-sums.ensures.value

pub returns-clause-value : goal.returns-clause-value
returns-clause-value g c =
    rw (← c.self.view_is) (reading c.args.bound.now c.self.inside.line c.self.inside.late c.sum-sums.result c.with_late.result c.self.invariant c.sum-sums.ensures.value c.with_late.ensures.ranked c.with_late.ensures.other)

pub returns-clause-cost : goal.returns-clause-cost
returns-clause-cost g c =
    rw (← c.self.view_is) (reading_cost c.self.inside.line c.self.inside.late c.args.steps.now c.sum-sums.new.steps c.with_late.new.steps c.self.invariant c.sum-sums.ensures.cost c.with_late.ensures.cost)
