use Rattle.lg_moves.proofs.SumLemmas.{plus_sums}
use Rattle.lg_moves.proofs.LateLemmas.{late_fit, late_within, few_within, sum_cost}
use Rattle.lg_moves.proofs.late.Late.sum.Goals as goal

pub plus-requires-clause-input : goal.plus-requires-clause-input
plus-requires-clause-input g c = (late_fit c.args.bound.now c.self.inside.first.items c.self.inside.tree.items c.sum_all-few.result c.sum.result c.self.invariant.bounded c.sum_all-few.ensures.value c.sum.ensures.value).input

pub plus-requires-clause-output : goal.plus-requires-clause-output
plus-requires-clause-output g c = (late_fit c.args.bound.now c.self.inside.first.items c.self.inside.tree.items c.sum_all-few.result c.sum.result c.self.invariant.bounded c.sum_all-few.ensures.value c.sum.ensures.value).output

pub plus-requires-clause-count : goal.plus-requires-clause-count
plus-requires-clause-count g c = (late_fit c.args.bound.now c.self.inside.first.items c.self.inside.tree.items c.sum_all-few.result c.sum.result c.self.invariant.bounded c.sum_all-few.ensures.value c.sum.ensures.value).count

pub returns-then-is_empty-clause-input : goal.returns-then-is_empty-clause-input
returns-then-is_empty-clause-input g c = (few_within c.args.bound.now c.self.inside.first.items c.self.inside.tree.items c.sum_all-few.result c.self.invariant.bounded c.sum_all-few.ensures.value).input

pub returns-then-is_empty-clause-output : goal.returns-then-is_empty-clause-output
returns-then-is_empty-clause-output g c = (few_within c.args.bound.now c.self.inside.first.items c.self.inside.tree.items c.sum_all-few.result c.self.invariant.bounded c.sum_all-few.ensures.value).output

pub returns-then-is_empty-clause-count : goal.returns-then-is_empty-clause-count
returns-then-is_empty-clause-count g c = rw (← c.self.view_is) (few_within c.args.bound.now c.self.inside.first.items c.self.inside.tree.items c.sum_all-few.result c.self.invariant.bounded c.sum_all-few.ensures.value).count

pub returns-else-is_empty-clause-input : goal.returns-else-is_empty-clause-input
returns-else-is_empty-clause-input g c = (late_within c.args.bound.now c.self.inside.first.items c.self.inside.tree.items c.plus.result c.self.invariant.bounded (plus_sums c.sum_all-few.ensures.value c.sum.ensures.value c.plus.result c.plus.ensures)).input

pub returns-else-is_empty-clause-output : goal.returns-else-is_empty-clause-output
returns-else-is_empty-clause-output g c = (late_within c.args.bound.now c.self.inside.first.items c.self.inside.tree.items c.plus.result c.self.invariant.bounded (plus_sums c.sum_all-few.ensures.value c.sum.ensures.value c.plus.result c.plus.ensures)).output

pub returns-else-is_empty-clause-count : goal.returns-else-is_empty-clause-count
returns-else-is_empty-clause-count g c = rw (← c.self.view_is) (late_within c.args.bound.now c.self.inside.first.items c.self.inside.tree.items c.plus.result c.self.invariant.bounded (plus_sums c.sum_all-few.ensures.value c.sum.ensures.value c.plus.result c.plus.ensures)).count

pub returns-else-is_empty-clause-cost : goal.returns-else-is_empty-clause-cost
returns-else-is_empty-clause-cost g c =
    rw (← c.self.view_is) (sum_cost c.self.inside.first c.self.inside.tree c.self.inside.pool c.self.inside.blocks c.args.steps.now c.sum_all-few.new.steps c.sum.new.steps c.self.invariant (c.is_empty.ensures.some c.if-is_empty.false) c.sum_all-few.ensures.cost c.sum.ensures.cost)
