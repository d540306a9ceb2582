use Rattle.lg_moves.proofs.IndexLemmas.{limit_input, limit_output, late_bounded, apply_cost, apply_bound}
use Rattle.lg_moves.proofs.index.MoveIndex.apply.Goals as goal

pub push-timely-requires-clause-input : goal.push-timely-requires-clause-input
push-timely-requires-clause-input g c = limit_input c.self.inside.line.items c.args.item (rw (← c.self.view_is) at c.requires.limit)

pub push-timely-requires-clause-output : goal.push-timely-requires-clause-output
push-timely-requires-clause-output g c = limit_output c.self.inside.line.items c.args.item (rw (← c.self.view_is) at c.requires.limit)

pub put_late-requires-clause-bounded : goal.put_late-requires-clause-bounded
put_late-requires-clause-bounded g c =
    late_bounded c.self.inside.line c.push-timely.new.self c.self.inside.late c.args.item c.push-timely.result c.self.invariant c.push-timely.ensures.items c.push-timely.ensures.bounded

pub returns-clause-cost : goal.returns-clause-cost
returns-clause-cost g c =
    rw (← c.self.view_is) (apply_cost c.self.inside.line c.self.inside.late c.args.steps.now c.push-timely.new.steps c.put_late.new.steps c.self.invariant c.push-timely.ensures.cost c.put_late.ensures.cost)

pub returns-clause-bound : goal.returns-clause-bound
returns-clause-bound g c =
    rw (← c.self.view_is)
    (apply_bound c.self.inside.line c.push-timely.new.self c.args.item c.push-timely.result c.args.steps.now c.put_late.new.steps c.push-timely.ensures.items c.push-timely.ensures.bounded
    (apply_cost c.self.inside.line c.self.inside.late c.args.steps.now c.push-timely.new.steps c.put_late.new.steps c.self.invariant c.push-timely.ensures.cost c.put_late.ensures.cost))
