use Rattle.std.proofs.Common.{arith}
use Rattle.lg_moves.proofs.LateLemmas.{height_small, late_grows, count_fits, room_grows, insert_cost}
use Rattle.lg_moves.proofs.late.Late.insert.Goals as goal

pub insert-requires-clause-height : goal.insert-requires-clause-height
insert-requires-clause-height g c = height_small c.self.inside.tree c.self.invariant.thick (omega (arith, c.self.invariant.counted))

pub overflow_sub-self : goal.overflow_sub-self
overflow_sub-self g c = omega (arith, c.len.ensures, c.len-before.ensures, c.insert.ensures.grows.kept, c.insert.ensures.grows.more)

pub overflow_add-self : goal.overflow_add-self
overflow_add-self g c =
    let k = count_fits c.self.inside.first c.self.inside.tree c.insert.new.self c.self.inside.pool c.insert.new.pool c.self.inside.blocks c.args.item.now c.self.invariant c.insert.ensures.grows (rw (← c.self.view_is) at c.requires.bounded) in
    omega (arith, k, c.len.ensures, c.len-before.ensures)

pub invariant_of-self-else-is_empty : goal.invariant_of-self-else-is_empty
invariant_of-self-else-is_empty g c =
    rw (c.len.ensures, c.len-before.ensures)
    (late_grows c.self.inside.first c.self.inside.tree c.insert.new.self c.self.inside.pool c.insert.new.pool c.self.inside.blocks c.args.item.now c.self.invariant (c.is_empty.ensures.some c.if-is_empty.false) c.insert.ensures.grows (rw (← c.self.view_is) at c.requires.bounded))

pub returns-else-is_empty-clause-spare : goal.returns-else-is_empty-clause-spare
returns-else-is_empty-clause-spare g c =
    rw (← c.self.view_is) (room_grows c.self.inside.first c.self.inside.tree c.insert.new.self c.self.inside.pool c.insert.new.pool c.args.item.now c.insert.ensures.grows)

pub returns-else-is_empty-clause-cost : goal.returns-else-is_empty-clause-cost
returns-else-is_empty-clause-cost g c =
    rw (← c.self.view_is) (insert_cost c.self.inside.first c.self.inside.tree c.self.inside.pool c.self.inside.blocks c.args.steps.now c.insert.new.steps c.self.invariant (c.is_empty.ensures.some c.if-is_empty.false) c.insert.ensures.cost)
