use Rattle.std.proofs.Common.{◌-◌, ◌≤◌, max}
use Rattle.lg_moves.proofs.late.fill.Given as goal

abbrev pub invariant-grow : goal.invariant-grow
invariant-grow l = (l.initial.pool ≤ l.pool) × (l.pool ≤ max l.initial.pool l.nodes)

abbrev pub decreases-grow : goal.decreases-grow
decreases-grow l = l.nodes - l.pool
