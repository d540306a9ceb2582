use Rattle.std.proofs.Common.{◌≤◌, arith}
use Rattle.lg_turns.proofs.Places.{held-more}
use Rattle.lg_turns.proofs.Stages.{forgotten-done}
use Rattle.lg_turns.proofs.prepare.forget_row.Goals as goal

pub returns-clause-row : goal.returns-clause-row
returns-clause-row g c = let le : c.args.end ≤ c.loop-place.place = omega arith in held-more _ _ _ c.loop-place.invariant.0 (λ k a lt h. forgotten-done le h)
