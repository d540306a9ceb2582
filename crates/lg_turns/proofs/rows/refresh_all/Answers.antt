use Rattle.std.proofs.Common.{refl, arith}
use Rattle.lg_turns.proofs.Places.{held-more}
use Rattle.lg_turns.proofs.Stages.{refreshing-start, refreshing-done}
use Rattle.lg_turns.proofs.rows.refresh_all.Goals as goal

pub loop-place-init : goal.loop-place-init
loop-place-init g c = (c.len-place-end.ensures.1, c.requires.table, c.requires.pen, refl, refl, held-more _ _ _ c.requires.row (λ k a lt h. refreshing-start h), refl)

pub returns-clause-row : goal.returns-clause-row
returns-clause-row g c = let i = c.loop-place.invariant in held-more _ _ _ i.5 (λ k a lt h. refreshing-done (omega (arith, lt, i.0, c.len-place-end.ensures.0)) h)
