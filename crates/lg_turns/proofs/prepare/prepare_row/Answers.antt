use Rattle.std.proofs.Common.{◌≡◌, refl, arith}
use Rattle.lg_turns.proofs.Places.{held-more}
use Rattle.lg_turns.proofs.Stages.{staged-start, staged-to}
use Rattle.lg_turns.proofs.prepare.prepare_row.Goals as goal

pub loop-place-init : goal.loop-place-init
loop-place-init g c = (refl, refl, refl, (λ es h. h), held-more _ _ _ c.requires.row (λ k a lt h. staged-start h), (λ k. refl))

pub returns-clause-row : goal.returns-clause-row
returns-clause-row g c = let all : c.loop-place.place ≡ 16 = omega arith in held-more _ _ _ c.loop-place.invariant.4 (λ k a lt h. staged-to all h)
