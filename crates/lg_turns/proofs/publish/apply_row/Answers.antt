use Rattle.std.proofs.Common.{◌≡◌, length, arith}
use Rattle.lg_turns.proofs.Places.{held-more}
use Rattle.lg_turns.proofs.publish.apply_row.Goals as goal

pub returns-clause-row : goal.returns-clause-row
returns-clause-row g c = held-more _ _ _ c.loop-place.invariant.4 (λ k a lt h. h.before (let all : length c.loop-place.row ≡ 16 = c.len-places.ensures.1 in omega arith))
