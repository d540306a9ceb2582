use Rattle.lg_turns.proofs.Places.{all-mapped}
use Rattle.lg_turns.proofs.turns.Turns.take.Goals as goal

pub returns-clause-stripes : goal.returns-clause-stripes
returns-clause-stripes g c = all-mapped _ _ _ _ c.take_all-guards.ensures.row (λ k a h. h.0)
