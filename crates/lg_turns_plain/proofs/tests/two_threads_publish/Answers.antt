use Rattle.std.proofs.Common.{refl, arith}
use Rattle.lg_types.specs.Stripes.{stripe}
use Rattle.lg_turns_plain.proofs.tests.two_threads_publish.Goals as goal

pub invariant_of-a : goal.invariant_of-a
unfolding stripe
invariant_of-a g c = record { placed = refl; below = omega arith }

pub invariant_of-b : goal.invariant_of-b
unfolding stripe
invariant_of-b g c = record { placed = refl; below = omega arith }

pub invariant_of-f : goal.invariant_of-f
unfolding stripe
invariant_of-f g c = record { placed = refl; below = omega arith }
