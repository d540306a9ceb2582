use Rattle.std.proofs.Common.{arith}
use Rattle.std.proofs.lemmas.Int.{ints}
use Rattle.lg_time.proofs.ReadLemmas.{never, same_ok}
use Rattle.lg_time.proofs.read.read_moment.Goals as goal

pub returns-in-Some-clause-only : goal.returns-in-Some-clause-only
returns-in-Some-clause-only c = λ m h. same_ok _ _ _ (omega (arith, ints)) (c.in-Some.ensures.only m h)

pub returns-in-None-clause-only : goal.returns-in-None-clause-only
returns-in-None-clause-only c = λ m h. never m (c.in-None.ensures.only m h)

pub returns-in-None-clause-none : goal.returns-in-None-clause-none
returns-in-None-clause-none c = λ m h. never m (c.in-None.ensures.only m h)
