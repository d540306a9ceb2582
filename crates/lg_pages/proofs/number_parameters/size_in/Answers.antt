use Rattle.lg_pages.proofs.Sizes.{no_number, zero_size, some_size}
use Rattle.lg_pages.proofs.number_parameters.size_in.Goals as goal

pub returns-in-None : goal.returns-in-None
returns-in-None c = no_number c.args.bytes.now (rw c.in-None.is at c.number_up_to.ensures) c.bad_parameter.ensures

pub returns-then-size-eq0 : goal.returns-then-size-eq0
returns-then-size-eq0 c = zero_size c.args.bytes.now c.in-Some.size c.in-Some.ensures.1 c.if-size-eq0.true c.bad_parameter-then-size-eq0.ensures

pub returns-else-size-eq0 : goal.returns-else-size-eq0
returns-else-size-eq0 c = some_size c.args.bytes.now c.in-Some.size c.in-Some.ensures.0 c.in-Some.ensures.1 c.if-size-eq0.false
