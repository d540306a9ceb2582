use Rattle.lg_plan.proofs.StepLemmas.{book-step}
use Rattle.lg_plan.proofs.booking.prepare_on_book.Goals as goal

pub prepare_booked-requires-clause-follows : goal.prepare_booked-requires-clause-follows
prepare_booked-requires-clause-follows c = (book-step c.args.book.now c.loop-i.book c.args.steps.now c.loop-i.i c.index-steps-i.result c.loop-i.invariant.state c.requires.fits c.loop-i-test.true c.index-steps-i.is).0

pub prepare_booked-requires-clause-volumes : goal.prepare_booked-requires-clause-volumes
prepare_booked-requires-clause-volumes c = (book-step c.args.book.now c.loop-i.book c.args.steps.now c.loop-i.i c.index-steps-i.result c.loop-i.invariant.state c.requires.fits c.loop-i-test.true c.index-steps-i.is).1
