use Rattle.std.proofs.Common.{◌≡◌, ◌+◌, ◌-◌, subst, arith}
use Rattle.lg_sheet.specs.Lines.{posting_of, ordered}
use Rattle.lg_sheet.specs.Working.{IsOpen}
use Rattle.lg_sheet.proofs.OrderLemmas.{both_at}
use Rattle.lg_sheet.proofs.WorkingLemmas.{stays_twice}
use Rattle.lg_sheet.proofs.BookLemmas.{IsBack, left_output, left_input, back_next}
use Rattle.lg_sheet.proofs.trial.take_back.Goals as goal

pub take_line-requires-clause-source : goal.take_line-requires-clause-source
take_line-requires-clause-source c =
    c.loop-left.invariant.stays.each _ _ (both_at (IsOpen c.args.working.now) c.args.order c.args.postings.now (c.loop-left.left - 1) (posting_of c.line_at.result) c.requires.places c.line_at.ensures).source

pub take_line-requires-clause-destination : goal.take_line-requires-clause-destination
take_line-requires-clause-destination c =
    c.loop-left.invariant.stays.each _ _ (both_at (IsOpen c.args.working.now) c.args.order c.args.postings.now (c.loop-left.left - 1) (posting_of c.line_at.result) c.requires.places c.line_at.ensures).destination

pub take_line-requires-clause-output : goal.take_line-requires-clause-output
take_line-requires-clause-output c =
    let some = c.loop-left-test.true in
    let one : c.loop-left.left ≡ c.loop-left.left - 1 + 1 = omega (arith, some) in
    left_output c.args.working.now c.loop-left.working (ordered c.args.order c.args.postings.now) c.args.booked (c.loop-left.left - 1) (posting_of c.line_at.result) c.line_at.ensures c.requires.booked
    (subst (IsBack c.args.working.now c.loop-left.working (ordered c.args.order c.args.postings.now) c.args.booked) one c.loop-left.invariant.back)

pub take_line-requires-clause-input : goal.take_line-requires-clause-input
take_line-requires-clause-input c =
    let some = c.loop-left-test.true in
    let one : c.loop-left.left ≡ c.loop-left.left - 1 + 1 = omega (arith, some) in
    left_input c.args.working.now c.loop-left.working (ordered c.args.order c.args.postings.now) c.args.booked (c.loop-left.left - 1) (posting_of c.line_at.result) c.line_at.ensures c.requires.booked
    (subst (IsBack c.args.working.now c.loop-left.working (ordered c.args.order c.args.postings.now) c.args.booked) one c.loop-left.invariant.back)

pub loop-left-preserved : goal.loop-left-preserved
loop-left-preserved c =
    let some = c.loop-left-test.true in
    let one : c.loop-left.left ≡ c.loop-left.left - 1 + 1 = omega (arith, some) in
    let most = c.loop-left.invariant.bound in
    record {
      bound = omega (arith, most);
      back = back_next c.args.working.now c.loop-left.working c.take_line.new.working (ordered c.args.order c.args.postings.now) c.args.booked (c.loop-left.left - 1) (posting_of c.line_at.result) c.line_at.ensures
          (subst (IsBack c.args.working.now c.loop-left.working (ordered c.args.order c.args.postings.now) c.args.booked) one c.loop-left.invariant.back) c.take_line.ensures.taken;
      stays = stays_twice c.args.working.now c.loop-left.working _ c.loop-left.invariant.stays c.take_line.ensures.stays;
    }
