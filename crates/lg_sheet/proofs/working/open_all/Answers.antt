use Rattle.std.proofs.Common.{arith}
use Rattle.lg_sheet.proofs.WorkingLemmas.{same_twice, stays_twice, open_next}
use Rattle.lg_sheet.proofs.working.open_all.Goals as goal

pub loop-posting-preserved : goal.loop-posting-preserved
loop-posting-preserved c = record {
  same = same_twice c.args.working.now c.loop-posting.working _ c.loop-posting.invariant.same (same_twice c.loop-posting.working c.open_place.new.working _ c.open_place.ensures.same c.open_place-in-loop-posting.ensures.same);
  places = open_next c.loop-posting.working c.open_place-in-loop-posting.new.working c.args.postings.now c.loop-posting.posting-index c.posting-item.result
      c.loop-posting-test.true c.posting-item.is (stays_twice c.loop-posting.working c.open_place.new.working _ c.open_place.ensures.stays c.open_place-in-loop-posting.ensures.stays) c.loop-posting.invariant.places
      (record { source = c.open_place-in-loop-posting.ensures.stays.each _ _ c.in_ok-open_place.ensures.places; destination = c.in_ok-open_place-2.ensures.places });
}

pub returns-clause-places : goal.returns-clause-places
returns-clause-places c = λ k d h. c.loop-posting.invariant.places k (let past = c.loop-posting-test.false in omega (arith, past, h)) d
