use Rattle.std.proofs.Common.{◌≡◌, ◌∙◌, ◌++◌, IsTrue, IfSome, length, take, sym, ap, subst}
use Rattle.std.specs.List.{flat_map}
use Rattle.lg_base.specs.Volumes.{IsWithinLimit}
use Rattle.lg_types.specs.Moves.{total}
use Rattle.lg_types.specs.Trial.{tried_moves, trial_from}
use Rattle.lg_sheet.specs.Lines.{posting_of, ordered}
use Rattle.lg_sheet.specs.Working.{IsOpen}
use Rattle.lg_sheet.specs.Trials.{present, line_refusal, IsToldStop, IsLackBelow, IsNoLack, IsLineLimit}
use Rattle.lg_sheet.proofs.OrderLemmas.{both_at}
use Rattle.lg_sheet.proofs.WorkingLemmas.{stays_twice}
use Rattle.lg_sheet.proofs.BookLemmas.{booked_next, total_now, within_next, within_twice, has_booked}
use Rattle.lg_sheet.proofs.TrialLemmas.{told_here, goes_here, lack_below, no_lack}
use Rattle.lg_sheet.proofs.trial.book.Goals as goal

pub try_line-requires-clause-lent_source : goal.try_line-requires-clause-lent_source
try_line-requires-clause-lent_source g c =
    (both_at (λ account asset. IsTrue (g.B.Balances.lends c.args.lent.now account)) c.args.order c.args.postings.now c.loop-place.place (posting_of c.line_at-line.result) c.requires.may.lent c.line_at-line.ensures).source

pub try_line-requires-clause-lent_destination : goal.try_line-requires-clause-lent_destination
try_line-requires-clause-lent_destination g c =
    (both_at (λ account asset. IsTrue (g.B.Balances.lends c.args.lent.now account)) c.args.order c.args.postings.now c.loop-place.place (posting_of c.line_at-line.result) c.requires.may.lent c.line_at-line.ensures).destination

pub try_line-requires-clause-source : goal.try_line-requires-clause-source
try_line-requires-clause-source g c =
    c.loop-place.invariant.within.each _ _
    (both_at (λ account asset. IsWithinLimit (present (g.B.Balances.totals c.args.lent.now) c.args.working.now account asset)) c.args.order c.args.postings.now c.loop-place.place (posting_of c.line_at-line.result) c.requires.may.within c.line_at-line.ensures).source

pub try_line-requires-clause-destination : goal.try_line-requires-clause-destination
try_line-requires-clause-destination g c =
    c.loop-place.invariant.within.each _ _
    (both_at (λ account asset. IsWithinLimit (present (g.B.Balances.totals c.args.lent.now) c.args.working.now account asset)) c.args.order c.args.postings.now c.loop-place.place (posting_of c.line_at-line.result) c.requires.may.within c.line_at-line.ensures).destination

pub take_back-requires-clause-booked : goal.take_back-requires-clause-booked
take_back-requires-clause-booked g c = has_booked c.args.working.now c.loop-place.working _ c.loop-place.invariant.booked

pub returns-in-Some-clause-told : goal.returns-in-Some-clause-told
returns-in-Some-clause-told g c = λ ms have.
    let p = posting_of c.line_at-line.result in
    let qs = ordered c.args.order c.args.postings.now in
    let totals = g.B.Balances.totals c.args.lent.now in
    let both = both_at (λ account asset. total ms account asset ≡ present totals c.args.working.now account asset) c.args.order c.args.postings.now c.loop-place.place p have.each c.line_at-line.ensures in
    let here = c.try_line.ensures.tried (ms ++ flat_map tried_moves (take c.loop-place.place qs)) c.loop-place.place
    (total_now totals c.args.working.now c.loop-place.working (take c.loop-place.place qs) ms p.source p.asset c.loop-place.invariant.booked both.source)
    (total_now totals c.args.working.now c.loop-place.working (take c.loop-place.place qs) ms p.destination p.asset c.loop-place.invariant.booked both.destination) in
    subst (λ stop. IsToldStop qs stop (trial_from ms 0 qs c.args.force)) (sym c.stop_at.ensures)
    (told_here c.args.force ms qs c.loop-place.place p c.line_at-line.ensures c.in-Some.stop (ap (line_refusal c.loop-place.place p) (sym c.in-Some.is) ∙ here) (c.loop-place.invariant.rest ms have))

pub returns-in-Some-clause-place : goal.returns-in-Some-clause-place
returns-in-Some-clause-place g c = subst (IsLackBelow (length c.args.postings.now)) (sym c.stop_at.ensures) (lack_below c.loop-place.place (length c.args.postings.now) c.in-Some.stop c.loop-place-test.true)

pub returns-in-Some-clause-forced : goal.returns-in-Some-clause-forced
returns-in-Some-clause-forced g c = λ forced.
    subst IsNoLack (sym c.stop_at.ensures)
    (no_lack c.loop-place.place c.in-Some.stop (subst (λ o. IfSome o IsLineLimit) c.in-Some.is (c.try_line.ensures.forced forced)))

pub add_line-requires-clause-source : goal.add_line-requires-clause-source
add_line-requires-clause-source g c =
    c.loop-place.invariant.stays.each _ _ (both_at (IsOpen c.args.working.now) c.args.order c.args.postings.now c.loop-place.place (posting_of c.line_at-line.result) c.requires.places c.line_at-line.ensures).source

pub add_line-requires-clause-destination : goal.add_line-requires-clause-destination
add_line-requires-clause-destination g c =
    c.loop-place.invariant.stays.each _ _ (both_at (IsOpen c.args.working.now) c.args.order c.args.postings.now c.loop-place.place (posting_of c.line_at-line.result) c.requires.places c.line_at-line.ensures).destination

pub loop-place-preserved : goal.loop-place-preserved
loop-place-preserved g c =
    let p = posting_of c.line_at-line.result in
    let qs = ordered c.args.order c.args.postings.now in
    let totals = g.B.Balances.totals c.args.lent.now in
    record {
      booked = booked_next c.args.working.now c.loop-place.working c.add_line.new.working qs c.loop-place.place p c.line_at-line.ensures c.loop-place.invariant.booked c.add_line.ensures.booked;
      stays = stays_twice c.args.working.now c.loop-place.working _ c.loop-place.invariant.stays c.add_line.ensures.stays;
      within = within_twice totals c.args.working.now c.loop-place.working _ c.loop-place.invariant.within (within_next totals c.loop-place.working c.add_line.new.working p (c.try_line.ensures.room c.in-None.is) c.add_line.ensures.booked);
      rest = λ ms have.
          let both = both_at (λ account asset. total ms account asset ≡ present totals c.args.working.now account asset) c.args.order c.args.postings.now c.loop-place.place p have.each c.line_at-line.ensures in
          let here = c.try_line.ensures.tried (ms ++ flat_map tried_moves (take c.loop-place.place qs)) c.loop-place.place
          (total_now totals c.args.working.now c.loop-place.working (take c.loop-place.place qs) ms p.source p.asset c.loop-place.invariant.booked both.source)
          (total_now totals c.args.working.now c.loop-place.working (take c.loop-place.place qs) ms p.destination p.asset c.loop-place.invariant.booked both.destination) in
          goes_here c.args.force ms qs c.loop-place.place p c.line_at-line.ensures (ap (line_refusal c.loop-place.place p) (sym c.in-None.is) ∙ here) (c.loop-place.invariant.rest ms have);
    }
