use Rattle.std.proofs.Common.{◌≡◌, ◌∙◌, ◌++◌, length, take, sym, ap, subst}
use Rattle.std.specs.List.{flat_map}
use Rattle.std.proofs.Math.Seq.{take-length}
use Rattle.lg_types.specs.Trial.{reverting, tried_moves}
use Rattle.lg_sheet.specs.declared.lines.Order.TheVariants.{Reverting}
use Rattle.lg_sheet.specs.Back.{HasBooked}
use Rattle.lg_sheet.specs.Trials.{IsToldStop}
use Rattle.lg_sheet.proofs.OrderLemmas.{length-ordered}
use Rattle.lg_sheet.proofs.BookLemmas.{has_booked, totals_now}
use Rattle.lg_sheet.proofs.TrialLemmas.{told_limit, forced_revert, whole_revert}
use Rattle.lg_sheet.proofs.revert.book_revert.Goals as goal

pub returns-in-Err-clause-told : goal.returns-in-Err-clause-told
returns-in-Err-clause-told g c = λ ms have. told_limit ms (reverting c.args.postings.now) c.in-Err.stop c.args.force (c.in-Err.ensures.told ms have)

pub returns-then-force-clause-told : goal.returns-then-force-clause-told
returns-then-force-clause-told g c = λ ms have. forced_revert ms (reverting c.args.postings.now) c.args.force (c.in-Ok.ensures.told ms have) c.if-force.true

pub take_back-requires-clause-booked : goal.take_back-requires-clause-booked
take_back-requires-clause-booked g c =
    let all : take (length c.args.postings.now) (reverting c.args.postings.now) ≡ reverting c.args.postings.now =
    ap (λ n. take n (reverting c.args.postings.now)) (sym (length-ordered Reverting c.args.postings.now)) ∙ take-length (reverting c.args.postings.now) in
    subst (HasBooked c.book.new.working) (sym all) (has_booked c.args.working.now c.book.new.working (reverting c.args.postings.now) c.in-Ok.ensures.booked)

pub returns-in-Ok-find_below-clause-told : goal.returns-in-Ok-find_below-clause-told
returns-in-Ok-find_below-clause-told g c = λ ms have.
    let qs = reverting c.args.postings.now in
    whole_revert ms qs c.args.force (c.in-Ok.ensures.told ms have) c.if-force.false
    ∙ c.in-Ok-find_below.ensures.told (ms ++ flat_map tried_moves qs) (totals_now (g.B.Balances.totals c.args.lent.now) c.args.working.now c.book.new.working qs c.args.postings.now ms c.in-Ok.ensures.booked have)

pub returns-in-Err-find_below-clause-told : goal.returns-in-Err-find_below-clause-told
returns-in-Err-find_below-clause-told g c = λ ms have.
    let qs = reverting c.args.postings.now in
    subst (IsToldStop qs c.in-Err-find_below.stop) (sym (whole_revert ms qs c.args.force (c.in-Ok.ensures.told ms have) c.if-force.false))
    (c.in-Err-find_below.ensures.told (ms ++ flat_map tried_moves qs) (totals_now (g.B.Balances.totals c.args.lent.now) c.args.working.now c.book.new.working qs c.args.postings.now ms c.in-Ok.ensures.booked have))
