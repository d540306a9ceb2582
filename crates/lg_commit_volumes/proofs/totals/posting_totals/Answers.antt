use Rattle.lg_commit_volumes.proofs.TotalLemmas.{gathered_first, gathered_next, gathered_all, side_within, sides_within}
use Rattle.lg_commit_volumes.proofs.totals.posting_totals.Goals as goal

pub add_posting-requires-clause-source : goal.add_posting-requires-clause-source
add_posting-requires-clause-source c =
    let ps = c.args.postings.now in let i = c.loop-posting.posting-index in let p = c.posting-item.result in
    side_within ps i p c.loop-posting.totals p.source c.loop-posting-test.true c.posting-item.is c.loop-posting.invariant (sides_within ps i p c.requires c.loop-posting-test.true c.posting-item.is).0

pub add_posting-requires-clause-destination : goal.add_posting-requires-clause-destination
add_posting-requires-clause-destination c =
    let ps = c.args.postings.now in let i = c.loop-posting.posting-index in let p = c.posting-item.result in
    side_within ps i p c.loop-posting.totals p.destination c.loop-posting-test.true c.posting-item.is c.loop-posting.invariant (sides_within ps i p c.requires c.loop-posting-test.true c.posting-item.is).1

pub loop-posting-init : goal.loop-posting-init
loop-posting-init c = gathered_first c.args.postings.now c.new-totals.result c.new-totals.ensures

pub loop-posting-preserved : goal.loop-posting-preserved
loop-posting-preserved c =
    gathered_next c.args.postings.now c.loop-posting.posting-index c.posting-item.result c.loop-posting.totals c.add_posting.new.totals c.loop-posting-test.true c.posting-item.is c.in_ok-add_posting.ensures c.loop-posting.invariant

pub returns : goal.returns
returns c = gathered_all c.args.postings.now c.loop-posting.posting-index c.loop-posting.totals c.loop-posting-test.false c.loop-posting.invariant
