use Rattle.lg_commit_volumes.proofs.SumLemmas.{next_within, sum_next, sum_done}
use Rattle.lg_listed.proofs.amounts.with_postings.Goals as goal

pub both-sum-requires : goal.both-sum-requires
both-sum-requires c =
    next_within c.args.account.now c.args.asset.now c.args.postings.now c.loop-posting.posting-index c.posting-item.result c.loop-posting.sum c.posting_volumes.result _
    c.loop-posting-test.true c.posting-item.is c.posting_volumes.ensures c.loop-posting.invariant c.requires

pub loop-posting-preserved : goal.loop-posting-preserved
loop-posting-preserved c =
    sum_next c.args.account.now c.args.asset.now c.args.postings.now c.loop-posting.posting-index c.posting-item.result c.loop-posting.sum c.posting_volumes.result c.both-sum.result _
    c.loop-posting-test.true c.posting-item.is c.posting_volumes.ensures c.both-sum.ensures c.loop-posting.invariant

pub returns : goal.returns
returns c = sum_done c.args.account.now c.args.asset.now c.args.postings.now c.loop-posting.posting-index c.loop-posting.sum _ c.loop-posting-test.false c.loop-posting.invariant
