use Rattle.std.proofs.Common.{arith}
use Rattle.lg_plan.proofs.ShardLemmas.{forgotten-set, forgotten-end}
use Rattle.lg_plan.proofs.carry.forget_all.Goals as goal

pub loop-i-preserved : goal.loop-i-preserved
loop-i-preserved c = λ es parts.
    let h = c.loop-i.invariant es parts in
    forgotten-set c.loop-i.i es c.loop-i.shards.items c.index_mut.result.now c.forget.new.self h
    (omega (arith, c.loop-i-test.true, c.len-i-end.ensures, c.args.shards.now.ok.0, parts.count, h.count))
    c.index_mut.ensures.value c.forget.ensures

pub returns : goal.returns
returns c = λ es parts.
    forgotten-end c.loop-i.i es c.loop-i.shards.items
    (omega (arith, c.loop-i-test.false, c.len-i-end.ensures, c.args.shards.now.ok.0, parts.count))
    (c.loop-i.invariant es parts)
