use Rattle.std.proofs.Common.{◌≡◌, ◌+◌, [], get_or, set, sym, subst, arith}
use Rattle.lg_plan.specs.Stages.{shards_at, AreTurned}
use Rattle.lg_plan.proofs.ShardLemmas.{turned-at, turned-set, turned-end, turned-same}
use Rattle.lg_plan.proofs.carry.prepare_on_shards.Goals as goal

pub returns-in-Err-clause-err : goal.returns-in-Err-clause-err
returns-in-Err-clause-err c = λ es fits shards.
    c.forget_all.ensures es
    (turned-same es [] c.args.plan.now.events c.loop-stripe.stripe c.from.result c.loop-stripe.shards.items c.index_mut.result.now c.prepare_touched.new.shard (c.loop-stripe.invariant es fits shards) c.index_mut.ensures.value c.in-Err.ensures.err)

pub loop-stripe-preserved : goal.loop-stripe-preserved
loop-stripe-preserved c = λ es fits shards.
    let h = c.loop-stripe.invariant es fits shards in
    let here = turned-at c.loop-stripe.stripe (shards_at es []) (shards_at es c.args.plan.now.events) c.loop-stripe.shards.items c.index_mut.result.now h
    (omega (arith, c.loop-stripe-test.true, h.count))
    (subst (λ j. c.index_mut.result.now ≡ get_or c.loop-stripe.shards.items j c.index_mut.result.now) c.from.ensures c.index_mut.ensures.value) in
    subst (λ j. AreTurned (c.loop-stripe.stripe + 1) (shards_at es []) (shards_at es c.args.plan.now.events) (set c.loop-stripe.shards.items j c.prepare_touched.new.shard)) (sym c.from.ensures)
    (turned-set c.loop-stripe.stripe (shards_at es []) (shards_at es c.args.plan.now.events) c.loop-stripe.shards.items c.prepare_touched.new.shard h (c.in-Ok.ensures.ok es fits here))

pub returns-clause-ok : goal.returns-clause-ok
returns-clause-ok c = λ es fits shards.
    turned-end es c.args.plan.now.events (shards_at es []) c.loop-stripe.stripe c.loop-stripe.shards.items (omega (arith, c.loop-stripe-test.false)) (c.loop-stripe.invariant es fits shards)
