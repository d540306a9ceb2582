use Rattle.lg_plan.proofs.StepLemmas.{applied-none, step-comes-first, step-applied}
use Rattle.lg_plan.proofs.shards.apply_to_shard.Goals as goal

pub loop-i-init : goal.loop-i-init
loop-i-init c = applied-none c.args.shard.now c.args.place c.args.steps.now c.requires.prepared

pub apply_step-requires : goal.apply_step-requires
apply_step-requires c = step-comes-first c.args.shard.now c.loop-i.shard c.args.place c.args.steps.now c.loop-i.i c.index-steps-i.result c.loop-i.invariant c.loop-i-test.true c.index-steps-i.is

pub loop-i-preserved : goal.loop-i-preserved
loop-i-preserved c = step-applied c.args.shard.now c.loop-i.shard c.apply_step.new.shard c.args.place c.args.steps.now c.loop-i.i c.index-steps-i.result c.loop-i.invariant c.apply_step.ensures c.loop-i-test.true c.index-steps-i.is
