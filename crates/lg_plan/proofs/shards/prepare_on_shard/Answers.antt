use Rattle.lg_plan.proofs.StepLemmas.{step-follows, step-prepared}
use Rattle.lg_plan.proofs.shards.prepare_on_shard.Goals as goal

pub prepare_step-requires : goal.prepare_step-requires
prepare_step-requires c =
    let fits = c.requires.fits in
    step-follows c.args.shard.now c.loop-i.shard fits.0 c.args.place c.args.steps.now c.loop-i.i c.index-steps-i.result c.loop-i.invariant fits.1 fits.2 fits.3 c.loop-i-test.true c.index-steps-i.is

pub loop-i-preserved : goal.loop-i-preserved
loop-i-preserved c = step-prepared c.args.shard.now c.loop-i.shard c.prepare_step.new.shard c.args.place c.args.steps.now c.loop-i.i c.index-steps-i.result c.loop-i.invariant c.in-Ok.ensures.ok c.loop-i-test.true c.index-steps-i.is
