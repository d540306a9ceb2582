use Rattle.lg_plan.proofs.ShardLemmas.{shards-parts}
use Rattle.lg_plan.proofs.carry.prepare_all.Goals as goal

pub returns-in-Err-clause-same_shards : goal.returns-in-Err-clause-same_shards
returns-in-Err-clause-same_shards c =
    c.forget_all.ensures c.args.book.now.events
    (shards-parts c.args.book.now.events c.args.plan.now.events c.prepare_on_shards.new.shards.items (c.in_ok-prepare_on_shards.ensures.ok c.args.book.now.events c.requires.fits c.requires.shards))
