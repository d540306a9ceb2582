use Rattle.std.proofs.Common.{ap}
use Rattle.std.proofs.Math.Seq.{map-set_same}
use Rattle.lg_shard.specs.Held.{shown}
use Rattle.lg_shard.proofs.events.take_names.Goals as goal

pub returns-clause-shown : goal.returns-clause-shown
returns-clause-shown c = map-set_same shown c.args.events.now.items c.args.place _ c.index_mut-kept.result.now (ap shown c.index_mut-kept.ensures.value)
