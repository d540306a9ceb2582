use Rattle.lg_shard.proofs.NamedLemmas.{place-filled}
use Rattle.lg_shard.proofs.readers.pair_at.Goals as goal

pub unreachable-requires : goal.unreachable-requires
unreachable-requires g c = place-filled c.args.names.now c.args.place c.requires _ c.get.result c.in-None.is c.get.ensures
