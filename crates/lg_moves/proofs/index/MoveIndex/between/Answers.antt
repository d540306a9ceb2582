use Rattle.lg_types.specs.Tally.{is_between}
use Rattle.lg_moves.proofs.SumLemmas.{tally_within}
use Rattle.lg_moves.proofs.index.MoveIndex.between.Goals as goal

pub returns-clause-limit : goal.returns-clause-limit
returns-clause-limit g c = tally_within c.sum_between.result (is_between c.args.from c.args.to c.args.by_insertion) c.args.self.now.items c.volumes.result c.volumes.ensures c.sum_between.ensures.value c.sum_between.ensures.bounded
