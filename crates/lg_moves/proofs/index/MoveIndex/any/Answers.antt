use Rattle.lg_types.specs.Tally.{is_between}
use Rattle.lg_moves.proofs.BetweenLemmas.{any_of_count}
use Rattle.lg_moves.proofs.index.MoveIndex.any.Goals as goal

pub returns-clause-value : goal.returns-clause-value
returns-clause-value g c = any_of_count (is_between c.args.from c.args.to c.args.by_insertion) c.args.self.now.items c.sum_between.result c.sum_between.ensures.value
