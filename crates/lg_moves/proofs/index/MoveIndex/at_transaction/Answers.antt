use Rattle.lg_types.specs.Tally.{is_of_transaction_to}
use Rattle.lg_moves.proofs.SumLemmas.{tally_of_sums, tally_within}
use Rattle.lg_moves.proofs.index.MoveIndex.at_transaction.Goals as goal

pub returns-clause-value : goal.returns-clause-value
returns-clause-value g c = tally_of_sums c.sum.result (is_of_transaction_to c.args.id) c.args.self.now.items c.volumes.result c.volumes.ensures (c.sum.ensures.value)

pub returns-clause-limit : goal.returns-clause-limit
returns-clause-limit g c = tally_within c.sum.result (is_of_transaction_to c.args.id) c.args.self.now.items c.volumes.result c.volumes.ensures (c.sum.ensures.value) c.sum.ensures.bounded
