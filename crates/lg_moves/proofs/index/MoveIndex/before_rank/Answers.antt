use Rattle.std.proofs.Common.{w64}
use Rattle.std.proofs.lemmas.Int.{to_z-of_z}
use Rattle.lg_types.specs.Tally.{is_ranked_before}
use Rattle.lg_moves.proofs.SumLemmas.{tally_of_sums, tally_within}
use Rattle.lg_moves.proofs.index.MoveIndex.before_rank.Goals as goal

pub returns-clause-value : goal.returns-clause-value
returns-clause-value g c = tally_of_sums c.sum.result (is_ranked_before c.args.date c.args.id) c.args.self.now.items c.volumes.result c.volumes.ensures (rw (to_z-of_z w64 c.args.date c.ranges.date) at c.sum.ensures.value)

pub returns-clause-limit : goal.returns-clause-limit
returns-clause-limit g c = tally_within c.sum.result (is_ranked_before c.args.date c.args.id) c.args.self.now.items c.volumes.result c.volumes.ensures (rw (to_z-of_z w64 c.args.date c.ranges.date) at c.sum.ensures.value) c.sum.ensures.bounded
