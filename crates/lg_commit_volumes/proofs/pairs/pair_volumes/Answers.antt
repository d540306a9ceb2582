use Rattle.std.specs.List.{flat_map}
use Rattle.lg_types.specs.Moves.{total}
use Rattle.lg_types.specs.Trial.{tried_moves}
use Rattle.lg_commit_volumes.specs.Lent.{moves_before}
use Rattle.lg_commit_volumes.proofs.SumLemmas.{ranked_sum}
use Rattle.lg_commit_volumes.proofs.pairs.pair_volumes.Goals as goal

pub both-requires-2 : goal.both-requires-2
both-requires-2 g c =
    ranked_sum c.args.own.now.transaction.now c.args.account.now c.args.asset.now (moves_before (g.S.Shards.lent c.args.shards.now) c.args.ledger.now c.args.earlier.now c.args.account.now c.args.asset.now)
    c.before_in-before.result c.own_volumes-moved.result (total (flat_map tried_moves c.args.own.now.transaction.now.postings) c.args.account.now c.args.asset.now) c.before_in-before.ensures
    c.own_volumes-moved.ensures c.requires.limit
