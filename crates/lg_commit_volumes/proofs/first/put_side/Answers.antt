use Rattle.lg_commit_volumes.proofs.AroundLemmas.{read}
use Rattle.lg_commit_volumes.proofs.HeldLemmas.{held_again}
use Rattle.lg_commit_volumes.proofs.first.put_side.Goals as goal

pub returns-then-has_pair : goal.returns-then-has_pair
returns-then-has_pair g c =
    held_again (read (g.S.Shards.lent c.args.shards.now) c.args.ledger.now c.args.earlier.now c.args.own.now.transaction.now) c.args.maps.now c.args.account.now c.args.asset.now c.has_pair.result c.has_pair.ensures c.if-has_pair.true c.requires.held
