use Rattle.lg_commit_volumes.proofs.AroundLemmas.{read}
use Rattle.lg_commit_volumes.proofs.HeldLemmas.{only_next}
use Rattle.lg_commit_volumes.proofs.first.put_posting.Goals as goal

pub put_side-requires-2-clause-held : goal.put_side-requires-2-clause-held
put_side-requires-2-clause-held g c =
    only_next (read (g.S.Shards.lent c.args.shards.now) c.args.ledger.now c.args.earlier.now c.args.own.now.transaction.now) c.args.maps.now c.put_side.new.maps c.args.posting.now.source c.args.posting.now.asset c.in_ok-put_side.ensures c.requires.held
