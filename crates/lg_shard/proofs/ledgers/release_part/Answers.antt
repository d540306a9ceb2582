use Rattle.std.proofs.Common.{length-append, arith}
use Rattle.lg_shard.specs.Holdings.{own_markings, own_references}
use Rattle.lg_shard.proofs.HistoryTies.{histories-kept}
use Rattle.lg_shard.proofs.TieLemmas.{moves-slots}
use Rattle.lg_shard.proofs.ledgers.release_part.Goals as goal

pub returns : goal.returns
returns c done ahead tied =
    let marks = length-append ahead.markings (own_markings c.args.stripe c.args.ledger.now c.args.entry.now) in
    let named = length-append ahead.references (own_references c.args.stripe c.args.ledger.now c.args.entry.now) in
    let keys = tied.keys.room in let references = tied.references.room in
    record {
      moves = moves-slots _ _ c.forget_changes.ensures.slots _ _ (c.release_moves.ensures.tied _ _ tied.moves);
      histories = c.forget_changes.ensures.tied _ _ (histories-kept _ _ c.release_moves.ensures.histories _ _ tied.histories);
      keys = record { known = tied.keys.known; room = omega arith };
      references = record { known = tied.references.known; room = omega arith };
    }
