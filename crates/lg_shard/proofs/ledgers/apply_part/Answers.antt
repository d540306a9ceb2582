use Rattle.lg_shard.proofs.HistoryTies.{histories-kept}
use Rattle.lg_shard.proofs.TieLemmas.{moves-slots}
use Rattle.lg_shard.proofs.ledgers.apply_part.Goals as goal

pub apply_changes-requires : goal.apply_changes-requires
apply_changes-requires g c = let r = c.requires.ready in (r.0.changes, r.1.changes, histories-kept _ _ c.apply_moves.ensures.histories _ _ r.2.histories, r.3.changes)

pub returns : goal.returns
returns g c done ahead tied = record {
  moves = moves-slots _ _ c.apply_changes.ensures.slots _ _ (c.apply_moves.ensures.tied _ _ tied.moves);
  histories = c.apply_changes.ensures.tied _ _ (histories-kept _ _ c.apply_moves.ensures.histories _ _ tied.histories);
  keys = c.apply_key.ensures _ _ tied.keys;
  references = c.apply_reference.ensures _ _ tied.references;
}
