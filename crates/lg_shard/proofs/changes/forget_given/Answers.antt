use Rattle.std.proofs.Common.{◌∙◌}
use Rattle.lg_shard.specs.Histories.{given_count}
use Rattle.lg_shard.proofs.HistoryLemmas.{without-step}
use Rattle.lg_shard.proofs.changes.forget_given.Goals as goal

pub loop-pair-preserved : goal.loop-pair-preserved
loop-pair-preserved c =
    let given = c.args.given.now in let i = c.loop-pair.pair-index in let p = c.pair-item.result in let before = c.loop-pair.invariant in let after = c.forget_own.ensures in
    record {
      slots = λ a b. after.slots a b ∙ before.slots a b;
      histories = λ a. without-step given i p c.loop-pair-test.true c.pair-item.is (given_count c.args.stripe c.args.ledger.now a) _ _ _ (before.histories a) (after.histories a);
    }
