use Rattle.std.proofs.Common.{◌∙◌, arith}
use Rattle.std.proofs.lemmas.Int.{ints}
use Rattle.lg_shard.specs.Histories.{given_count}
use Rattle.lg_shard.proofs.HistoryLemmas.{applied-step, applied-room, applied-later}
use Rattle.lg_shard.proofs.changes.apply_given.Goals as goal

pub apply_own-requires-clause-room : goal.apply_own-requires-clause-room
apply_own-requires-clause-room c a =
    applied-room c.args.given.now c.loop-pair.pair-index c.pair-item.result c.loop-pair-test.true c.pair-item.is c.args.date.now (given_count c.args.stripe c.args.ledger.now a) _ _ (c.loop-pair.invariant.histories a) (c.requires.room a)

pub apply_own-requires-clause-later : goal.apply_own-requires-clause-later
apply_own-requires-clause-later c a =
    applied-later c.args.given.now c.loop-pair.pair-index c.pair-item.result c.loop-pair-test.true c.pair-item.is c.args.date.now (given_count c.args.stripe c.args.ledger.now a) _ _ (c.loop-pair.invariant.histories a) (c.requires.later a) (omega (arith, ints))

pub loop-pair-preserved : goal.loop-pair-preserved
loop-pair-preserved c =
    let given = c.args.given.now in let i = c.loop-pair.pair-index in let p = c.pair-item.result in let before = c.loop-pair.invariant in let after = c.apply_own.ensures in
    record {
      slots = λ a b. after.slots a b ∙ before.slots a b;
      histories = λ a. applied-step given i p c.loop-pair-test.true c.pair-item.is c.args.date.now (given_count c.args.stripe c.args.ledger.now a) _ _ (before.histories a) _ (after.histories a);
    }
