use Rattle.std.proofs.Common.{◌∙◌}
use Rattle.lg_shard.specs.Sides.{posting_count, posting_items}
use Rattle.lg_shard.proofs.MoveLists.{items-step, taken-step, left-step, follows-step}
use Rattle.lg_shard.proofs.entry_moves.apply_postings.Goals as goal

pub loop-posting-preserved : goal.loop-posting-preserved
loop-posting-preserved g c =
    let ps = c.args.postings.now in let i = c.loop-posting.posting-index in let p = c.posting-item.result in
    let t = c.args.transaction.now in let s = c.args.stripe in let l = c.args.ledger.now in let before = c.loop-posting.invariant in let after = c.apply_posting.ensures in
    record {
      items = λ a b. items-step ps i p c.loop-posting-test.true c.posting-item.is (posting_items s l t.id c.args.inserted.now t.timestamp a b) _ _ _ (before.items a b) (after.items a b);
      room = λ a b. taken-step ps i p c.loop-posting-test.true c.posting-item.is (posting_count s l a b) _ _ _ (before.room a b) (after.room a b);
      enough = λ a b. left-step ps i p c.loop-posting-test.true c.posting-item.is (posting_count s l a b) _ _ (before.enough a b) (after.room a b);
      follows = λ a b. follows-step ps i p c.loop-posting-test.true c.posting-item.is (posting_items s l t.id c.args.inserted.now t.timestamp a b) _ _ (before.follows a b) (after.items a b);
      histories = λ a. after.histories a ∙ before.histories a;
    }
