use Rattle.std.proofs.Common.{ap, take, sum_by, ◌∙◌}
use Rattle.std.specs.List.{flat_map}
use Rattle.lg_shard.specs.Accounts.{history_at}
use Rattle.lg_shard.specs.Histories.{given_count, own_given, without_last}
use Rattle.lg_shard.proofs.HistoryLemmas.{without-prepared, count-given}
use Rattle.lg_shard.proofs.changes.prepare_given.Goals as goal

pub returns-in-Err-clause-err : goal.returns-in-Err-clause-err
returns-in-Err-clause-err c a =
    let s = c.args.stripe in let l = c.args.ledger.now in let done = take c.loop-done.done c.args.given.now in
    c.forget_given.ensures.histories a
    ∙ ap (λ h. without_last h (sum_by (given_count s l a) done)) (c.in-Err.ensures.err a ∙ c.loop-done.invariant.histories a)
    ∙ without-prepared (history_at c.args.accounts.now a) (flat_map (own_given s l a) done) (sum_by (given_count s l a) done) (count-given s l a done)
