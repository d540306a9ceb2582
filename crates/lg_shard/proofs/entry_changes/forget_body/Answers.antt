use Rattle.std.proofs.Common.{ap, sym, length, sum_by, ◌∙◌}
use Rattle.lg_shard.specs.Accounts.{history_at}
use Rattle.lg_shard.specs.Histories.{body_on, given_count, without_last}
use Rattle.lg_shard.proofs.HistoryLemmas.{count-body}
use Rattle.lg_shard.proofs.entry_changes.forget_body.Goals as goal

pub returns-in-NewTransaction-clause-histories : goal.returns-in-NewTransaction-clause-histories
returns-in-NewTransaction-clause-histories c date a =
    let s = c.args.stripe in let l = c.args.ledger.now in
    c.forget_given.ensures.histories a
    ∙ ap (without_last (history_at c.args.accounts.now a))
    (ap (sum_by (given_count s l a)) c.entries.ensures ∙ sym (count-body s l a date c.in-NewTransaction.transaction c.in-NewTransaction.given) ∙ ap (λ b. length (body_on s l date b a)) (sym c.in-NewTransaction.is))
