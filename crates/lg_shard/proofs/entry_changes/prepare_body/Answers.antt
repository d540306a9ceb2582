use Rattle.std.proofs.Common.{ap, sym, ◌∙◌}
use Rattle.std.specs.List.{flat_map}
use Rattle.std.proofs.lemmas.Result.{on_ok_weaker}
use Rattle.lg_shard.specs.Accounts.{history_at}
use Rattle.lg_shard.specs.Histories.{body_on, own_given, with_all_prepared}
use Rattle.lg_shard.proofs.HistoryLemmas.{on-given}
use Rattle.lg_shard.proofs.entry_changes.prepare_body.Goals as goal

pub returns-in-NewTransaction-clause-ok : goal.returns-in-NewTransaction-clause-ok
returns-in-NewTransaction-clause-ok c =
    let s = c.args.stripe in let l = c.args.ledger.now in
    on_ok_weaker c.prepare_given.result
    (λ h date a. h a
    ∙ ap (with_all_prepared (history_at c.args.accounts.now a))
    (ap (flat_map (own_given s l a)) c.entries.ensures ∙ sym (on-given s l a date c.in-NewTransaction.transaction c.in-NewTransaction.given) ∙ ap (λ b. body_on s l date b a) (sym c.in-NewTransaction.is)))
    c.prepare_given.ensures.ok
