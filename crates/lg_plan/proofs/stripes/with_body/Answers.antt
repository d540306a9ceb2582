use Rattle.std.proofs.Common.{Some}
use Rattle.lg_types.specs.Known.{transaction_accounts, transaction_references}
use Rattle.lg_turns.specs.Stripes.{has}
use Rattle.lg_plan.specs.Resources.{has_references}
use Rattle.lg_plan.proofs.StripeLemmas.{given_apart}
use Rattle.lg_plan.proofs.stripes.with_body.Goals as goal

pub returns-in-NewTransaction : goal.returns-in-NewTransaction
returns-in-NewTransaction c = λ k.
    let given = rw (c.entries.ensures) at (c.with_given.ensures k) in
    let t = c.in-NewTransaction.transaction in
    rw (c.in-NewTransaction.is)
    (given_apart k c.args.ledger.now (transaction_accounts (Some t)) c.in-NewTransaction.accounts (has_references k c.args.ledger.now (transaction_references (Some t))) (has c.args.set k) (has c.with_transaction-set.result k) (has c.with_given.result k)
    (c.with_transaction-set.ensures k) given)
