use Rattle.lg_shard.specs.Holdings.{own_changes}
use Rattle.lg_shard.proofs.HistoryTies.{histories-forgotten}
use Rattle.lg_shard.proofs.entries.forget_changes.Goals as goal

pub returns-clause-tied : goal.returns-clause-tied
returns-clause-tied c =
    let e = c.args.entry.now in
    histories-forgotten c.args.accounts.now c.forget_body.new.accounts (own_changes c.args.stripe c.args.ledger.now e) (λ a. c.forget_body.ensures.histories e.date a)
