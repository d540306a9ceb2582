use Rattle.std.proofs.lemmas.Result.{on_ok_weaker}
use Rattle.lg_shard.specs.Holdings.{own_changes}
use Rattle.lg_shard.proofs.HistoryTies.{histories-prepared}
use Rattle.lg_shard.proofs.entries.prepare_changes.Goals as goal

pub returns-clause-ok : goal.returns-clause-ok
returns-clause-ok c =
    let e = c.args.entry.now in
    on_ok_weaker c.prepare_body.result (λ h. histories-prepared c.args.accounts.now c.prepare_body.new.accounts (own_changes c.args.stripe c.args.ledger.now e) (λ a. h e.date a)) c.prepare_body.ensures.ok
