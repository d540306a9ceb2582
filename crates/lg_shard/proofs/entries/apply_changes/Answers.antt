use Rattle.lg_shard.proofs.HistoryTies.{histories-applied, ready-room, ready-later}
use Rattle.lg_shard.proofs.entries.apply_changes.Goals as goal

pub apply_body-requires-clause-room : goal.apply_body-requires-clause-room
apply_body-requires-clause-room c = let r = c.requires in ready-room c.args.accounts.now c.args.stripe c.args.ledger.now c.args.entry.now r.0 r.1 r.2

pub apply_body-requires-clause-later : goal.apply_body-requires-clause-later
apply_body-requires-clause-later c = let r = c.requires in ready-later c.args.accounts.now c.args.stripe c.args.ledger.now c.args.entry.now r.0 r.1 r.2 r.3

pub returns-clause-tied : goal.returns-clause-tied
returns-clause-tied c = histories-applied c.args.accounts.now c.apply_body.new.accounts c.args.stripe c.args.ledger.now c.args.entry.now c.apply_body.ensures.histories
