use Rattle.std.proofs.Common.{◌∙◌}
use Rattle.lg_accounts.proofs.There.{there_known}
use Rattle.lg_accounts.proofs.account_at.AccountAt.is_there.Goals as goal

pub returns : goal.returns
returns g c events known rise = c.is_seen.ensures ∙ there_known c.args.self.now.shard.now.shares events c.args.self.now.ledger.now c.args.self.now.address.now known c.args.assets.now c.requires.exactly rise c.args.self.now.pit
