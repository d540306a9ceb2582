use Rattle.std.specs.Option.{option_copied}
use Rattle.lg_types.specs.Known.{accounts}
use Rattle.lg_types.specs.Log.{log}
use Rattle.lg_addresses.proofs.Listed.{found_in_order}
use Rattle.lg_addresses.proofs.walk.account_after.Goals as goal

pub returns : goal.returns
returns g c = λ events parts. found_in_order (accounts (log events c.args.ledger.now)) (option_copied c.args.after) (option_copied c.least_behind.result) (c.least_behind.ensures events parts)
