use Rattle.std.proofs.Common.{◌∙◌, sym, ap}
use Rattle.std.specs.Option.{option_copied}
use Rattle.lg_commit_volumes.proofs.HeldLemmas.{no_account}
use Rattle.lg_commit_volumes.proofs.maps.has_pair.Goals as goal

pub returns-in-None : goal.returns-in-None
returns-in-None c =
    no_account c.args.map.now c.bytes.result.now c.args.account.now c.args.asset.now (sym (ap option_copied c.in-None.is) ∙ c.find.ensures) c.bytes.ensures.value
