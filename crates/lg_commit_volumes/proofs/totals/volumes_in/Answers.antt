use Rattle.std.proofs.Common.{◌∙◌, sym, ap}
use Rattle.std.specs.Option.{option_copied}
use Rattle.lg_commit_volumes.proofs.TotalLemmas.{no_asset}
use Rattle.lg_commit_volumes.proofs.totals.volumes_in.Goals as goal

pub returns-in-None : goal.returns-in-None
returns-in-None c =
    c.zero.ensures ∙ no_asset c.args.totals.now c.bytes.result.now c.args.account.now c.args.asset.now (sym (ap option_copied c.in-None.is) ∙ c.find.ensures) c.bytes.ensures.value
