use Rattle.std.proofs.Common.{◌∙◌, sym}
use Rattle.lg_types.specs.Log.{log}
use Rattle.lg_weigh.specs.Weighing.{kept_in}
use Rattle.lg_listed.proofs.AppendLemmas.{kept-append, first_says, second_says}
use Rattle.lg_listed.proofs.keys.find_kept.Goals as goal

pub returns-in-Some : goal.returns-in-Some
returns-in-Some g c = λ events parts.
    let h = log events c.args.ledger.now in
    first_says (kept_in h c.args.key.now) (kept_in c.args.earlier.now c.args.key.now) _ c.in-Some.kept (kept-append c.args.key.now h c.args.earlier.now) (sym (c.kept_logged.ensures events parts) ∙ c.in-Some.is)

pub returns-in-None : goal.returns-in-None
returns-in-None g c = λ events parts.
    let h = log events c.args.ledger.now in
    c.kept_earlier.ensures
    ∙ second_says (kept_in h c.args.key.now) (kept_in c.args.earlier.now c.args.key.now) _ (kept-append c.args.key.now h c.args.earlier.now) (sym (c.kept_logged.ensures events parts) ∙ c.in-None.is)
