use Rattle.std.proofs.Common.{◌∙◌, sym}
use Rattle.lg_types.specs.Known.{used}
use Rattle.lg_types.specs.Log.{log}
use Rattle.lg_listed.proofs.AppendLemmas.{used-append, first_says, second_says}
use Rattle.lg_listed.proofs.references.find_reference.Goals as goal

pub returns-in-Some : goal.returns-in-Some
returns-in-Some g c = λ events parts.
    let h = log events c.args.ledger.now in
    first_says (used h c.args.reference.now) (used c.args.earlier.now c.args.reference.now) _ c.in-Some.id (used-append c.args.reference.now h c.args.earlier.now) (sym (c.used_logged.ensures events parts) ∙ c.in-Some.is)

pub returns-in-None : goal.returns-in-None
returns-in-None g c = λ events parts.
    let h = log events c.args.ledger.now in
    c.used_earlier.ensures
    ∙ second_says (used h c.args.reference.now) (used c.args.earlier.now c.args.reference.now) _ (used-append c.args.reference.now h c.args.earlier.now) (sym (c.used_logged.ensures events parts) ∙ c.in-None.is)
