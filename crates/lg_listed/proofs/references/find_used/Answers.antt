use Rattle.std.proofs.Common.{◌++◌, ◌∙◌, sym, ap}
use Rattle.std.specs.Option.{option_copied, option_and_then}
use Rattle.lg_types.specs.Known.{used}
use Rattle.lg_types.specs.Log.{log}
use Rattle.lg_listed.proofs.references.find_used.Goals as goal

pub returns-in-Some : goal.returns-in-Some
returns-in-Some g c = λ events parts.
    c.find_reference.ensures events parts ∙ ap (option_and_then (used (log events c.args.ledger.now ++ c.args.earlier.now))) (sym (ap option_copied c.in-Some.is) ∙ c.reference_of.ensures)

pub returns-in-None : goal.returns-in-None
returns-in-None g c = λ events parts.
    ap (option_and_then (used (log events c.args.ledger.now ++ c.args.earlier.now))) (sym (ap option_copied c.in-None.is) ∙ c.reference_of.ensures)
