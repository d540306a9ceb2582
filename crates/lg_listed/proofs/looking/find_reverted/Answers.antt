use Rattle.std.proofs.Common.{◌∙◌, sym}
use Rattle.lg_types.specs.Log.{log}
use Rattle.lg_decide.specs.Looking.{reverted_by}
use Rattle.lg_listed.proofs.AppendLemmas.{reverted-append, first_says, second_says}
use Rattle.lg_listed.proofs.looking.find_reverted.Goals as goal

pub returns-in-Some : goal.returns-in-Some
returns-in-Some c =
    let h = log c.args.book.now.events c.args.ledger.now in
    first_says (reverted_by h c.args.id) (reverted_by c.args.earlier.now c.args.id) _ c.in-Some.by (reverted-append c.args.id h c.args.earlier.now) (sym c.reverted_by.ensures ∙ c.in-Some.is)

pub returns-in-None : goal.returns-in-None
returns-in-None c =
    let h = log c.args.book.now.events c.args.ledger.now in
    c.find_reverting.ensures
    ∙ second_says (reverted_by h c.args.id) (reverted_by c.args.earlier.now c.args.id) _ (reverted-append c.args.id h c.args.earlier.now) (sym c.reverted_by.ensures ∙ c.in-None.is)
