use Rattle.std.proofs.Common.{◌∙◌, sym, ap}
use Rattle.std.specs.Option.{option_copied}
use Rattle.lg_types.specs.Log.{log}
use Rattle.lg_decide.specs.Looking.{transaction_at}
use Rattle.lg_listed.proofs.AppendLemmas.{transaction-append, first_says, second_says}
use Rattle.lg_listed.proofs.looking.find_transaction.Goals as goal

pub returns-in-Some : goal.returns-in-Some
returns-in-Some c =
    let h = log c.args.book.now.events c.args.ledger.now in
    first_says (transaction_at h c.args.id) (transaction_at c.args.earlier.now c.args.id) _ c.in-Some.found.now (transaction-append c.args.id h c.args.earlier.now) (sym c.transaction.ensures ∙ ap option_copied c.in-Some.is)

pub returns-in-None : goal.returns-in-None
returns-in-None c =
    let h = log c.args.book.now.events c.args.ledger.now in
    c.find_made.ensures
    ∙ second_says (transaction_at h c.args.id) (transaction_at c.args.earlier.now c.args.id) _ (transaction-append c.args.id h c.args.earlier.now) (sym c.transaction.ensures ∙ ap option_copied c.in-None.is)
