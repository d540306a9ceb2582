use Rattle.std.proofs.Common.{ap, sym, ◌∙◌, w64}
use Rattle.std.specs.Option.{option_copied}
use Rattle.std.proofs.lemmas.Int.{to_z-of_z}
use Rattle.lg_types.specs.Log.{log}
use Rattle.lg_listed.proofs.AppendLemmas.{date_last, later_is}
use Rattle.lg_listed.proofs.last.date_for.Goals as goal

pub returns-in-Some : goal.returns-in-Some
returns-in-Some c =
    to_z-of_z w64 c.later.result (record { sfits = c.later.type_inv })
    ∙ later_is c.in-Some.entry.now c.args.now.now _ _ (to_z-of_z w64 c.bring-moment.result (record { sfits = c.bring-moment.type_inv }) ∙ c.bring-moment.ensures) c.later.ensures
    ∙ date_last (log c.args.book.now.events c.args.ledger.now) c.args.earlier.now c.in-Some.entry.now c.args.now.now (sym c.last.ensures.value ∙ ap option_copied c.in-Some.is)
