use Rattle.std.proofs.Common.{◌∙◌, ◌++◌, map, sym, ap, subst}
use Rattle.std.specs.Option.{option_copied, option_to_list, option_and_then}
use Rattle.lg_types.specs.Known.{used}
use Rattle.lg_types.specs.Log.{log}
use Rattle.lg_types.specs.Parts.{account_resource}
use Rattle.lg_weigh.specs.Lent.{AreParts, stripes_with}
use Rattle.lg_weigh.specs.Reach.{named_key, named_reference, write_accounts, write_reference}
use Rattle.lg_weigh.proofs.LentLemmas.{parts_first, parts_second}
use Rattle.lg_weigh.proofs.WeighLemmas.{same_weighed}
use Rattle.lg_weigh.proofs.weighing.weigh_write.Goals as goal

pub returns : goal.returns
returns g c = λ events parts.
    let lent = g.S.Shards.lent c.args.lent.now in
    let ledger = c.args.ledger.now in
    let accounts = map account_resource (write_accounts c.args.write.now (option_copied c.args.known)) in
    let keys = map named_key (option_to_list c.args.key.now) in
    let references = map named_reference (option_to_list (write_reference c.args.write.now)) in
    let others = parts_second ledger accounts (keys ++ references) lent events parts in
    let own = subst (λ o. AreParts (stripes_with ledger (map named_reference (option_to_list o))) lent events) (sym c.reference_of.ensures) (parts_second ledger keys references lent events others) in
    same_weighed c.asked_hash.ensures
    (c.weigh_key.ensures events (parts_first ledger keys references lent events others))
    (c.weigh_reference.ensures events own ∙ ap (option_and_then (used (log events ledger))) c.reference_of.ensures)
    (c.in_ok-trial.ensures events (parts_first ledger accounts (keys ++ references) lent events parts))
