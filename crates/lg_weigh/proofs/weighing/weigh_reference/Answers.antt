use Rattle.std.proofs.Common.{◌∙◌, [], map, sym, ap, subst}
use Rattle.std.specs.Option.{option_copied, option_to_list, option_and_then}
use Rattle.lg_types.specs.Known.{used}
use Rattle.lg_types.specs.Log.{log}
use Rattle.lg_weigh.specs.Lent.{AreParts, stripes_with}
use Rattle.lg_weigh.specs.Reach.{named_reference}
use Rattle.lg_weigh.proofs.LentLemmas.{part_own}
use Rattle.lg_weigh.proofs.weighing.weigh_reference.Goals as goal

pub returns-in-Some : goal.returns-in-Some
returns-in-Some g c = λ events parts.
    let lent = g.S.Shards.lent c.args.lent.now in
    let own = subst (λ o. AreParts (stripes_with c.args.ledger.now (map named_reference (option_to_list (option_copied o)))) lent events) c.in-Some.is parts in
    c.find_reference.ensures events (part_own c.args.ledger.now (named_reference c.in-Some.reference.now) [] lent events own)
    ∙ ap (λ o. option_and_then (used (log events c.args.ledger.now)) (option_copied o)) (sym c.in-Some.is)
