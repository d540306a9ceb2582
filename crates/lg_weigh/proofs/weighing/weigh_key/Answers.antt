use Rattle.std.proofs.Common.{◌∙◌, [], map, sym, ap, subst}
use Rattle.std.specs.Option.{option_to_list, option_and_then}
use Rattle.lg_types.specs.Log.{log}
use Rattle.lg_weigh.specs.Lent.{AreParts, stripes_with}
use Rattle.lg_weigh.specs.Reach.{named_key}
use Rattle.lg_weigh.specs.Weighing.{kept_in}
use Rattle.lg_weigh.proofs.LentLemmas.{part_own}
use Rattle.lg_weigh.proofs.weighing.weigh_key.Goals as goal

pub returns-in-Some : goal.returns-in-Some
returns-in-Some g c = λ events parts.
    let lent = g.S.Shards.lent c.args.lent.now in
    let own = subst (λ o. AreParts (stripes_with c.args.ledger.now (map named_key (option_to_list o))) lent events) c.in-Some.is parts in
    c.find_key.ensures events (part_own c.args.ledger.now (named_key c.in-Some.key) [] lent events own)
    ∙ ap (option_and_then (kept_in (log events c.args.ledger.now))) (sym c.in-Some.is)
