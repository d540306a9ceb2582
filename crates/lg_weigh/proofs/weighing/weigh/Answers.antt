use Rattle.std.proofs.Common.{◌∙◌, sym, ap, subst}
use Rattle.std.specs.Option.{option_copied}
use Rattle.std.proofs.lemmas.Result.{IfOk-weaker}
use Rattle.lg_weigh.specs.Lent.{AreParts}
use Rattle.lg_weigh.specs.Reach.{needs}
use Rattle.lg_weigh.specs.Weighing.{weighed}
use Rattle.lg_weigh.proofs.weighing.weigh.Goals as goal

pub returns-in-Write : goal.returns-in-Write
returns-in-Write g c =
    IfOk-weaker c.weigh_write.result _ _
    (λ w h events parts.
    h events (subst (λ call. AreParts (needs call (option_copied c.args.known)) (g.S.Shards.lent c.args.lent.now) events) c.in-Write.is parts)
    ∙ ap (λ call. weighed events call (option_copied c.args.known)) (sym c.in-Write.is))
    c.weigh_write.ensures
