use Rattle.std.proofs.lemmas.Result.{IfOk-weaker}
use Rattle.lg_decide.proofs.WriteLemmas.{as_created, as_reverted, as_set, as_dropped}
use Rattle.lg_decide.proofs.writes.decide_write.Goals as goal

pub returns-in-Create : goal.returns-in-Create
returns-in-Create c =
    IfOk-weaker c.decide_creation.result _ _
    (λ d h g shows. as_created g c.args.date.now c.args.write.now c.args.looked.now c.args.trial d c.in-Create.postings c.in-Create.reference c.in-Create.timestamp c.in-Create.metadata c.in-Create.accounts _ c.in-Create.is (h g) shows)
    c.decide_creation.ensures

pub returns-in-Revert : goal.returns-in-Revert
returns-in-Revert c =
    IfOk-weaker c.decide_revert.result _ _
    (λ d h g shows. as_reverted g c.args.date.now c.args.write.now c.args.looked.now c.args.trial d c.in-Revert.id _ c.in-Revert.at_effective_date c.in-Revert.is (h g _) shows)
    c.decide_revert.ensures

pub returns-in-SetMeta : goal.returns-in-SetMeta
returns-in-SetMeta c =
    IfOk-weaker c.decide_set.result _ _
    (λ d h g shows. as_set g c.args.date.now c.args.write.now c.args.looked.now c.args.trial d c.in-SetMeta.target c.in-SetMeta.metadata c.in-SetMeta.is (h g) shows)
    c.decide_set.ensures

pub returns-in-DropMeta : goal.returns-in-DropMeta
returns-in-DropMeta c =
    IfOk-weaker c.decide_drop.result _ _
    (λ d h g shows. as_dropped g c.args.date.now c.args.write.now c.args.looked.now c.args.trial d c.in-DropMeta.target c.in-DropMeta.name c.in-DropMeta.is (h g) shows)
    c.decide_drop.ensures
