use Rattle.std.proofs.Common.{◌≡◌, ap, subst}
use Rattle.std.proofs.lemmas.Result.{IfOk-weaker}
use Rattle.lg_types.specs.Moves.{body_transaction}
use Rattle.lg_decide.specs.Deciding.{MayShowBody}
use Rattle.lg_decide.proofs.GroundLemmas.{shown-volumes}
use Rattle.lg_decide.proofs.planning.volumes_of.Goals as goal

pub returns-in-NewTransaction : goal.returns-in-NewTransaction
returns-in-NewTransaction g c =
    IfOk-weaker c.first_volumes.result _ _
    (λ volumes h events may. shown-volumes (g.S.Shards.lent c.args.lent.now) c.args.ledger.now c.in-NewTransaction.transaction volumes events c.args.entry.now h (ap body_transaction c.in-NewTransaction.is)
    (subst (MayShowBody (g.S.Shards.lent c.args.lent.now) events c.args.ledger.now) c.in-NewTransaction.is may))
    c.first_volumes.ensures

pub returns-in-Reverted : goal.returns-in-Reverted
returns-in-Reverted g c =
    IfOk-weaker c.first_volumes-in-Reverted.result _ _
    (λ volumes h events may. shown-volumes (g.S.Shards.lent c.args.lent.now) c.args.ledger.now c.in-Reverted.transaction volumes events c.args.entry.now h (ap body_transaction c.in-Reverted.is)
    (subst (MayShowBody (g.S.Shards.lent c.args.lent.now) events c.args.ledger.now) c.in-Reverted.is may))
    c.first_volumes-in-Reverted.ensures
