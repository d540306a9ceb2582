use Rattle.std.proofs.Common.{ap}
use Rattle.std.proofs.lemmas.Result.{IfOk-weaker}
use Rattle.lg_types.specs.Moves.{body_transaction}
use Rattle.lg_bulk.proofs.VolumeLemmas.{are-lent, are-within, shown-volumes}
use Rattle.lg_bulk.proofs.volumes.volumes_of.Goals as goal

pub first_volumes-requires : goal.first_volumes-requires
first_volumes-requires g c =
    let lent = g.S.Shards.lent c.args.lent.now in
    let may = c.requires.1 in
    record {
      lent = are-lent lent c.requires.0 c.args.ledger.now c.args.earlier.now c.args.entry.now may c.in-NewTransaction.transaction;
      limit = are-within lent c.requires.0 c.args.ledger.now c.args.earlier.now c.args.entry.now may c.in-NewTransaction.transaction (ap body_transaction c.in-NewTransaction.is);
    }

pub first_volumes-requires-in-Reverted : goal.first_volumes-requires-in-Reverted
first_volumes-requires-in-Reverted g c =
    let lent = g.S.Shards.lent c.args.lent.now in
    let may = c.requires.1 in
    record {
      lent = are-lent lent c.requires.0 c.args.ledger.now c.args.earlier.now c.args.entry.now may c.in-Reverted.transaction;
      limit = are-within lent c.requires.0 c.args.ledger.now c.args.earlier.now c.args.entry.now may c.in-Reverted.transaction (ap body_transaction c.in-Reverted.is);
    }

pub returns-in-NewTransaction : goal.returns-in-NewTransaction
returns-in-NewTransaction g c =
    IfOk-weaker c.first_volumes.result _ _
    (λ volumes h events may. shown-volumes (g.S.Shards.lent c.args.lent.now) c.args.ledger.now c.args.earlier.now c.in-NewTransaction.transaction volumes events c.args.entry.now h (ap body_transaction c.in-NewTransaction.is) may)
    c.first_volumes.ensures

pub returns-in-Reverted : goal.returns-in-Reverted
returns-in-Reverted g c =
    IfOk-weaker c.first_volumes-in-Reverted.result _ _
    (λ volumes h events may. shown-volumes (g.S.Shards.lent c.args.lent.now) c.args.ledger.now c.args.earlier.now c.in-Reverted.transaction volumes events c.args.entry.now h (ap body_transaction c.in-Reverted.is) may)
    c.first_volumes-in-Reverted.ensures
