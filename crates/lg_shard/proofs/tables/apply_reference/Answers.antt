use Rattle.std.proofs.Common.{sym}
use Rattle.lg_types.specs.Known.{referred_by}
use Rattle.lg_shard.proofs.TableLemmas.{own-reference, references-applied}
use Rattle.lg_shard.proofs.tables.apply_reference.Goals as goal

pub returns-in-Some-Some : goal.returns-in-Some-Some
returns-in-Some-Some c =
    let own = own-reference c.args.stripe c.args.ledger.now c.args.entry.now c.in-Some-Some.transaction.now c.in-Some-Some.reference c.args.reference (sym c.in-Some-Some.ensures) c.in-Some-Some.is-0 c.requires.reference in
    references-applied c.args.references.now _ (referred_by c.in-Some-Some.transaction.now.id c.in-Some-Some.reference) own c.requires.absent _ c.apply.ensures
