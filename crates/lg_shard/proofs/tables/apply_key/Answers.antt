use Rattle.lg_types.specs.Known.{marking}
use Rattle.lg_shard.proofs.TableLemmas.{own-key, keys-applied}
use Rattle.lg_shard.proofs.tables.apply_key.Goals as goal

pub returns-in-Some-Some : goal.returns-in-Some-Some
returns-in-Some-Some c =
    let own = own-key c.args.stripe c.args.ledger.now c.args.entry.now c.in-Some-Some.mark c.in-Some-Some.key c.args.key c.in-Some-Some.is-1 c.in-Some-Some.is-0 c.requires.key in
    keys-applied c.args.keys.now _ (marking c.args.entry.now.id c.in-Some-Some.mark) c.in-Some-Some.key own.0 own.1 c.requires.absent _ c.apply.ensures
