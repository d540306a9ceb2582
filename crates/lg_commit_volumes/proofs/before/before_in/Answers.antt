use Rattle.std.proofs.Common.{◌∙◌, sym, ap}
use Rattle.std.specs.Option.{option_copied}
use Rattle.lg_types.specs.declared.classes.Class.TheVariants.{Account as AccountClass}
use Rattle.lg_types.specs.Stripes.{stripe}
use Rattle.lg_commit_volumes.proofs.AroundLemmas.{known_within, known_before}
use Rattle.lg_commit_volumes.proofs.before.before_in.Goals as goal

pub with_entries-requires : goal.with_entries-requires
with_entries-requires g c =
    known_within (g.S.Shards.lent c.args.shards.now) c.stripe_of.result c.in-Some.shard.now c.args.transaction.now c.args.ledger.now c.args.account.now c.args.asset.now c.args.earlier.now c.shard_before-known.result
    (c.stripe_of.ensures.value ∙ ap (stripe AccountClass c.args.ledger.now) c.bytes.ensures.value) (sym (ap option_copied c.in-Some.is) ∙ c.shard.ensures.lent) c.shard_before-known.ensures c.requires.limit

pub returns : goal.returns
returns g c =
    known_before (g.S.Shards.lent c.args.shards.now) c.stripe_of.result c.in-Some.shard.now c.args.transaction.now c.args.ledger.now c.args.account.now c.args.asset.now c.args.earlier.now c.shard_before-known.result c.with_entries.result
    (c.stripe_of.ensures.value ∙ ap (stripe AccountClass c.args.ledger.now) c.bytes.ensures.value) (sym (ap option_copied c.in-Some.is) ∙ c.shard.ensures.lent) c.shard_before-known.ensures c.with_entries.ensures
