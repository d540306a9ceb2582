use Rattle.std.proofs.Common.{◌∙◌, sym, ap}
use Rattle.lg_types.specs.declared.classes.Class.TheVariants.{Key as KeyClass}
use Rattle.lg_types.specs.Stripes.{stripe}
use Rattle.lg_listed.proofs.ShardLemmas.{key_in_log}
use Rattle.lg_listed.proofs.keys.kept_logged.Goals as goal

pub returns : goal.returns
returns g c = λ events parts.
    let there = ap (g.S.Shards.lent c.args.lent.now) (sym (c.stripe_of.ensures.value ∙ ap (stripe KeyClass c.args.ledger.now) c.bytes.ensures.value)) ∙ sym c.in-Some.ensures.lent in
    c.key.ensures ∙ key_in_log (g.S.Shards.lent c.args.lent.now) c.args.ledger.now c.args.key.now events parts c.in-Some.shard.now there
