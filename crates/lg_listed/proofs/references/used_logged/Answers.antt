use Rattle.std.proofs.Common.{◌∙◌, sym, ap}
use Rattle.lg_types.specs.declared.classes.Class.TheVariants.{Reference as ReferenceClass}
use Rattle.lg_types.specs.Stripes.{stripe}
use Rattle.lg_listed.proofs.ShardLemmas.{reference_in_log}
use Rattle.lg_listed.proofs.references.used_logged.Goals as goal

pub returns : goal.returns
returns g c = λ events parts.
    let there = ap (g.S.Shards.lent c.args.lent.now) (sym (c.stripe_of.ensures.value ∙ ap (stripe ReferenceClass c.args.ledger.now) c.bytes.ensures.value)) ∙ sym c.in-Some.ensures.lent in
    c.reference.ensures ∙ reference_in_log (g.S.Shards.lent c.args.lent.now) c.args.ledger.now c.args.reference.now events parts c.in-Some.shard.now there
