use Rattle.std.proofs.Common.{◌∙◌, sym, ap}
use Rattle.lg_types.specs.declared.classes.Class.TheVariants.{Reference as ReferenceClass}
use Rattle.lg_types.specs.Stripes.{stripe}
use Rattle.lg_weigh.proofs.WeighLemmas.{reference_known}
use Rattle.lg_weigh.proofs.weighing.find_reference.Goals as goal

pub returns : goal.returns
returns g c = λ events part.
    let there = ap (g.S.Shards.lent c.args.lent.now) (sym (c.stripe_of.ensures.value ∙ ap (stripe ReferenceClass c.args.ledger.now) c.bytes.ensures.value)) ∙ sym c.in-Some.ensures.lent in
    c.reference.ensures ∙ reference_known c.args.ledger.now c.args.reference.now events c.in-Some.shard.now (g.S.Shards.lent c.args.lent.now (stripe ReferenceClass c.args.ledger.now c.args.reference.now)) there part
