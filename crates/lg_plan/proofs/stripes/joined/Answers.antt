use Rattle.std.specs.Int.{bit_at}
use Rattle.std.specs.Prelude.{nat_eq}
use Rattle.std.proofs.Common.{◌∙◌}
use Rattle.lg_turns.specs.Stripes.{has}
use Rattle.lg_plan.proofs.StripeLemmas.{joined_start, joined_step, joined_end}
use Rattle.lg_plan.proofs.stripes.joined.Goals as goal

pub loop-stripe-init : goal.loop-stripe-init
loop-stripe-init c = λ k. joined_start k (has c.args.one k) (has c.args.other k)

pub loop-stripe-preserved : goal.loop-stripe-preserved
loop-stripe-preserved c = λ k. joined_step k c.loop-stripe.stripe (has c.args.one k) (has c.args.other k) (has c.loop-stripe.all k) (has c.with_common-all.result k) (c.loop-stripe.invariant k) (c.with_common-all.ensures k)

pub returns : goal.returns
returns c = λ k. c.loop-stripe.invariant k ∙ joined_end k c.loop-stripe.stripe (has c.args.one k) (nat_eq (bit_at c.args.other.bits k) 1) c.loop-stripe-test.false
