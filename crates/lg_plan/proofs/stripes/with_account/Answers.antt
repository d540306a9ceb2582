use Rattle.std.proofs.Common.{◌||◌, ap, ◌∙◌}
use Rattle.std.specs.Prelude.{nat_eq}
use Rattle.lg_turns.specs.Stripes.{has}
use Rattle.lg_plan.proofs.StripeLemmas.{same_number}
use Rattle.lg_plan.proofs.stripes.with_account.Goals as goal

pub returns : goal.returns
returns c = λ k. c.with.ensures k ∙ ap (λ b. b || has c.args.set k) (same_number k c.stripe_of.result ∙ ap (λ s. nat_eq s k) c.stripe_of.ensures.value)
