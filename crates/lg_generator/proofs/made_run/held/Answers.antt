use Rattle.std.proofs.Common.{List, ℕ, ap, sym, ◌∙◌}
use Rattle.lg_shard.specs.Shown.{account_moves}
use Rattle.lg_shard.specs.State.{StripeState}
use Rattle.lg_types.proofs.StripeKnows.{knows-moves}
use Rattle.lg_types.specs.Stripes.{stripe}
use Rattle.lg_types.specs.Tally.{total_of}
use Rattle.lg_types.specs.declared.classes.Class.TheVariants.{Account as AccountClass}
use Rattle.lg_generator.proofs.made_run.held.Goals as goal

pub returns-clause-value : goal.returns-clause-value
returns-clause-value c =
    c.held_in.ensures.value
    ∙ ap (λ (state : StripeState). total_of (account_moves state.shares c.args.ledger.now c.args.account.now c.args.asset.now)) c.in-Some.ensures.own
    ∙ ap total_of
    (knows-moves c.stripe_of.result c.args.ledger.now c.args.account.now c.args.asset.now c.args.solo.now
    (sym (c.stripe_of.ensures.value ∙ ap (λ (name : List ℕ). stripe AccountClass c.args.ledger.now name) c.bytes.ensures.value)))
