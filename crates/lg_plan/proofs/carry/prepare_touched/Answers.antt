use Rattle.std.proofs.Common.{List, sym, ap, ◌∙◌}
use Rattle.lg_types.specs.declared.records.Event.{Event}
use Rattle.lg_plan.specs.Events.{any_touches}
use Rattle.lg_plan.specs.Plans.{PlanState}
use Rattle.lg_plan.proofs.ShardLemmas.{shard-untouched}
use Rattle.lg_plan.proofs.carry.prepare_touched.Goals as goal

pub returns-else-has-clause-ok : goal.returns-else-has-clause-ok
returns-else-has-clause-ok c = λ es fits at.
    at
    ∙ shard-untouched c.args.stripe es c.args.plan.now.events
    (ap (λ (xs : List Event). any_touches xs c.args.stripe) (sym (ap (λ (p : PlanState). p.events) c.plan.view_is)) ∙ sym (c.plan.invariant.touched c.args.stripe) ∙ sym c.has.ensures ∙ c.if-has.false)
