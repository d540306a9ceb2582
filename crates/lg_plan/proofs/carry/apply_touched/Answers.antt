use Rattle.std.proofs.Common.{List, sym, ap, ◌∙◌}
use Rattle.lg_types.specs.declared.records.Event.{Event}
use Rattle.lg_plan.specs.Events.{any_touches}
use Rattle.lg_plan.specs.Plans.{PlanState}
use Rattle.lg_plan.specs.Steps.{events_in}
use Rattle.lg_plan.proofs.ShardLemmas.{touched-applied, untouched-applied}
use Rattle.lg_plan.proofs.carry.apply_touched.Goals as goal

pub returns-then-has : goal.returns-then-has
returns-then-has c = λ es len at.
    touched-applied c.args.stripe c.plan.inside.place es c.args.plan.now.events (events_in c.deref.result.now) c.args.shard.now c.apply_to_shard.new.shard c.apply_to_shard.ensures
    (ap events_in c.deref.ensures.value ∙ ap (λ (p : PlanState). p.events) c.plan.view_is)
    (len ∙ sym (ap (λ (p : PlanState). p.place) c.plan.view_is)) at

pub returns-else-has : goal.returns-else-has
returns-else-has c = λ es len at.
    untouched-applied c.args.stripe es c.args.plan.now.events c.args.shard.now at
    (ap (λ (xs : List Event). any_touches xs c.args.stripe) (sym (ap (λ (p : PlanState). p.events) c.plan.view_is)) ∙ sym (c.plan.invariant.touched c.args.stripe) ∙ sym c.has.ensures ∙ c.if-has.false)
