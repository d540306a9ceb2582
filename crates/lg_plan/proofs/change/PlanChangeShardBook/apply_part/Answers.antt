use Rattle.std.proofs.Common.{sym, ap, ◌∙◌}
use Rattle.lg_plan.specs.Plans.{PlanState}
use Rattle.lg_plan.specs.Steps.{events_in}
use Rattle.lg_plan.proofs.ShardLemmas.{applied-shares}
use Rattle.lg_plan.proofs.change.PlanChangeShardBook.apply_part.Goals as goal

pub returns-clause-shares : goal.returns-clause-shares
returns-clause-shares c = λ es fits shares.
    applied-shares c.self.inside.place es c.args.self.now.events (events_in c.deref.result.now) c.args.part.now c.apply_to_shard.new.shard c.apply_to_shard.ensures
    (ap events_in c.deref.ensures.value ∙ ap (λ (p : PlanState). p.events) c.self.view_is)
    (fits.place ∙ sym (ap (λ (p : PlanState). p.place) c.self.view_is)) shares
