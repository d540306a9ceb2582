use Rattle.std.proofs.Common.{ap₂, ◌∙◌}
use Rattle.std.proofs.lemmas.Result.{IfOk-weaker}
use Rattle.lg_plan.specs.Plans.{first_plan, with_event}
use Rattle.lg_decide.proofs.planning.plan_shown.Goals as goal

pub returns : goal.returns
returns c =
    IfOk-weaker c.one_event.result _ _
    (λ plan is g shown. is ∙ ap₂ (λ reply event. with_event (first_plan c.args.place reply) event c.args.volumes) (c.in_ok-reply.ensures g shown) c.in_ok-event.ensures)
    c.one_event.ensures
