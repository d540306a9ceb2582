use Rattle.std.proofs.Common.{[], ◌∷◌, ◌++◌, ap₂, ◌∙◌}
use Rattle.std.proofs.lemmas.Result.{IfOk-weaker}
use Rattle.lg_types.specs.declared.records.Event.TheVariants.{Logged}
use Rattle.lg_types.specs.Log.{log}
use Rattle.lg_views.specs.Replies.{plain}
use Rattle.lg_views.specs.Writes.{first_reply}
use Rattle.lg_plan.specs.Plans.{first_plan, with_event}
use Rattle.lg_decide.proofs.planning.plan_entry.Goals as goal

pub volumes_of-requires : goal.volumes_of-requires
volumes_of-requires g c = (c.args.book.now.events, c.requires)

pub returns : goal.returns
returns g c =
    let after = log c.args.book.now.events c.args.ledger.now ++ c.args.entry ∷ [] in
    let volumes = c.in_ok-volumes.ensures c.args.book.now.events c.requires in
    IfOk-weaker c.plan_shown.result _ _
    (λ plan h. h after volumes ∙ ap₂ (λ place shown. with_event (first_plan place (plain (first_reply after c.args.entry))) (Logged c.args.ledger.now c.args.entry) shown) c.len.ensures.len volumes)
    c.plan_shown.ensures
