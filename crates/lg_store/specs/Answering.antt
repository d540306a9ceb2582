-- What a call on one thread is answered, and what it adds to the events.
use Rattle.std.specs.Prelude.{◌≡◌, ℤ, List, ◌++◌, length}
use Rattle.lg_types.specs.declared.calls.Call.{Call}
use Rattle.lg_types.specs.declared.records.Event.{Event}
use Rattle.lg_views.specs.declared.answers.Answer.{Answer}
use Rattle.lg_views.specs.History.{IsAnswerTo}
use Rattle.lg_views.specs.Outcome.{outcome}
use Rattle.lg_plan.specs.Plans.{PlanState}
use Rattle.lg_store.specs.Built.{as_built}
use Rattle.lg_store.specs.declared.done.Done.{Done}

-- the answer counts the events before the call and those that it added, and its reply is the outcome of the call, or memory is wanting
-- and nothing was added
pub record Answers (old : List Event) (call : Call) (now : ℤ) (a : Answer) (new : List Event) : Type 0 where
  pub own : List Event
  pub added : new ≡ old ++ own
  pub front : a.front ≡ length old
  pub count : a.events ≡ length own
  pub reply : IsAnswerTo old (as_built call) now a.reply own

-- the outcome of a call was carried out
pub record IsDone (old : List Event) (call : Call) (now : ℤ) (new : List Event) (done : Done) : Type 0 where
  pub own : List Event
  pub added : new ≡ old ++ own
  pub count : done.events ≡ length own
  pub reply : (done.reply, own) ≡ outcome old call now

-- the events of a plan were added
pub record IsDoneBy (plan : PlanState) (old new : List Event) (done : Done) : Type 0 where
  pub added : new ≡ old ++ plan.events
  pub count : done.events ≡ length plan.events
  pub reply : done.reply ≡ plan.reply
