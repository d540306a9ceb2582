-- What a plan is seen as.
--     place     how many events there are before its first
--     events    the events that it adds
--     volumes   what the first reply of each event shows
--     reply     what the call is answered once they are added
--     mark      the call that adds them
use Rattle.std.specs.Prelude.{◌≡◌, ℕ, List, [], ◌∷◌, ◌++◌, length}
use Rattle.lg_types.specs.declared.marks.Mark.{Mark}
use Rattle.lg_types.specs.declared.records.Event.{Event}
use Rattle.lg_views.specs.declared.replies.Reply.{Reply}
use Rattle.lg_book.specs.declared.volumes.FirstVolumes.{FirstVolumes}
use Rattle.lg_plan.specs.Events.{AllPrepare}

pub record PlanState : Type 0 where
  pub place : ℕ
  pub events : List Event
  pub volumes : List FirstVolumes
  pub reply : Reply
  pub mark : Mark

-- the mark of a plan that isn't marked yet
abbrev pub no_mark : Mark
no_mark = record { caller = 0; line = 0 }

-- a plan without events
abbrev pub first_plan : ℕ → Reply → PlanState
first_plan place reply = record { place = place; events = []; volumes = []; reply = reply; mark = no_mark }

-- the plan with one event more
abbrev pub with_event : PlanState → Event → FirstVolumes → PlanState
with_event plan event volumes = record { place = plan.place; events = plan.events ++ event ∷ []; volumes = plan.volumes ++ volumes ∷ []; reply = plan.reply; mark = plan.mark }

abbrev pub with_mark : PlanState → Mark → PlanState
with_mark plan mark = record { place = plan.place; events = plan.events; volumes = plan.volumes; reply = plan.reply; mark = mark }

abbrev pub with_reply : PlanState → Reply → PlanState
with_reply plan reply = record { place = plan.place; events = plan.events; volumes = plan.volumes; reply = reply; mark = plan.mark }

-- a plan fits a list that is as long as its place says, where its events may be prepared at the end of the list
pub record Fits (plan : PlanState) (events : List Event) : Type 0 where
  pub place : length events ≡ plan.place
  pub prepare : AllPrepare events plan.events plan.volumes
