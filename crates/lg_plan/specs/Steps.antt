-- The events of a plan as they are kept, each with its volumes and its stripes.
use Rattle.std.specs.Prelude.{◌≡◌, ℕ, ◌+◌, ◌^◌, ◌<◌, List, length, map}
use Rattle.lg_types.specs.declared.records.Event.{Event}
use Rattle.lg_book.specs.declared.volumes.FirstVolumes.{FirstVolumes}
use Rattle.lg_turns.specs.declared.stripes.StripeSet.{StripeSet}
use Rattle.lg_turns.specs.Stripes.{has}
use Rattle.lg_plan.specs.declared.step.Step.{Step}
use Rattle.lg_plan.specs.Events.{any_touches}

abbrev pub event_of : Step → Event
event_of step = step.event

abbrev pub volumes_of : Step → FirstVolumes
volumes_of step = step.volumes

abbrev pub events_in : List Step → List Event
events_in steps = map event_of steps

abbrev pub volumes_in : List Step → List FirstVolumes
volumes_in steps = map volumes_of steps

-- places are numbers of 64 bits, and the set has the stripes that the events touch
pub record IsPlan (place : ℕ) (steps : List Step) (stripes : StripeSet) : Type 0 where
  pub places : place + length steps < 2 ^ 64
  pub touched : (k : ℕ) → has stripes k ≡ any_touches (events_in steps) k
