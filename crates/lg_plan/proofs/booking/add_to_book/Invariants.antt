use Rattle.std.proofs.Common.{◌≡◌, ◌++◌, drop, length}
use Rattle.lg_plan.specs.Steps.{events_in}
use Rattle.lg_plan.proofs.booking.add_to_book.Given as goal

abbrev pub invariant-loop-step : goal.invariant-loop-step
invariant-loop-step l = l.book ≡ record { events = l.fn.book.events ++ events_in l.yielded; prepared = events_in (drop (length l.yielded) l.fn.steps.items) }
