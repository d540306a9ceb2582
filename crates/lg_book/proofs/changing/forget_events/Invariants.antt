use Rattle.std.proofs.Common.{◌≡◌, drop}
use Rattle.lg_book.specs.Writing.{events_forgotten}
use Rattle.lg_book.proofs.changing.forget_events.Given as goal

abbrev pub invariant-loop-event : goal.invariant-loop-event
invariant-loop-event l = events_forgotten (drop l.event-index l.events) l.ledgers ≡ events_forgotten l.events l.fn.ledgers
