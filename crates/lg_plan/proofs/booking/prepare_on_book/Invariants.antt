use Rattle.std.proofs.Common.{◌≡◌, ◌+◌, ◌^◌, ◌<◌, take, length}
use Rattle.lg_plan.specs.Steps.{events_in}
use Rattle.lg_plan.proofs.booking.prepare_on_book.Given as goal

abbrev pub invariant-loop-i : goal.invariant-loop-i
invariant-loop-i l = record {
  state : l.book ≡ record { events = l.fn.book.events; prepared = events_in (take l.i l.steps) };
  room : length l.book.events + length l.book.prepared < 2 ^ 64;
}
