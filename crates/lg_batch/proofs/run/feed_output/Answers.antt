use Rattle.std.proofs.Common.{ap}
use Rattle.lg_book.specs.Booked.{Booked}
use Rattle.lg_views.specs.Output.{event_lines}
use Rattle.lg_batch.proofs.Shown.{output_stops, output_ends}
use Rattle.lg_batch.proofs.run.feed_output.Goals as goal

pub returns-in_err-feed_answers : goal.returns-in_err-feed_answers
returns-in_err-feed_answers g c = output_stops g.F.Feed _ _ c.args.lines.now _ _ c.from_residual.result c.in_err-feed_answers.ensures c.from_residual.ensures.0

pub returns : goal.returns
returns g c =
    output_ends g.F.Feed _ _ _ c.args.lines.now c.feed_answers.new.solo _ c.feed_events.result c.in_ok-feed_answers.ensures
    (rw (ap (λ (b : Booked). event_lines b.events) c.book.ensures) at c.feed_events.ensures)
