use Rattle.std.proofs.Common.{arith}
use Rattle.std.specs.List.{enumerate_from}
use Rattle.std.proofs.lemmas.List.FromFn.{length-enumerate_from}
use Rattle.lg_containers.proofs.Each.{each-more, each-stop, each-end}
use Rattle.lg_views.specs.Output.{event_line}
use Rattle.lg_batch.proofs.Placing.{event_at}
use Rattle.lg_batch.proofs.output.feed_events.Goals as goal

pub returns-in_err-feed_event_at : goal.returns-in_err-feed_event_at
returns-in_err-feed_event_at g c =
    let at = event_at c.args.book.now.events c.loop-place.place (omega (arith, c.len-place-end.ensures.len)) in
    each-stop event_line (enumerate_from 0 c.args.book.now.events) c.loop-place.place at.0 c.loop-place.invariant (omega (arith, length-enumerate_from 0 c.args.book.now.events, c.len-place-end.ensures.len)) at.1 c.from_residual.ensures.0 (rw at.2 at c.in_err-feed_event_at.ensures)

pub loop-place-preserved : goal.loop-place-preserved
loop-place-preserved g c =
    let at = event_at c.args.book.now.events c.loop-place.place (omega (arith, c.len-place-end.ensures.len)) in
    each-more event_line (enumerate_from 0 c.args.book.now.events) c.loop-place.place at.0 c.loop-place.invariant (omega (arith, length-enumerate_from 0 c.args.book.now.events, c.len-place-end.ensures.len)) at.1 (rw at.2 at c.in_ok-feed_event_at.ensures)

pub returns : goal.returns
returns g c = each-end event_line (enumerate_from 0 c.args.book.now.events) c.loop-place.place c.loop-place.invariant (omega (arith, length-enumerate_from 0 c.args.book.now.events, c.len-place-end.ensures.len))
