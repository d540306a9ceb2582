use Rattle.std.proofs.Common.{◌≡◌, [], length}
use Rattle.std.specs.Prelude.{IfOk, Ok, Err}
use Rattle.lg_base.specs.Waiting.{waiting}
use Rattle.lg_batch.proofs.Buffering.{fed_whole, fed_in_part, flushed, stopped_early}
use Rattle.lg_batch.proofs.run.feed_and_flush.Goals as goal

pub returns-in_err-feed_output-clause-written : goal.returns-in_err-feed_output-clause-written
returns-in_err-feed_output-clause-written g c =
    let h = c.in_err-feed_output.ensures in (
      h.0,
      h.1,
      stopped_early g.K.Sink c.args.feed.now.sink.now c.feed_output.new.to.sink.now _ c.from_residual.result _ c.from_residual.ensures.0
          (fed_in_part (λ f. g.K.Sink.written f.sink.now) (λ f. waiting f.buffer.now) _ _ _ _ _ _ h.2 c.requires.waits)
          h.2.cause,
    )

pub returns-clause-written : goal.returns-clause-written
returns-clause-written g c =
    let h = c.in_ok-feed_output.ensures in (
      h.0,
      h.1,
      flushed g.K.Sink c.args.feed.now.sink.now c.feed_output.new.to.sink.now c.flush.new.self.sink.now (waiting c.feed_output.new.to.buffer.now) (waiting c.flush.new.self.buffer.now) h.0 c.flush.result
          (fed_whole (λ f. g.K.Sink.written f.sink.now) (λ f. waiting f.buffer.now) _ _ _ _ _ _ h.2 c.requires.waits)
          h.2.cause.later c.flush.ensures.passed c.flush.ensures.empty,
    )
