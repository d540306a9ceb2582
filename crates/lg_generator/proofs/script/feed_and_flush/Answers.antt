use Rattle.lg_base.specs.Waiting.{waiting}
use Rattle.lg_batch.proofs.Buffering.{fed_whole, fed_in_part, flushed, stopped_early}
use Rattle.lg_generator.specs.Made.{made_script}
use Rattle.lg_generator.proofs.script.feed_and_flush.Goals as goal

pub returns-in_err-make_script-clause-written : goal.returns-in_err-make_script-clause-written
returns-in_err-make_script-clause-written g c =
    stopped_early g.K.Sink c.args.feed.now.sink.now c.make_script.new.to.sink.now _ c.from_residual.result _ c.from_residual.ensures.0
    (fed_in_part (λ f. g.K.Sink.written f.sink.now) (λ f. waiting f.buffer.now) _ _ _ _ _ _ c.in_err-make_script.ensures c.requires.waits)
    c.in_err-make_script.ensures.cause

pub returns-clause-written : goal.returns-clause-written
returns-clause-written g c =
    flushed g.K.Sink c.args.feed.now.sink.now c.make_script.new.to.sink.now c.flush.new.self.sink.now (waiting c.make_script.new.to.buffer.now) (waiting c.flush.new.self.buffer.now) (made_script c.args.seed c.args.lines) c.flush.result
    (fed_whole (λ f. g.K.Sink.written f.sink.now) (λ f. waiting f.buffer.now) _ _ _ _ _ _ c.in_ok-make_script.ensures c.requires.waits)
    c.in_ok-make_script.ensures.cause.later c.flush.ensures.passed c.flush.ensures.empty
