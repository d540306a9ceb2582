use Rattle.std.proofs.Common.{◌∙◌, w64}
use Rattle.std.proofs.lemmas.Int.{to_z-of_z}
use Rattle.lg_batch.proofs.Shown.{begins, more_at, stops_at, ends_at}
use Rattle.lg_batch.proofs.run.feed_answers.Goals as goal

pub loop-line-init : goal.loop-line-init
loop-line-init g c = begins g.F.Feed c.args.to.now c.args.lines.now _ c.requires.first

pub loop-line-preserved : goal.loop-line-preserved
loop-line-preserved g c =
    more_at g.F.Feed c.args.to.now _ _ c.args.lines.now _ _ c.loop-line.line-index c.line-item.result c.call-answer.result c.loop-line.invariant c.loop-line-test.true c.line-item.is
    (rw (to_z-of_z w64 c.moment_of.result (record { sfits = c.moment_of.type_inv }) ∙ c.moment_of.ensures) at c.call-answer.ensures) c.in_ok-feed_answer.ensures

pub returns-in_err-feed_answer : goal.returns-in_err-feed_answer
returns-in_err-feed_answer g c =
    stops_at g.F.Feed c.args.to.now _ _ c.args.lines.now _ _ c.loop-line.line-index c.line-item.result c.call-answer.result _ _ c.loop-line.invariant c.loop-line-test.true c.line-item.is
    (rw (to_z-of_z w64 c.moment_of.result (record { sfits = c.moment_of.type_inv }) ∙ c.moment_of.ensures) at c.call-answer.ensures) c.in_err-feed_answer.ensures c.from_residual.ensures.0

pub returns : goal.returns
returns g c = ends_at g.F.Feed c.args.to.now _ c.args.lines.now _ c.loop-line.line-index c.loop-line.invariant c.loop-line-test.false
