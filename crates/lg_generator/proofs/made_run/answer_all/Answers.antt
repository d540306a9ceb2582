use Rattle.std.proofs.Common.{◌∙◌, w64}
use Rattle.std.proofs.lemmas.Int.{to_z-of_z}
use Rattle.lg_generator.proofs.Counting.{begins, more_at, ends_at}
use Rattle.lg_generator.proofs.made_run.answer_all.Goals as goal

pub loop-line-init : goal.loop-line-init
loop-line-init c = begins c.args.lines.now _ c.requires.first

pub loop-line-preserved : goal.loop-line-preserved
loop-line-preserved c =
    more_at c.args.lines.now _ _ c.loop-line.line-index c.line-item.result c.call-answer.result c.loop-line.accepted c.one_if_accepted-accepted.result c.loop-line.invariant c.loop-line-test.true c.line-item.is
    (rw (to_z-of_z w64 c.moment_of.result (record { sfits = c.moment_of.type_inv }) ∙ c.moment_of.ensures) at c.call-answer.ensures) c.one_if_accepted-accepted.ensures.value c.one_if_accepted-accepted.ensures.small

pub returns : goal.returns
returns c = ends_at c.args.lines.now _ c.loop-line.line-index c.loop-line.accepted c.loop-line.invariant c.loop-line-test.false
