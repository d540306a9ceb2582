use Rattle.std.proofs.Common.{drop}
use Rattle.lg_batch.proofs.Shown.{Answering}
use Rattle.lg_batch.proofs.run.feed_answers.Given as goal

abbrev pub invariant-loop-line : goal.invariant-loop-line
invariant-loop-line g l = Answering g.F.Feed l.fn.to l.to l.lines l.solo (drop l.line-index l.lines)
