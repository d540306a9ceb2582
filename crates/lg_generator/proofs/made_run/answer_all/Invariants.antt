use Rattle.std.proofs.Common.{drop}
use Rattle.lg_generator.proofs.Counting.{Counting}
use Rattle.lg_generator.proofs.made_run.answer_all.Given as goal

abbrev pub invariant-loop-line : goal.invariant-loop-line
invariant-loop-line l = Counting l.lines l.solo (drop l.line-index l.lines) l.accepted l.line-index
