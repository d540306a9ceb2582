use Rattle.std.proofs.Common.{length}
use Rattle.lg_batch.proofs.Numbered.{Goes}
use Rattle.lg_batch.proofs.script.read_lines.Given as goal

abbrev pub decreases-lines : goal.decreases-lines
decreases-lines g l = length l.rest

abbrev pub invariant-lines : goal.invariant-lines
invariant-lines g l = Goes l.fn.bytes l.lines.items l.number l.phase l.rest
