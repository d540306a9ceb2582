use Rattle.std.proofs.Common.{◌∙◌, sym, arith}
use Rattle.lg_time.proofs.CanonicalLemmas.{at_zero, at_other}
use Rattle.lg_time.proofs.print.significant.Goals as goal

pub loop-count-preserved : goal.loop-count-preserved
loop-count-preserved c =
    (omega arith, at_zero c.args.digits.now c.loop-count.count (omega arith) (omega arith) (omega arith) ∙ c.loop-count.invariant.1)

pub returns-else-digits-count-eq48-clause-value : goal.returns-else-digits-count-eq48-clause-value
returns-else-digits-count-eq48-clause-value c =
    sym (at_other c.args.digits.now c.loop-count.count (omega arith) (omega arith) (omega arith)) ∙ c.loop-count.invariant.1
