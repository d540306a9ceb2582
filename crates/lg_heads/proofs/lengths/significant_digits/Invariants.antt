use Rattle.std.proofs.Common.{◌≡◌, length}
use Rattle.lg_heads.specs.Fields.{significant_digits}
use Rattle.lg_heads.proofs.lengths.significant_digits.Given as goal

abbrev pub invariant-loop-digits : goal.invariant-loop-digits
invariant-loop-digits l = significant_digits l.digits ≡ significant_digits l.fn.digits

abbrev pub decreases-loop-digits : goal.decreases-loop-digits
decreases-loop-digits l = length l.digits
