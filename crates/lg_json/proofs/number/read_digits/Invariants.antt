use Rattle.std.proofs.Common.{length, ◌-◌}
use Rattle.lg_json.proofs.Tokens.{DigitsSoFar}
use Rattle.lg_json.proofs.number.read_digits.Given as goal

abbrev pub invariant-loop-end : goal.invariant-loop-end
invariant-loop-end l = DigitsSoFar l.bytes l.at l.first l.number l.end

abbrev pub decreases-loop-end : goal.decreases-loop-end
decreases-loop-end l = length l.bytes - l.end
