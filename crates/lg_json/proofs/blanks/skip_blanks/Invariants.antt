use Rattle.std.proofs.Common.{length, ◌-◌}
use Rattle.lg_json.specs.Tokens.{Skips}
use Rattle.lg_json.proofs.blanks.skip_blanks.Given as goal

abbrev pub invariant-loop-at : goal.invariant-loop-at
invariant-loop-at l = Skips l.bytes l.place l.at

abbrev pub decreases-loop-at : goal.decreases-loop-at
decreases-loop-at l = length l.bytes - l.at
