use Rattle.std.proofs.Common.{length, ◌-◌}
use Rattle.lg_json.proofs.Tokens.{TextSoFar}
use Rattle.lg_json.proofs.text.read_mixed.Given as goal

abbrev pub invariant-pieces : goal.invariant-pieces
invariant-pieces l = TextSoFar l.bytes l.place l.text.items l.mode l.at

abbrev pub decreases-pieces : goal.decreases-pieces
decreases-pieces l = length l.bytes - l.at
