use Rattle.std.proofs.Common.{◌≡◌, take, Some}
use Rattle.lg_containers.specs.Grammar.{runs}
use Rattle.lg_containers.proofs.name.Name.read.Given as goal

abbrev pub invariant-loop-place : goal.invariant-loop-place
invariant-loop-place g l = runs g.G.Grammar.step g.G.Grammar.first (take l.place l.bytes) ≡ Some l.state
