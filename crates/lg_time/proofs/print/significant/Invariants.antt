use Rattle.std.proofs.Common.{◌≡◌, ◌≤◌, take}
use Rattle.lg_time.specs.Canonical.{without_trailing_zeros}
use Rattle.lg_time.proofs.print.significant.Given as goal

abbrev pub invariant-loop-count : goal.invariant-loop-count
invariant-loop-count l = (l.count ≤ 6) × (without_trailing_zeros (take l.count l.digits) ≡ without_trailing_zeros l.digits)

abbrev pub decreases-loop-count : goal.decreases-loop-count
decreases-loop-count l = l.count
