use Rattle.std.proofs.Common.{◌≡◌, ℕ, ◌≤◌, ◌-◌, List, ◌∷◌, ◌++◌, length}
use Rattle.lg_tokens.specs.Parts.{Lacks}
use Rattle.lg_tokens.proofs.cutting.cut_first.Given as goal

abbrev pub invariant-loop-place : goal.invariant-loop-place
invariant-loop-place l = (front more : List ℕ) → Lacks l.mark front → l.bytes ≡ front ++ l.mark ∷ more → l.place ≤ length front

abbrev pub decreases-loop-place : goal.decreases-loop-place
decreases-loop-place l = length l.bytes - l.place
