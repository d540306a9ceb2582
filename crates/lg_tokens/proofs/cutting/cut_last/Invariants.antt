use Rattle.std.proofs.Common.{◌≡◌, ℕ, ◌<◌, ◌≤◌, List, ◌∷◌, ◌++◌, length}
use Rattle.lg_tokens.specs.Parts.{Lacks}
use Rattle.lg_tokens.proofs.cutting.cut_last.Given as goal

abbrev pub invariant-loop-end : goal.invariant-loop-end
invariant-loop-end l = record {
  within : l.end ≤ length l.bytes;
  before : (front more : List ℕ) → Lacks l.mark more → l.bytes ≡ front ++ l.mark ∷ more → length front < l.end;
}

abbrev pub decreases-loop-end : goal.decreases-loop-end
decreases-loop-end l = l.end
