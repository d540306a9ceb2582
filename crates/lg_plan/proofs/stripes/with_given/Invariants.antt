use Rattle.std.proofs.Common.{◌≡◌, ℕ, ◌||◌, drop}
use Rattle.lg_turns.specs.Stripes.{has}
use Rattle.lg_plan.specs.Resources.{first_of}
use Rattle.lg_plan.proofs.StripeLemmas.{has_of}
use Rattle.lg_plan.proofs.stripes.with_given.Given as goal

abbrev pub invariant-loop-pair : goal.invariant-loop-pair
invariant-loop-pair l = (k : ℕ) → (has_of k l.ledger first_of (drop l.pair-index l.given) || has l.all k) ≡ (has_of k l.ledger first_of l.given || has l.fn.set k)
