use Rattle.std.proofs.Common.{◌≡◌, ℕ, ◌||◌, drop}
use Rattle.lg_turns.specs.Stripes.{has}
use Rattle.lg_plan.proofs.StripeLemmas.{has_posting}
use Rattle.lg_plan.proofs.stripes.with_postings.Given as goal

abbrev pub invariant-loop-posting : goal.invariant-loop-posting
invariant-loop-posting l = (k : ℕ) → (has_posting k l.ledger (drop l.posting-index l.postings) || has l.all k) ≡ (has_posting k l.ledger l.postings || has l.fn.set k)
