use Rattle.std.proofs.Common.{◌≡◌, ℕ, ◌||◌, ◌&&◌}
use Rattle.std.specs.Prelude.{nat_lt}
use Rattle.lg_turns.specs.Stripes.{has}
use Rattle.lg_plan.proofs.stripes.joined.Given as goal

abbrev pub invariant-loop-stripe : goal.invariant-loop-stripe
invariant-loop-stripe l = (k : ℕ) → has l.all k ≡ (has l.fn.one k || (nat_lt k l.stripe && has l.other k))
