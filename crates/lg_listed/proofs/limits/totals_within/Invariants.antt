use Rattle.std.proofs.Common.{ℕ, ◌<◌}
use Rattle.std.specs.Prelude.{IfSome}
use Rattle.lg_shard.specs.Shown.{AreWithinLimit}
use Rattle.lg_listed.proofs.limits.totals_within.Given as goal

abbrev pub invariant-loop-stripe : goal.invariant-loop-stripe
invariant-loop-stripe g l = (k : ℕ) → k < l.stripe → IfSome (g.S.Shards.lent l.lent k) (λ state. AreWithinLimit state.shares)
