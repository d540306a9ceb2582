use Rattle.std.proofs.Common.{ℕ, ◌<◌}
use Rattle.std.specs.Prelude.{IfSome}
use Rattle.lg_decide.specs.Deciding.{IsLimited}
use Rattle.lg_bulk.proofs.limits.totals_within.Given as goal

abbrev pub invariant-loop-stripe : goal.invariant-loop-stripe
invariant-loop-stripe g l = (k : ℕ) → k < l.stripe → IfSome (g.S.Shards.lent l.lent k) IsLimited
