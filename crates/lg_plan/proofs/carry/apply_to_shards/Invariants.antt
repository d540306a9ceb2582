use Rattle.std.proofs.Common.{◌≡◌, List, [], ◌++◌, length}
use Rattle.lg_types.specs.declared.records.Event.{Event}
use Rattle.lg_plan.specs.Events.{AreShards}
use Rattle.lg_plan.specs.Stages.{AreTurned, shards_at}
use Rattle.lg_plan.proofs.carry.apply_to_shards.Given as goal

abbrev pub invariant-loop-stripe : goal.invariant-loop-stripe
invariant-loop-stripe l = (es : List Event) → length es ≡ l.plan.place → AreShards es l.plan.events l.fn.shards.items → AreTurned l.stripe (shards_at es l.plan.events) (shards_at (es ++ l.plan.events) []) l.shards.items
