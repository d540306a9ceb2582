use Rattle.std.proofs.Common.{List}
use Rattle.lg_types.specs.declared.records.Event.{Event}
use Rattle.lg_plan.specs.Stages.{AreParts, AreForgotten}
use Rattle.lg_plan.proofs.carry.forget_all.Given as goal

abbrev pub invariant-loop-i : goal.invariant-loop-i
invariant-loop-i l = (es : List Event) → AreParts es l.fn.shards.items → AreForgotten l.i es l.shards.items
