use Rattle.std.proofs.Common.{◌≡◌, ◌+◌, ◌++◌, take, drop}
use Rattle.lg_types.specs.Parts.{part_from}
use Rattle.lg_plan.specs.Events.{own_events}
use Rattle.lg_plan.specs.Steps.{events_in}
use Rattle.lg_plan.proofs.shards.apply_to_shard.Given as goal

abbrev pub invariant-loop-i : goal.invariant-loop-i
invariant-loop-i l = l.shard ≡ record {
  stripe = l.fn.shard.stripe;
  shares = l.fn.shard.shares ++ part_from l.place l.fn.shard.stripe (events_in (take l.i l.steps));
  prepared = own_events l.fn.shard.stripe (l.place + l.i) (events_in (drop l.i l.steps));
}
