use Rattle.std.proofs.Common.{◌≡◌, take}
use Rattle.lg_plan.specs.Events.{own_events}
use Rattle.lg_plan.specs.Steps.{events_in}
use Rattle.lg_plan.proofs.shards.prepare_on_shard.Given as goal

abbrev pub invariant-loop-i : goal.invariant-loop-i
invariant-loop-i l = l.shard ≡ record { stripe = l.fn.shard.stripe; shares = l.fn.shard.shares; prepared = own_events l.fn.shard.stripe l.place (events_in (take l.i l.steps)) }
