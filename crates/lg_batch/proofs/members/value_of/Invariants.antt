use Rattle.std.proofs.Common.{◌≡◌, drop}
use Rattle.lg_codec.specs.Seen.{members_seen}
use Rattle.lg_readings.specs.Values as values
use Rattle.lg_batch.proofs.members.value_of.Given as goal

abbrev pub invariant-loop-member : goal.invariant-loop-member
invariant-loop-member l =
    values.value_of l.name (members_seen (drop l.member-index l.members)) ≡ values.value_of l.name (members_seen l.members)
