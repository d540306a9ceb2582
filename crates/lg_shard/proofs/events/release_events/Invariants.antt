use Rattle.std.proofs.Common.{◌-◌, List, length, take}
use Rattle.lg_types.specs.Parts.{Share}
use Rattle.lg_shard.specs.Held.{all_shown}
use Rattle.lg_shard.specs.State.{all_shares}
use Rattle.lg_shard.specs.Ties.{LedgersTied}
use Rattle.lg_shard.proofs.events.release_events.Given as goal

abbrev pub invariant-loop-count : goal.invariant-loop-count
invariant-loop-count l = (shares : List Share) → LedgersTied l.fn.ledgers shares (all_shares l.stripe (all_shown l.events)) → LedgersTied l.ledgers shares (all_shares l.stripe (all_shown (take (length l.events - l.count) l.events)))
