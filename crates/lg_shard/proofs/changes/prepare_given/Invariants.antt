use Rattle.std.proofs.Common.{◌≡◌, ℕ, List, take}
use Rattle.std.specs.List.{flat_map}
use Rattle.lg_shard.specs.Accounts.{history_at, SameSlots}
use Rattle.lg_shard.specs.Histories.{own_given, with_all_prepared}
use Rattle.lg_shard.proofs.changes.prepare_given.Given as goal

abbrev pub invariant-loop-done : goal.invariant-loop-done
invariant-loop-done l = record {
  slots : SameSlots l.fn.accounts l.accounts;
  histories : (a : List ℕ) → history_at l.accounts a ≡ with_all_prepared (history_at l.fn.accounts a) (flat_map (own_given l.stripe l.ledger a) (take l.done l.given));
}
