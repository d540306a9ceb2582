use Rattle.std.proofs.Common.{◌≡◌, ℕ, List, take, sum_by}
use Rattle.lg_shard.specs.Accounts.{history_at, SameSlots}
use Rattle.lg_shard.specs.Histories.{given_count, with_applied}
use Rattle.lg_shard.proofs.changes.apply_given.Given as goal

abbrev pub invariant-loop-pair : goal.invariant-loop-pair
invariant-loop-pair l = record {
  slots : SameSlots l.fn.accounts l.accounts;
  histories : (a : List ℕ) → history_at l.accounts a ≡ with_applied l.date (history_at l.fn.accounts a) (sum_by (given_count l.stripe l.ledger a) (take l.pair-index l.given));
}
