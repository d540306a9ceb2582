use Rattle.std.proofs.Common.{◌≡◌, ℕ, ◌+◌, ◌≤◌, List, ◌++◌, take, drop, sum_by}
use Rattle.std.specs.List.{flat_map}
use Rattle.lg_shard.specs.Accounts.{items_at, waiting_at, SameHistories}
use Rattle.lg_shard.specs.Holdings.{MovesFollow}
use Rattle.lg_shard.specs.Sides.{posting_count, posting_items}
use Rattle.lg_shard.proofs.entry_moves.apply_postings.Given as goal

abbrev pub invariant-loop-posting : goal.invariant-loop-posting
invariant-loop-posting g l = record {
  items : (a b : List ℕ) → items_at l.accounts a b ≡ items_at l.fn.accounts a b ++ flat_map (posting_items l.stripe l.ledger l.transaction.id l.inserted l.transaction.timestamp a b) (take l.posting-index l.postings);
  room : (a b : List ℕ) → waiting_at l.accounts a b + sum_by (posting_count l.stripe l.ledger a b) (take l.posting-index l.postings) ≡ waiting_at l.fn.accounts a b;
  enough : (a b : List ℕ) → sum_by (posting_count l.stripe l.ledger a b) (drop l.posting-index l.postings) ≤ waiting_at l.accounts a b;
  follows : (a b : List ℕ) → MovesFollow (items_at l.accounts a b) (flat_map (posting_items l.stripe l.ledger l.transaction.id l.inserted l.transaction.timestamp a b) (drop l.posting-index l.postings));
  histories : SameHistories l.fn.accounts l.accounts;
}
