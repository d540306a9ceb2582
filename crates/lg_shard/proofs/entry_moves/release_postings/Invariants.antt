use Rattle.std.proofs.Common.{◌≡◌, ℕ, ◌-◌, List, take, sum_by}
use Rattle.lg_shard.specs.Accounts.{waiting_at, SameHoldings}
use Rattle.lg_shard.specs.Sides.{posting_count}
use Rattle.lg_shard.proofs.entry_moves.release_postings.Given as goal

abbrev pub invariant-loop-posting : goal.invariant-loop-posting
invariant-loop-posting l = record {
  same : SameHoldings l.fn.accounts l.accounts;
  room : (a b : List ℕ) → waiting_at l.accounts a b ≡ waiting_at l.fn.accounts a b - sum_by (posting_count l.stripe l.ledger a b) (take l.posting-index l.postings);
}
