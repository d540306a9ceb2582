-- The volumes of one account and one asset around a transaction.
use Rattle.std.specs.Prelude.{ℕ, Bool, List}
use Rattle.std.specs.List.{flat_map}
use Rattle.lg_base.specs.Volumes.{sum_of, IsWithinLimit}
use Rattle.lg_types.specs.declared.moves.Move.{Move}
use Rattle.lg_types.specs.declared.records.Transaction.{Transaction}
use Rattle.lg_types.specs.Moves.{Placed, volumes, total}
use Rattle.lg_types.specs.Tally.{tally, total_of, is_ranked_before}
use Rattle.lg_types.specs.Trial.{tried_moves}
use Rattle.lg_commit_volumes.specs.declared.before.PairBefore.{PairBefore}
use Rattle.lg_commit_volumes.specs.declared.pairs.PairVolumes.{PairVolumes}

-- whether a move is before the transaction in the order of effective dates and ids
abbrev pub precedes : Transaction → Move → Bool
precedes t m = is_ranked_before t.timestamp t.id m

-- what the moves before the transaction come to
abbrev pub before_of : Transaction → List Move → PairBefore
before_of t ms = record { all = total_of ms; ranked = tally (precedes t) ms }

-- the same with more moves of the account and the asset
abbrev pub with_moves : Transaction → PairBefore → List Placed → List ℕ → List ℕ → PairBefore
with_moves t before ms account asset = record { all = sum_of before.all (total ms account asset); ranked = sum_of before.ranked (volumes ms (precedes t) account asset) }

pub record AreWithinLimit (before : PairBefore) : Type 0 where
  pub all : IsWithinLimit before.all
  pub ranked : IsWithinLimit before.ranked

-- without the transaction's own postings, and with them
abbrev pub around : Transaction → PairBefore → List ℕ → List ℕ → PairVolumes
around t before account asset = record {
  pre_commit = before.all;
  post_commit = sum_of before.all (total (flat_map tried_moves t.postings) account asset);
  pre_commit_effective = before.ranked;
  post_commit_effective = sum_of before.ranked (total (flat_map tried_moves t.postings) account asset);
}
