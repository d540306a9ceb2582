-- The sheet beside lent totals.
use Rattle.std.proofs.Common.{◌≡◌, ℕ, true, List, ◌++◌, sym, ◌∙◌, ap, ap₂, subst}
use Rattle.std.specs.List.{flat_map}
use Rattle.lg_base.specs.declared.amounts.Volumes.{Volumes}
use Rattle.lg_base.specs.Volumes.{IsWithinLimit, sum_of}
use Rattle.lg_types.specs.declared.records.Posting.{Posting}
use Rattle.lg_types.specs.Moves.{Placed, total}
use Rattle.lg_types.specs.Trial.{tried_moves}
use Rattle.lg_types.proofs.MoveSums.{volumes-append}
use Rattle.std.specs.Prelude.{Bool}
use Rattle.lg_sheet.specs.Working.{Working, SameVolumes}
use Rattle.lg_sheet.specs.Trials.{present, MayTry, HaveTotals, Accepted, Booked}

same_present : (totals : List ℕ → List ℕ → Volumes) (old new : Working) (b y : List ℕ) → SameVolumes old new → present totals old b y ≡ present totals new b y
same_present totals old new b y same = ap (sum_of (totals b y)) (sym (same.each b y))

-- the same volumes may be tried
pub may_same : (lends : List ℕ → Bool) (totals : List ℕ → List ℕ → Volumes) (old new : Working) (ps : List Posting) → SameVolumes old new → MayTry lends totals old ps → MayTry lends totals new ps
may_same lends totals old new ps same may = record {
  lent = may.lent;
  within = λ k d h. record {
    source = subst IsWithinLimit (same_present totals old new _ _ same) (may.within k d h).source;
    destination = subst IsWithinLimit (same_present totals old new _ _ same) (may.within k d h).destination;
  };
}

total_both : (totals : List ℕ → List ℕ → Volumes) (old new : Working) (ms accepted : List Placed) (b y : List ℕ) → SameVolumes old new → Accepted old accepted → total ms b y ≡ totals b y → total (ms ++ accepted) b y ≡ present totals new b y
total_both totals old new ms accepted b y same has is =
    volumes-append ms accepted (λ _. true) b y ∙ ap₂ (λ v w. sum_of v w) is (sym (has.each b y)) ∙ same_present totals old new b y same

-- moves with the lent totals have, with the accepted ones, those that are tried
pub have_both : (totals : List ℕ → List ℕ → Volumes) (old new : Working) (ps : List Posting) (ms accepted : List Placed) → SameVolumes old new → HaveTotals totals ps ms → Accepted old accepted → HaveTotals (present totals new) ps (ms ++ accepted)
have_both totals old new ps ms accepted same have has = record {
  each = λ k d h. record {
    source = total_both totals old new ms accepted _ _ same has (have.each k d h).source;
    destination = total_both totals old new ms accepted _ _ same has (have.each k d h).destination;
  };
}

pub accepted_more : (old mid new : Working) (ps : List Posting) → SameVolumes old mid → Booked mid new ps → (accepted : List Placed) → Accepted old accepted → Accepted new (accepted ++ flat_map tried_moves ps)
accepted_more old mid new ps same booked accepted has = record {
  each = λ b y.
      booked.each b y
      ∙ ap (λ v. sum_of v (total (flat_map tried_moves ps) b y)) (same.each b y ∙ has.each b y)
      ∙ sym (volumes-append accepted (flat_map tried_moves ps) (λ _. true) b y);
}
