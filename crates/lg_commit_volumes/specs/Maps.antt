-- The four maps of volumes of a transaction, pair by pair.
use Rattle.std.specs.Prelude.{◌≡◌, ℕ, List, [], ◌∷◌, Option, Some, IsSome}
use Rattle.std.specs.List.{flat_map}
use Rattle.std.specs.Option.{unwrap_or}
use Rattle.lg_base.specs.declared.amounts.Volumes.{Volumes}
use Rattle.lg_base.specs.Volumes.{IsWithinLimit}
use Rattle.lg_containers.specs.NameTable as table
use Rattle.lg_types.specs.declared.records.Posting.{Posting}
use Rattle.lg_types.specs.Moves.{total}
use Rattle.lg_types.specs.Trial.{tried_moves}
use Rattle.lg_views.specs.Pairs.{AccountMap, put_pair}
use Rattle.lg_book.specs.declared.volumes.FirstVolumes.{FirstVolumes}
use Rattle.lg_commit_volumes.specs.declared.pairs.PairVolumes.{PairVolumes}

-- the volumes that a map has of an account and an asset
abbrev pub pair_in : AccountMap → List ℕ → List ℕ → Option Volumes
pair_in m account asset = table.get (unwrap_or (table.get m account) table.empty) asset

abbrev pub nothing : Volumes
nothing = record { input = 0; output = 0 }

-- the same, nothing where the map has none
abbrev pub total_in : AccountMap → List ℕ → List ℕ → Volumes
total_in m account asset = unwrap_or (pair_in m account asset) nothing

-- what the postings move of the pair is within the limit
abbrev pub IsTotalWithin : List Posting → List ℕ × List ℕ → Type 0
IsTotalWithin ps pair = IsWithinLimit (total (flat_map tried_moves ps) pair.0 pair.1)

-- the map has what the postings move of each account and asset
abbrev pub AreTotals : AccountMap → List Posting → Type 0
AreTotals m ps = (account asset : List ℕ) → total_in m account asset ≡ total (flat_map tried_moves ps) account asset

-- the maps with the volumes of an account and an asset
abbrev pub put_four : FirstVolumes → List ℕ → List ℕ → PairVolumes → FirstVolumes
put_four maps account asset v = record {
  pre_commit_volumes = put_pair maps.pre_commit_volumes account asset v.pre_commit;
  post_commit_volumes = put_pair maps.post_commit_volumes account asset v.post_commit;
  pre_commit_effective_volumes = put_pair maps.pre_commit_effective_volumes account asset v.pre_commit_effective;
  post_commit_effective_volumes = put_pair maps.post_commit_effective_volumes account asset v.post_commit_effective;
}

-- the maps with those of both accounts of a posting
abbrev pub put_both : (List ℕ → List ℕ → PairVolumes) → FirstVolumes → Posting → FirstVolumes
put_both f maps p = put_four (put_four maps p.source p.asset (f p.source p.asset)) p.destination p.asset (f p.destination p.asset)

abbrev pub put_all : (List ℕ → List ℕ → PairVolumes) → FirstVolumes → List Posting → FirstVolumes
put_all f maps [] = maps
put_all f maps (p ∷ ps) = put_all f (put_both f maps p) ps

-- each of the maps has its volumes of an account and an asset
pub record HasFour (maps : FirstVolumes) (account asset : List ℕ) (v : PairVolumes) : Type 0 where
  pub pre_commit : pair_in maps.pre_commit_volumes account asset ≡ Some v.pre_commit
  pub post_commit : pair_in maps.post_commit_volumes account asset ≡ Some v.post_commit
  pub pre_commit_effective : pair_in maps.pre_commit_effective_volumes account asset ≡ Some v.pre_commit_effective
  pub post_commit_effective : pair_in maps.post_commit_effective_volumes account asset ≡ Some v.post_commit_effective

-- where the first of the maps has an account and an asset, all have `f` of them
abbrev pub HasOnly : (List ℕ → List ℕ → PairVolumes) → FirstVolumes → Type 0
HasOnly f maps = (account asset : List ℕ) → IsSome (pair_in maps.pre_commit_volumes account asset) → HasFour maps account asset (f account asset)
