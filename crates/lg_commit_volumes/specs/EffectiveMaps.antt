-- Maps of volumes that are kept once while both orders have the same.
use Rattle.std.specs.Prelude.{◌≡◌, ℕ, List, Option, Some, None}
use Rattle.lg_views.specs.Pairs.{AccountMap, put_pair}
use Rattle.lg_book.specs.declared.volumes.FirstVolumes.{FirstVolumes}
use Rattle.lg_commit_volumes.specs.declared.pairs.PairVolumes.{PairVolumes}
use Rattle.lg_commit_volumes.specs.declared.maps.EffectiveMaps.{EffectiveMaps}

abbrev pub pre_effective : AccountMap → Option EffectiveMaps → AccountMap
pre_effective pre None = pre
pre_effective pre (Some maps) = maps.pre_commit_volumes

abbrev pub post_effective : AccountMap → Option EffectiveMaps → AccountMap
post_effective post None = post
post_effective post (Some maps) = maps.post_commit_volumes

-- the four maps: without maps of its own the order of effective dates has those of the order of entry
abbrev pub maps_seen : AccountMap → AccountMap → Option EffectiveMaps → FirstVolumes
maps_seen pre post effective = record {
  pre_commit_volumes = pre;
  post_commit_volumes = post;
  pre_commit_effective_volumes = pre_effective pre effective;
  post_commit_effective_volumes = post_effective post effective;
}

-- volumes that are the same in both orders
abbrev pub IsAlike : PairVolumes → Type 0
IsAlike v = (v.pre_commit_effective ≡ v.pre_commit) × (v.post_commit_effective ≡ v.post_commit)

-- what both orders share, or has maps for each
abbrev pub FitsIn : PairVolumes → Option EffectiveMaps → Type 0
FitsIn v None = IsAlike v
FitsIn v (Some maps) = Unit {0}

abbrev pub effective_with : List ℕ → List ℕ → PairVolumes → Option EffectiveMaps → Option EffectiveMaps
effective_with account asset v None = None
effective_with account asset v (Some maps) = Some (record {
  pre_commit_volumes = put_pair maps.pre_commit_volumes account asset v.pre_commit_effective;
  post_commit_volumes = put_pair maps.post_commit_volumes account asset v.post_commit_effective;
})
