-- The four maps, as they grow pair by pair.
use Rattle.std.proofs.Common.{◌≡◌, ℕ, ◌+◌, ◌<◌, ◌≤◌, ℤ, List, [], ◌∷◌, map, length, drop, get_or, Result, Ok, Err, OnOk, refl, sym, ap, ◌∙◌}
use Rattle.std.specs.Prelude.{unwrap_or}
use Rattle.std.specs.List.{flat_map}
use Rattle.std.proofs.lemmas.List.{drop_all}
use Rattle.lg_base.specs.declared.amounts.Volumes.{Volumes}
use Rattle.lg_containers.specs.NameTable.{get, insert, empty}
use Rattle.lg_types.specs.declared.records.Posting.{Posting}
use Rattle.lg_types.specs.Lists.{Each}
use Rattle.lg_types.specs.Moves.{posting_moves}
use Rattle.lg_views.specs.Pairs.{AccountMap, AssetMap, pair_of, put_pair, with_pairs, pair_map}
use Rattle.lg_book.specs.declared.volumes.FirstVolumes.{FirstVolumes}
use Rattle.lg_commit_volumes.specs.declared.pairs.PairVolumes.{PairVolumes}
use Rattle.lg_commit_volumes.specs.Maps.{put_both, put_all}
use Rattle.lg_commit_volumes.proofs.SumLemmas.{left_here}

-- an account that is opened, and the map that its assets become
pub put_opened : {E : Type 0} (r : Result (Unit {0}) E) (m : AccountMap) (account asset : List ℕ) (fresh assets new : AssetMap) (v : Volumes)
    → fresh ≡ empty → assets ≡ unwrap_or (get m account) fresh → OnOk r (new ≡ insert assets asset v) → OnOk r (insert m account new ≡ put_pair m account asset v)
put_opened (Ok done) m account asset fresh assets new v none is put = ap (insert m account) (put ∙ ap (λ x. insert x asset v) (is ∙ ap (unwrap_or (get m account)) none))
put_opened (Err e) m account asset fresh assets new v none is put = tt

-- ---- posting by posting

module _ (f : List ℕ → List ℕ → PairVolumes) where
  pub postings_next : (ps : List Posting) (i : ℕ) (p : Posting) (maps next whole : FirstVolumes) → i < length ps → p ≡ get_or ps i p → next ≡ put_both f maps p
      → put_all f maps (drop i ps) ≡ whole → put_all f next (drop (i + 1) ps) ≡ whole
  postings_next ps i p maps next whole h is k before =
      ap (λ m. put_all f m (drop (i + 1) ps)) k ∙ ap (put_all f maps) (sym (left_here ps i p h is)) ∙ before

  pub postings_done : (ps : List Posting) (i : ℕ) (maps whole : FirstVolumes) → length ps ≤ i → put_all f maps (drop i ps) ≡ whole → maps ≡ whole
  postings_done ps i maps whole h before = sym (ap (put_all f maps) (drop_all i ps h)) ∙ before

  -- the four maps are those of the pairs of the postings' moves
  pub four_maps : (id : ℕ) (inserted effective : ℤ) (maps : FirstVolumes) (ps : List Posting) → put_all f maps ps ≡ record {
    pre_commit_volumes = with_pairs (λ a s. (f a s).pre_commit) maps.pre_commit_volumes (map pair_of (flat_map (posting_moves id inserted effective) ps));
    post_commit_volumes = with_pairs (λ a s. (f a s).post_commit) maps.post_commit_volumes (map pair_of (flat_map (posting_moves id inserted effective) ps));
    pre_commit_effective_volumes = with_pairs (λ a s. (f a s).pre_commit_effective) maps.pre_commit_effective_volumes (map pair_of (flat_map (posting_moves id inserted effective) ps));
    post_commit_effective_volumes = with_pairs (λ a s. (f a s).post_commit_effective) maps.post_commit_effective_volumes (map pair_of (flat_map (posting_moves id inserted effective) ps));
  }
  four_maps id inserted effective maps [] = refl
  four_maps id inserted effective maps (p ∷ ps) = four_maps id inserted effective (put_both f maps p) ps

pub with_pairs-same : (f g : List ℕ → List ℕ → Volumes) (m : AccountMap) (pairs : List (List ℕ × List ℕ)) → Each (λ pair. f pair.0 pair.1 ≡ g pair.0 pair.1) pairs → with_pairs f m pairs ≡ with_pairs g m pairs
with_pairs-same f g m [] h = refl
with_pairs-same f g m (pair ∷ pairs) h =
    ap (λ v. with_pairs f (put_pair m pair.0 pair.1 v) pairs) h.0
    ∙ with_pairs-same f g (put_pair m pair.0 pair.1 (g pair.0 pair.1)) pairs h.1

pub pair_map-same : (f g : List ℕ → List ℕ → Volumes) (pairs : List (List ℕ × List ℕ)) → Each (λ pair. f pair.0 pair.1 ≡ g pair.0 pair.1) pairs → pair_map f pairs ≡ pair_map g pairs
pair_map-same f g pairs h = with_pairs-same f g empty pairs h
