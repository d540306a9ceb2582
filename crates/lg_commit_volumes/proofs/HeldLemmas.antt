-- The pairs that the four maps have already.
use Rattle.std.proofs.Common.{◌≡◌, ℕ, Bool, true, false, cond, ◌&&◌, List, Option, Some, None, IsSome, is_some, refl, sym, ap, ap₂, subst, ◌∙◌}
use Rattle.std.specs.Prelude.{unwrap_or}
use Rattle.std.specs.Str.{bytes_eq}
use Rattle.lg_base.specs.declared.amounts.Volumes.{Volumes}
use Rattle.lg_containers.specs.NameTable.{NameTable, get, insert, empty, get-empty, same_table}
use Rattle.lg_types.specs.declared.records.Posting.{Posting}
use Rattle.lg_shard.proofs.AccountLemmas.{bytes_same, get-change}
use Rattle.lg_views.specs.Pairs.{AccountMap, AssetMap, put_pair}
use Rattle.lg_book.specs.declared.volumes.FirstVolumes.{FirstVolumes}
use Rattle.lg_book.specs.FirstVolumes.{no_volumes}
use Rattle.lg_commit_volumes.specs.declared.pairs.PairVolumes.{PairVolumes}
use Rattle.lg_commit_volumes.specs.Maps.{pair_in, put_four, put_both, put_all, HasFour, HasOnly}
use Rattle.lg_commit_volumes.proofs.AroundLemmas.{same_four}

some_of_none : {V : Type 0} (o : Option V) → o ≡ None → IsSome o → ⊥
some_of_none None e h = cc
some_of_none (Some v) e h = cc

is_there : {V : Type 0} (o : Option V) (v : V) → o ≡ Some v → IsSome o
is_there o v h = ap is_some h

pub get_nothing : (account asset : List ℕ) → get (unwrap_or (get (empty {V = AssetMap}) account) empty) asset ≡ None
get_nothing account asset = ap (λ o. get (unwrap_or o empty) asset) (get-empty AssetMap account) ∙ get-empty Volumes asset

-- where the account isn't there, no asset of it is
pub no_account : (m : AccountMap) (name account asset : List ℕ) → None ≡ get m name → name ≡ account → false ≡ is_some (pair_in m account asset)
no_account m name account asset none same =
    sym (ap (λ o. is_some (get (unwrap_or o empty) asset)) (sym (ap (get m) same) ∙ sym none) ∙ ap is_some (get-empty Volumes asset))

-- ---- what a map has already may be put again

kept : {V : Type 0} (b : Bool) (v : V) (o : Option V) → (b ≡ true → o ≡ Some v) → cond b (Some v) o ≡ o
kept true v o h = sym (h refl)
kept false v o h = refl

insert_again : {V : Type 0} (m : NameTable V) (name : List ℕ) (v : V) → get m name ≡ Some v → insert m name v ≡ m
insert_again m name v h = same_table _ _ (λ q.
    get-change m name v q
    ∙ kept (bytes_eq name q) v (get m q) (λ e. ap (get m) (sym (bytes_same name q e)) ∙ h))

again_in : (m : AccountMap) (account asset : List ℕ) (v : Volumes) (o : Option AssetMap) → get m account ≡ o → get (unwrap_or o empty) asset ≡ Some v → insert m account (insert (unwrap_or o empty) asset v) ≡ m
again_in m account asset v None is h = absurd (some_of_none (get (empty {V = Volumes}) asset) (get-empty Volumes asset) (is_there _ v h))
again_in m account asset v (Some assets) is h = ap (insert m account) (insert_again assets asset v h) ∙ insert_again m account assets is

put_again : (m : AccountMap) (account asset : List ℕ) (v : Volumes) → pair_in m account asset ≡ Some v → put_pair m account asset v ≡ m
put_again m account asset v h = again_in m account asset v (get m account) refl h

pub four_again : (maps : FirstVolumes) (account asset : List ℕ) (v : PairVolumes) → HasFour maps account asset v → maps ≡ put_four maps account asset v
four_again maps account asset v h = sym (same_four _ _
    (put_again maps.pre_commit_volumes account asset v.pre_commit h.pre_commit)
    (put_again maps.post_commit_volumes account asset v.post_commit h.post_commit)
    (put_again maps.pre_commit_effective_volumes account asset v.pre_commit_effective h.pre_commit_effective)
    (put_again maps.post_commit_effective_volumes account asset v.post_commit_effective h.post_commit_effective))

-- ---- what a map has with one more pair

both_true : (a b : Bool) → (a && b) ≡ true → (a ≡ true) × (b ≡ true)
both_true true b h = (refl, h)
both_true false b h = absurd (let f : false ≡ true = h in cc)

assets_with : (b c : Bool) (assets : AssetMap) (asset q : List ℕ) (v : Volumes) (o : Option AssetMap) → (b ≡ true → assets ≡ unwrap_or o empty) → bytes_eq asset q ≡ c
    → get (unwrap_or (cond b (Some (insert assets asset v)) o) empty) q ≡ cond (b && c) (Some v) (get (unwrap_or o empty) q)
assets_with true c assets asset q v o same is = get-change assets asset v q ∙ ap₂ (λ d m. cond d (Some v) (get m q)) is (same refl)
assets_with false c assets asset q v o same is = refl

pub pair_in-put : (m : AccountMap) (account asset : List ℕ) (v : Volumes) (qa qs : List ℕ) → pair_in (put_pair m account asset v) qa qs ≡ cond (bytes_eq account qa && bytes_eq asset qs) (Some v) (pair_in m qa qs)
pair_in-put m account asset v qa qs =
    ap (λ o. get (unwrap_or o empty) qs) (get-change m account (insert (unwrap_or (get m account) empty) asset v) qa)
    ∙ assets_with (bytes_eq account qa) (bytes_eq asset qs) (unwrap_or (get m account) empty) asset qs v (get m qa) (λ e. ap (λ name. unwrap_or (get m name) empty) (bytes_same account qa e)) refl

-- another pair was there before
there_before : (b : Bool) (v : Volumes) (o : Option Volumes) → b ≡ false → IsSome (cond b (Some v) o) → IsSome o
there_before true v o e h = absurd (let f : true ≡ false = e in cc)
there_before false v o e h = h

here_or_before : (b : Bool) (v w : Volumes) (o : Option Volumes) → (b ≡ true → v ≡ w) → (b ≡ false → o ≡ Some w) → cond b (Some v) o ≡ Some w
here_or_before true v w o here before = ap Some (here refl)
here_or_before false v w o here before = before refl

module _ (f : List ℕ → List ℕ → PairVolumes) where
  only_put : (maps : FirstVolumes) (account asset : List ℕ) → HasOnly f maps → HasOnly f (put_four maps account asset (f account asset))
  only_put maps account asset h qa qs some =
      let is : Bool = bytes_eq account qa && bytes_eq asset qs in
      let same : is ≡ true → f account asset ≡ f qa qs = (λ e.
      let eqs = both_true (bytes_eq account qa) (bytes_eq asset qs) e in
      ap₂ f (bytes_same account qa eqs.0) (bytes_same asset qs eqs.1)) in
      let before : is ≡ false → HasFour maps qa qs (f qa qs) = (λ e.
      h qa qs (there_before is _ _ e (subst IsSome (pair_in-put maps.pre_commit_volumes account asset (f account asset).pre_commit qa qs) some))) in
      record {
        pre_commit = pair_in-put maps.pre_commit_volumes account asset _ qa qs ∙ here_or_before is _ _ _ (λ e. ap (λ v. v.pre_commit) (same e)) (λ e. (before e).pre_commit);
        post_commit = pair_in-put maps.post_commit_volumes account asset _ qa qs ∙ here_or_before is _ _ _ (λ e. ap (λ v. v.post_commit) (same e)) (λ e. (before e).post_commit);
        pre_commit_effective = pair_in-put maps.pre_commit_effective_volumes account asset _ qa qs ∙ here_or_before is _ _ _ (λ e. ap (λ v. v.pre_commit_effective) (same e)) (λ e. (before e).pre_commit_effective);
        post_commit_effective = pair_in-put maps.post_commit_effective_volumes account asset _ qa qs ∙ here_or_before is _ _ _ (λ e. ap (λ v. v.post_commit_effective) (same e)) (λ e. (before e).post_commit_effective);
      }

  pub only_next : (maps next : FirstVolumes) (account asset : List ℕ) → next ≡ put_four maps account asset (f account asset) → HasOnly f maps → HasOnly f next
  only_next maps next account asset is h = subst (HasOnly f) (sym is) (only_put maps account asset h)

  pub only_both : (maps next : FirstVolumes) (p : Posting) → next ≡ put_both f maps p → HasOnly f maps → HasOnly f next
  only_both maps next p is h =
      subst (HasOnly f) (sym is) (only_put (put_four maps p.source p.asset (f p.source p.asset)) p.destination p.asset (only_put maps p.source p.asset h))

  only_none : HasOnly f no_volumes
  only_none account asset some = absurd (some_of_none _ (get_nothing account asset) some)

  -- as the loop over the postings begins
  pub only_first : (maps : FirstVolumes) (ps : List Posting) → maps ≡ no_volumes → (put_all f maps ps ≡ put_all f no_volumes ps) × HasOnly f maps
  only_first maps ps is = (ap (λ m. put_all f m ps) is, subst (HasOnly f) (sym is) only_none)

  -- a pair that the first map has is in all four
  pub held_again : (maps : FirstVolumes) (account asset : List ℕ) (has : Bool) → has ≡ is_some (pair_in maps.pre_commit_volumes account asset) → has ≡ true → HasOnly f maps → maps ≡ put_four maps account asset (f account asset)
  held_again maps account asset has is there h =
      four_again maps account asset (f account asset) (h account asset (sym is ∙ there))
