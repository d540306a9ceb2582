-- Volumes worked out, before and after a place of them changes.
use Rattle.std.proofs.Common.{◌≡◌, ℕ, ◌+◌, ◌<◌, length, get_or, below_more, Bool, true, false, ◌&&◌, cond, List, Option, Some, None, IsSome, refl, sym, ◌∙◌, ap, ap₂, subst}
use Rattle.std.proofs.Common.{Ordering, Less, Equal, Greater, Result, Ok, Err, OnOk, OnErr}
use Rattle.std.specs.Option.{unwrap_or}
use Rattle.std.specs.Ordering.{is_eq, eq_by_cmp}
use Rattle.std.specs.Cmp.{eq_by_cmp_equiv}
use Rattle.std.specs.Cmp.Lexicographic.{nat_list_cmp_total}
use Rattle.std.specs.Str.{bytes_eq}
use Rattle.std.proofs.lemmas.Slice.Eq.{bytes_eq-Decides}
use Rattle.lg_base.specs.declared.amounts.Volumes.{Volumes}
use Rattle.lg_containers.specs.NameOrder.{name_order}
use Rattle.lg_containers.specs.NameTable.{NameTable, get, insert, empty, get-insert, get-empty, name_order-same}
use Rattle.std.proofs.lemmas.List.{get_or_read}
use Rattle.lg_maps.proofs.Shown.{insert-twice}
use Rattle.lg_types.specs.declared.records.Posting.{Posting}
use Rattle.lg_sheet.specs.Trials.{OfBoth}
use Rattle.lg_sheet.specs.Working.{Working, no_volumes, asset_volumes, worked, HasAsset, IsOpen, StaysOpen, SameVolumes}

equal : (o : Ordering) → is_eq o ≡ true → o ≡ Equal
equal Less e = cc
equal Equal e = refl
equal Greater e = cc

pub same_names : (q x : List ℕ) → eq_by_cmp name_order q x ≡ true → q ≡ x
same_names q x e = name_order-same q x (equal (name_order q x) e)

-- names are equal in order where their bytes are equal
pub order_eq : (q x : List ℕ) → eq_by_cmp name_order q x ≡ bytes_eq x q
order_eq q x = by_tests (eq_by_cmp name_order q x) refl (bytes_eq x q) refl
  where
    by_tests : (b : Bool) → eq_by_cmp name_order q x ≡ b → (c : Bool) → bytes_eq x q ≡ c → b ≡ c
    by_tests true h true k = refl
    by_tests true h false k = sym ((bytes_eq-Decides x q).1 (sym (same_names q x h))) ∙ k
    by_tests false h true k = sym h ∙ ap (eq_by_cmp name_order q) ((bytes_eq-Decides x q).0 k) ∙ (eq_by_cmp_equiv nat_list_cmp_total).refl q
    by_tests false h false k = refl

own_place : (w : Working) (account : List ℕ) (assets : NameTable Volumes) → get (insert w account assets) account ≡ Some assets
own_place w account assets = get-insert w account assets account ∙ ap (λ b. cond b (Some assets) (get w account)) ((eq_by_cmp_equiv nat_list_cmp_total).refl account)

chosen : (b : Bool) (v : Volumes) (o : Option Volumes) → unwrap_or (cond b (Some v) o) no_volumes ≡ cond b v (unwrap_or o no_volumes)
chosen true v o = refl
chosen false v o = refl

-- the volumes after one asset of an account has others
pub set_there : (w : Working) (account asset : List ℕ) (assets : NameTable Volumes) (v : Volumes) (b y : List ℕ) → get w account ≡ Some assets
    → worked (insert w account (insert assets asset v)) b y ≡ cond (bytes_eq account b && bytes_eq asset y) v (worked w b y)
set_there w account asset assets v b y is =
    ap (λ o. asset_volumes o y) (get-insert w account (insert assets asset v) b ∙ ap (λ t. cond t (Some (insert assets asset v)) (get w b)) (order_eq b account))
    ∙ picked (bytes_eq account b) refl
  where
    picked : (t : Bool) → bytes_eq account b ≡ t → asset_volumes (cond t (Some (insert assets asset v)) (get w b)) y ≡ cond (t && bytes_eq asset y) v (worked w b y)
    picked false e = refl
    picked true e =
        ap (λ o. unwrap_or o no_volumes) (get-insert assets asset v y ∙ ap (λ t. cond t (Some v) (get assets y)) (order_eq y asset))
        ∙ chosen (bytes_eq asset y) v (get assets y)
        ∙ ap (λ u. cond (bytes_eq asset y) v u) (sym (ap (λ o. asset_volumes o y) (ap (get w) (sym ((bytes_eq-Decides account b).0 e)) ∙ is)))

-- the same volumes written at their place
pub same_there : (w : Working) (account : List ℕ) (assets : NameTable Volumes) → get w account ≡ Some assets → SameVolumes w (insert w account assets)
same_there w account assets is = record {
  each = λ b y. ap (λ o. asset_volumes o y) (get-insert w account assets b) ∙ picked b y (eq_by_cmp name_order b account) refl;
}
  where
    picked : (b y : List ℕ) (t : Bool) → eq_by_cmp name_order b account ≡ t → asset_volumes (cond t (Some assets) (get w b)) y ≡ worked w b y
    picked b y false e = refl
    picked b y true e = sym (ap (λ o. asset_volumes o y) (ap (get w) (same_names b account e) ∙ is))

pub stays_there : (w : Working) (account : List ℕ) (old new : NameTable Volumes) → get w account ≡ Some old → ((y : List ℕ) → IsSome (get old y) → IsSome (get new y)) → StaysOpen w (insert w account new)
stays_there w account old new is more = record {
  each = λ b y h. subst (λ o. HasAsset o y) (sym (get-insert w account new b)) (kept b y h (eq_by_cmp name_order b account) refl);
}
  where
    kept : (b y : List ℕ) → IsOpen w b y → (t : Bool) → eq_by_cmp name_order b account ≡ t → HasAsset (cond t (Some new) (get w b)) y
    kept b y h false e = h
    kept b y h true e = more y (subst (λ o. HasAsset o y) (ap (get w) (same_names b account e) ∙ is) h)

either : (b : Bool) (v : Volumes) (o : Option Volumes) → IsSome o → IsSome (cond b (Some v) o)
either true v o h = refl
either false v o h = h

pub some_more : (assets : NameTable Volumes) (asset : List ℕ) (v : Volumes) (y : List ℕ) → IsSome (get assets y) → IsSome (get (insert assets asset v) y)
some_more assets asset v y h = subst (λ o. IsSome o) (sym (get-insert assets asset v y)) (either (eq_by_cmp name_order y asset) v (get assets y) h)

-- the place of an account that is open
pub place_of : (o : Option (NameTable Volumes)) (asset : List ℕ) → HasAsset o asset → IsSome o
place_of None asset h = absurd h
place_of (Some assets) asset h = refl

pub asset_there : (w : Working) (account asset : List ℕ) (assets : NameTable Volumes) → get w account ≡ Some assets → IsOpen w account asset → IsSome (get assets asset)
asset_there w account asset assets is h = subst (λ o. HasAsset o asset) is h

-- ---- a place is made for an account

-- what stands at an account that was given a place
abbrev pub placed : Option (NameTable Volumes) → NameTable Volumes
placed o = unwrap_or o empty

same_placed : (o : Option (NameTable Volumes)) (y : List ℕ) → asset_volumes (Some (placed o)) y ≡ asset_volumes o y
same_placed None y = ap (λ v. unwrap_or v no_volumes) (get-empty Volumes y)
same_placed (Some assets) y = refl

more_placed : (o : Option (NameTable Volumes)) (y : List ℕ) → HasAsset o y → HasAsset (Some (placed o)) y
more_placed None y h = absurd h
more_placed (Some assets) y h = h

pub same_opened : (w : Working) (account : List ℕ) → SameVolumes w (insert w account (placed (get w account)))
same_opened w account = record {
  each = λ b y. ap (λ o. asset_volumes o y) (get-insert w account (placed (get w account)) b) ∙ picked b y (eq_by_cmp name_order b account) refl;
}
  where
    picked : (b y : List ℕ) (t : Bool) → eq_by_cmp name_order b account ≡ t → asset_volumes (cond t (Some (placed (get w account))) (get w b)) y ≡ worked w b y
    picked b y false e = refl
    picked b y true e = same_placed (get w account) y ∙ ap (λ o. asset_volumes o y) (ap (get w) (sym (same_names b account e)))

pub stays_opened : (w : Working) (account : List ℕ) → StaysOpen w (insert w account (placed (get w account)))
stays_opened w account = record {
  each = λ b y h. subst (λ o. HasAsset o y) (sym (get-insert w account (placed (get w account)) b)) (kept b y h (eq_by_cmp name_order b account) refl);
}
  where
    kept : (b y : List ℕ) → IsOpen w b y → (t : Bool) → eq_by_cmp name_order b account ≡ t → HasAsset (cond t (Some (placed (get w account))) (get w b)) y
    kept b y h false e = h
    kept b y h true e = more_placed (get w account) y (subst (λ o. HasAsset o y) (ap (get w) (same_names b account e)) h)

-- the asset gets a place, with what it has
abbrev pub with_asset : NameTable Volumes → List ℕ → NameTable Volumes
with_asset assets asset = insert assets asset (unwrap_or (get assets asset) no_volumes)

pub same_with_asset : (w : Working) (account asset : List ℕ) (assets : NameTable Volumes) → get w account ≡ Some assets → SameVolumes w (insert w account (with_asset assets asset))
same_with_asset w account asset assets is = record {
  each = λ b y.
      set_there w account asset assets (unwrap_or (get assets asset) no_volumes) b y is
      ∙ picked b y (bytes_eq account b) refl (bytes_eq asset y) refl;
}
  where
    picked : (b y : List ℕ) (s : Bool) → bytes_eq account b ≡ s → (t : Bool) → bytes_eq asset y ≡ t → cond (s && t) (unwrap_or (get assets asset) no_volumes) (worked w b y) ≡ worked w b y
    picked b y false e t k = refl
    picked b y true e false k = refl
    picked b y true e true k =
        sym (ap (λ o. asset_volumes o asset) is)
        ∙ ap₂ (λ m n. worked w m n) ((bytes_eq-Decides account b).0 e) ((bytes_eq-Decides asset y).0 k)

pub open_with_asset : (w : Working) (account asset : List ℕ) (assets : NameTable Volumes) → IsOpen (insert w account (with_asset assets asset)) account asset
open_with_asset w account asset assets =
    subst (λ o. HasAsset o asset) (sym (own_place w account (with_asset assets asset)))
    (subst (λ o. IsSome o) (sym (get-insert assets asset (unwrap_or (get assets asset) no_volumes) asset ∙ ap (λ b. cond b (Some (unwrap_or (get assets asset) no_volumes)) (get assets asset)) ((eq_by_cmp_equiv nat_list_cmp_total).refl asset))) refl)

pub stays_with_asset : (w : Working) (account asset : List ℕ) (assets : NameTable Volumes) → get w account ≡ Some assets → StaysOpen w (insert w account (with_asset assets asset))
stays_with_asset w account asset assets is = stays_there w account assets (with_asset assets asset) is (some_more assets asset (unwrap_or (get assets asset) no_volumes))

-- ---- one after the other

pub same_twice : (u v w : Working) → SameVolumes u v → SameVolumes v w → SameVolumes u w
same_twice u v w h k = record { each = λ b y. k.each b y ∙ h.each b y }

pub stays_twice : (u v w : Working) → StaysOpen u v → StaysOpen v w → StaysOpen u w
stays_twice u v w h k = record { each = λ b y o. k.each b y (h.each b y o) }

-- a place that is made for an account, and what becomes of its assets
module _ {E : Type 0} (r : Result (Unit {0}) E) (w : Working) (account asset : List ℕ) (none old new : NameTable Volumes) (e : none ≡ empty) (is : old ≡ unwrap_or (get w account) none) where
  abbrev opened : Working
  opened = insert w account (placed (get w account))

  there : get opened account ≡ Some old
  there = own_place w account (placed (get w account)) ∙ ap Some (sym (is ∙ ap (unwrap_or (get w account)) e))

  once : (assets : NameTable Volumes) → insert opened account assets ≡ insert w account assets
  once = insert-twice w account (placed (get w account))

  same_after : (s : Result (Unit {0}) E) → OnOk s (new ≡ with_asset old asset) → OnErr s (new ≡ old) → SameVolumes opened (insert opened account new)
  same_after (Ok done) ok err = subst (λ a. SameVolumes opened (insert opened account a)) (sym ok) (same_with_asset opened account asset old there)
  same_after (Err error) ok err = subst (λ a. SameVolumes opened (insert opened account a)) (sym err) (same_there opened account old there)

  stays_after : (s : Result (Unit {0}) E) → OnOk s (new ≡ with_asset old asset) → OnErr s (new ≡ old) → StaysOpen opened (insert opened account new)
  stays_after (Ok done) ok err = subst (λ a. StaysOpen opened (insert opened account a)) (sym ok) (stays_with_asset opened account asset old there)
  stays_after (Err error) ok err = subst (λ a. StaysOpen opened (insert opened account a)) (sym err) (stays_there opened account old old there (λ y h. h))

  pub place_same : OnOk r (new ≡ with_asset old asset) → OnErr r (new ≡ old) → SameVolumes w (insert w account new)
  place_same ok err = subst (SameVolumes w) (once new) (same_twice w opened _ (same_opened w account) (same_after r ok err))

  pub place_stays : OnOk r (new ≡ with_asset old asset) → OnErr r (new ≡ old) → StaysOpen w (insert w account new)
  place_stays ok err = subst (StaysOpen w) (once new) (stays_twice w opened _ (stays_opened w account) (stays_after r ok err))

pub place_open : {E : Type 0} (r : Result (Unit {0}) E) (w : Working) (account asset : List ℕ) (old new : NameTable Volumes) → OnOk r (new ≡ with_asset old asset) → OnOk r (IsOpen (insert w account new) account asset)
place_open (Ok done) w account asset old new ok = subst (λ a. IsOpen (insert w account a) account asset) (sym ok) (open_with_asset w account asset old)
place_open (Err e) w account asset old new ok = tt

-- ---- places of a list of postings

pub both_stay : (old new : Working) (p : Posting) → StaysOpen old new → OfBoth (IsOpen old) p → OfBoth (IsOpen new) p
both_stay old new p stays h = record { source = stays.each p.source p.asset h.source; destination = stays.each p.destination p.asset h.destination }

-- the postings up to a place have places
abbrev pub OpenTo : Working → List Posting → ℕ → Type 0
OpenTo w ps i = (k : ℕ) → k < i → (d : Posting) → OfBoth (IsOpen w) (get_or ps k d)

pub open_next : (old new : Working) (ps : List Posting) (i : ℕ) (p : Posting) → i < length ps → p ≡ get_or ps i p → StaysOpen old new → OpenTo old ps i → OfBoth (IsOpen new) p → OpenTo new ps (i + 1)
open_next old new ps i p h is stays before here =
    below_more (λ k. (d : Posting) → OfBoth (IsOpen new) (get_or ps k d)) i (λ k less d. both_stay old new (get_or ps k d) stays (before k less d))
    (λ d. subst (λ q. OfBoth (IsOpen new) q) (get_or_read ps i p h is d) here)
