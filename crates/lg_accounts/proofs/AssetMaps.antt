-- Maps over the assets of which something counts.
use Rattle.std.proofs.Common.{◌≡◌, ℕ, ◌+◌, ◌<◌, ◌≤◌, Bool, true, false, cond, ◌&&◌, ◌||◌, List, [], ◌∷◌, length, drop, get_or, Some, None, refl, sym, ap, ap₂, ◌∙◌}
use Rattle.std.specs.Prelude.{Option}
use Rattle.std.specs.List.{filter, list_any}
use Rattle.std.specs.Str.{bytes_eq}
use Rattle.std.proofs.lemmas.List.{drop_all, drop_more}
use Rattle.std.proofs.lemmas.Map.Views.{any-filter_same}
use Rattle.lg_base.specs.declared.amounts.Volumes.{Volumes}
use Rattle.lg_containers.specs.NameTable.{get, insert, empty, get-insert, same_table}
use Rattle.lg_types.specs.PartLaws.{is_account}
use Rattle.lg_views.specs.Pairs.{AssetMap, asset_map, with_assets}
use Rattle.lg_shard.proofs.AccountLemmas.{bytes_same, order_eq}
use Rattle.lg_accounts.specs.Volumes.{put_if}

-- ---- asset by asset

module _ (f : List ℕ → Volumes) (counts : List ℕ → Bool) where
  kept_step : (b : Bool) (m : AssetMap) (x : List ℕ) (rest : List (List ℕ)) → with_assets f (put_if m x (cond b (Some (f x)) None)) rest ≡ with_assets f m (cond b (x ∷ rest) rest)
  kept_step true m x rest = refl
  kept_step false m x rest = refl

  pub assets_next : (xs : List (List ℕ)) (i : ℕ) (x : List ℕ) (m next whole : AssetMap) → i < length xs → x ≡ get_or xs i x → next ≡ put_if m x (cond (counts x) (Some (f x)) None)
      → with_assets f m (filter counts (drop i xs)) ≡ whole → with_assets f next (filter counts (drop (i + 1) xs)) ≡ whole
  assets_next xs i x m next whole within is put before =
      ap (λ (n : AssetMap). with_assets f n (filter counts (drop (i + 1) xs))) put
      ∙ kept_step (counts x) m x (filter counts (drop (i + 1) xs))
      ∙ sym (ap (λ (l : List (List ℕ)). with_assets f m (filter counts l)) (drop_more xs i x within ∙ ap (λ (y : List ℕ). y ∷ drop (i + 1) xs) (sym is)))
      ∙ before

  pub assets_done : (xs : List (List ℕ)) (i : ℕ) (m whole : AssetMap) → length xs ≤ i → with_assets f m (filter counts (drop i xs)) ≡ whole → m ≡ whole
  assets_done xs i m whole all before = sym (ap (λ (l : List (List ℕ)). with_assets f m (filter counts l)) (drop_all i xs all)) ∙ before

pub put_same : (next m : AssetMap) (x : List ℕ) (counted right : Option Volumes) → next ≡ put_if m x counted → counted ≡ right → next ≡ put_if m x right
put_same next m x counted right put is = put ∙ ap (put_if m x) is

-- ---- the map answers by name

found_or : (b : Bool) (f : List ℕ → Volumes) (q x : List ℕ) (r : Bool) (o : Option Volumes) → bytes_eq x q ≡ b
    → cond r (Some (f q)) (cond b (Some (f x)) o) ≡ cond (b || r) (Some (f q)) o
found_or true f q x true o h = refl
found_or true f q x false o h = ap (λ (y : List ℕ). Some (f y)) (bytes_same x q h)
found_or false f q x r o h = refl

get-with_assets : (f : List ℕ → Volumes) (m : AssetMap) (xs : List (List ℕ)) (q : List ℕ) → get (with_assets f m xs) q ≡ cond (list_any (is_account q) xs) (Some (f q)) (get m q)
get-with_assets f m [] q = refl
get-with_assets f m (x ∷ xs) q =
    get-with_assets f (insert m x (f x)) xs q
    ∙ ap (cond (list_any (is_account q) xs) (Some (f q))) (get-insert m x (f x) q ∙ ap (λ (b : Bool). cond b (Some (f x)) (get m q)) (order_eq q x))
    ∙ found_or (bytes_eq x q) f q x (list_any (is_account q) xs) (get m q) refl

-- maps over lists that have the same names are equal
pub same_assets : (f g : List ℕ → Volumes) (xs ys : List (List ℕ)) → ((q : List ℕ) → f q ≡ g q) → ((q : List ℕ) → list_any (is_account q) xs ≡ list_any (is_account q) ys) → asset_map f xs ≡ asset_map g ys
same_assets f g xs ys alike same = same_table (asset_map f xs) (asset_map g ys) (λ q.
    get-with_assets f empty xs q
    ∙ ap₂ (λ (b : Bool) (v : Volumes). cond b (Some v) (get empty q)) (same q) (alike q)
    ∙ sym (get-with_assets g empty ys q))

-- the names of a list that pass a test
pub names-passing : (test : List ℕ → Bool) (names : List (List ℕ)) (q : List ℕ) → list_any (is_account q) (filter test names) ≡ (test q && list_any (is_account q) names)
names-passing test names q = any-filter_same (is_account q) test (test q) (λ name h. ap test (bytes_same name q h)) names
