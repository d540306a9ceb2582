-- Following `next` through volumes, by account and then by asset, and through ledgers, by the places of their events.
use Rattle.std.proofs.Common.{◌≡◌, ℕ, zero, suc, ◌+◌, ◌<◌, ◌≤◌, Bool, true, false, ◌&&◌, ◌||◌, T, List, [], ◌∷◌, ◌++◌, map, length, Ordering, Less, Equal, Greater, refl, sym, ap, subst, ◌∙◌, arith}
use Rattle.std.specs.Prelude.{nat_lt}
use Rattle.std.specs.Ordering.{is_lt, is_eq, ordering_reverse}
use Rattle.std.specs.List.{filter, flat_map, enumerate_from}
use Rattle.std.specs.Cmp.Lexicographic.{nat_list_cmp_total}
use Rattle.std.specs.FinMap.Entries.{below_all, is_sorted}
use Rattle.lg_base.specs.declared.amounts.Volumes.{Volumes}
use Rattle.lg_containers.specs.NameOrder.{name_order}
use Rattle.lg_containers.specs.NameTable as table
use Rattle.lg_types.specs.declared.records.Event.{Event}
use Rattle.lg_types.specs.declared.records.Event.TheVariants.{Made, Logged}
use Rattle.lg_types.specs.declared.records.LedgerInfo.{LedgerInfo}
use Rattle.lg_types.specs.Lists.{Each, Pairs}
use Rattle.lg_types.proofs.Eachs.{each-map, each-append}
use Rattle.lg_views.specs.declared.views.VolumeItem.{VolumeItem}
use Rattle.lg_views.specs.Pairs.{AssetMap, AccountMap}
use Rattle.lg_views.specs.Reads.{whole_volumes, whole_ledgers, volume_item, account_volume_items, volume_items, totals, listed_moves, is_after_pair, volume_place, made_at, is_after_ledger, ledger_place, ledger_passes}
use Rattle.lg_views.specs.PageLaws.{IsLater, IsInOrder, VolumePages, LedgerPages}
use Rattle.lg_views.proofs.Walks.{walk_whole, pairs-filter, pairs-append, turned, from_T, and_first, and_second, not_below, falling}

-- ---- entries of a table

abbrev Rises : {V : Type 0} → List ℕ × V → List ℕ × V → Type 0
Rises d e = is_lt (name_order d.0 e.0) ≡ true

module _ {V : Type 0} where
  below-entries : (d : List ℕ × V) (es : List (List ℕ × V)) → T (below_all name_order d.0 es) → Each (Rises d) es
  below-entries d [] h = tt
  below-entries d (e ∷ es) h = (from_T (is_lt (name_order d.0 e.0)) (and_first (is_lt (name_order d.0 e.0)) (below_all name_order d.0 es) h), below-entries d es (and_second (is_lt (name_order d.0 e.0)) (below_all name_order d.0 es) h))

  entries-rise : (es : List (List ℕ × V)) → T (is_sorted name_order es) → Pairs Rises es
  entries-rise [] h = tt
  entries-rise (e ∷ es) h = (below-entries e es (and_first (below_all name_order e.0 es) (is_sorted name_order es) h), entries-rise es (and_second (below_all name_order e.0 es) (is_sorted name_order es) h))

-- ---- volumes

abbrev IsLaterItem : VolumeItem → VolumeItem → Type 0
IsLaterItem = IsLater is_after_pair volume_place

equal_by : (o : Ordering) → o ≡ ordering_reverse o → o ≡ Equal
equal_by Less h = absurd (let f : Less ≡ Greater = h in cc)
equal_by Equal h = refl
equal_by Greater h = absurd (let f : Greater ≡ Less = h in cc)

same_name : (x : List ℕ) → name_order x x ≡ Equal
same_name x = equal_by (name_order x x) (nat_list_cmp_total.antisymm x x)

turned_pair : (o : Ordering) (b : Bool) → is_lt o ≡ true → (is_lt (ordering_reverse o) || (is_eq (ordering_reverse o) && b)) ≡ false
turned_pair Less b h = refl
turned_pair Equal b h = absurd (let f : false ≡ true = h in cc)
turned_pair Greater b h = absurd (let f : false ≡ true = h in cc)

later_account : (x y : VolumeItem) → is_lt (name_order x.account y.account) ≡ true → IsLaterItem x y
later_account x y h = (
  ap (λ b. b || (is_eq (name_order x.account y.account) && is_lt (name_order x.asset y.asset))) h,
  ap (λ o. is_lt o || (is_eq o && is_lt (name_order y.asset x.asset))) (nat_list_cmp_total.antisymm y.account x.account)
      ∙ turned_pair (name_order x.account y.account) (is_lt (name_order y.asset x.asset)) h,
)

later_asset : (account : List ℕ) (p r : List ℕ × Volumes) → Rises p r → IsLaterItem (volume_item account p) (volume_item account r)
later_asset account p r h = (
  ap (λ o. is_lt o || (is_eq o && is_lt (name_order p.0 r.0))) (same_name account) ∙ h,
  ap (λ o. is_lt o || (is_eq o && is_lt (name_order r.0 p.0))) (same_name account)
      ∙ (ap is_lt (nat_list_cmp_total.antisymm r.0 p.0) ∙ turned (name_order p.0 r.0) h),
)

later_assets : (account : List ℕ) (p : List ℕ × Volumes) (ps : List (List ℕ × Volumes)) → Each (Rises p) ps → Each (IsLaterItem (volume_item account p)) (map (volume_item account) ps)
later_assets account p [] h = tt
later_assets account p (r ∷ ps) h = (later_asset account p r h.0, later_assets account p ps h.1)

one_account : (account : List ℕ) (ps : List (List ℕ × Volumes)) → Pairs Rises ps → Pairs IsLaterItem (map (volume_item account) ps)
one_account account [] h = tt
one_account account (p ∷ ps) h = (later_assets account p ps h.0, one_account account ps h.1)

items_of_later : (x : VolumeItem) (account : List ℕ) (ps : List (List ℕ × Volumes)) → is_lt (name_order x.account account) ≡ true → Each (IsLaterItem x) (map (volume_item account) ps)
items_of_later x account [] h = tt
items_of_later x account (p ∷ ps) h = (later_account x (volume_item account p) h, items_of_later x account ps h)

all_later : (x : VolumeItem) (ms : List (List ℕ × AssetMap)) → Each (λ m. is_lt (name_order x.account m.0) ≡ true) ms → Each (IsLaterItem x) (flat_map account_volume_items ms)
all_later x [] h = tt
all_later x (m ∷ ms) h = each-append (IsLaterItem x) (account_volume_items m) (flat_map account_volume_items ms) (items_of_later x m.0 (table.pairs_of m.1) h.0) (all_later x ms h.1)

across : (account : List ℕ) (ps : List (List ℕ × Volumes)) (ms : List (List ℕ × AssetMap)) → Each (λ m. is_lt (name_order account m.0) ≡ true) ms → Each (λ x. Each (IsLaterItem x) (flat_map account_volume_items ms)) (map (volume_item account) ps)
across account [] ms h = tt
across account (p ∷ ps) ms h = (all_later (volume_item account p) ms h, across account ps ms h)

accounts-rise : (ms : List (List ℕ × AssetMap)) → Pairs Rises ms → Pairs IsLaterItem (flat_map account_volume_items ms)
accounts-rise [] h = tt
accounts-rise (m ∷ ms) h =
    pairs-append IsLaterItem (account_volume_items m) (flat_map account_volume_items ms)
    (one_account m.0 (table.pairs_of m.1) (entries-rise (table.pairs_of m.1) (table.pairs_in_order m.1)))
    (accounts-rise ms h.1)
    (across m.0 (table.pairs_of m.1) ms h.0)

items-rise : (m : AccountMap) → Pairs IsLaterItem (volume_items m)
items-rise m = accounts-rise (table.pairs_of m) (entries-rise (table.pairs_of m) (table.pairs_in_order m))

not_after_own : (x : VolumeItem) → is_after_pair (volume_place x) x ≡ false
not_after_own x =
    ap (λ o. is_lt o || (is_eq o && is_lt (name_order x.asset x.asset))) (same_name x.account)
    ∙ ap is_lt (same_name x.asset)

pub volume_pages : VolumePages
volume_pages g q some =
    walk_whole is_after_pair volume_place q.page_size some (whole_volumes g q) (record {
      pairs = items-rise (totals (listed_moves g q));
      own = not_after_own;
    })

-- ---- ledgers

abbrev IsMadeBefore : ℕ × LedgerInfo → ℕ × LedgerInfo → Type 0
IsMadeBefore x y = x.0 < y.0

places-from : (n : ℕ) (events : List Event) → Each (λ x. n ≤ x.0) (flat_map made_at (enumerate_from n events))
places-from n [] = tt
places-from n (Made info ∷ events) = (omega arith, each-map (λ x le. let r : n ≤ x.0 = omega (arith, le) in r) (flat_map made_at (enumerate_from (n + 1) events)) (places-from (n + 1) events))
places-from n (Logged ledger e ∷ events) = each-map (λ x le. let r : n ≤ x.0 = omega (arith, le) in r) (flat_map made_at (enumerate_from (n + 1) events)) (places-from (n + 1) events)

places-rise : (n : ℕ) (events : List Event) → Pairs IsMadeBefore (flat_map made_at (enumerate_from n events))
places-rise n [] = tt
places-rise n (Made info ∷ events) = (each-map (λ x le. let r : n < x.0 = omega (arith, le) in r) (flat_map made_at (enumerate_from (n + 1) events)) (places-from (n + 1) events), places-rise (n + 1) events)
places-rise n (Logged ledger e ∷ events) = places-rise (n + 1) events

pairs-with : {A : Type 0} (R S : A → A → Type 0) → ((x y : A) → R x y → S x y) → (xs : List A) → Pairs R xs → Pairs S xs
pairs-with R S f [] h = tt
pairs-with R S f (x ∷ xs) h = (each-map (f x) xs h.0, pairs-with R S f xs h.1)

pub ledger_pages : LedgerPages
ledger_pages events q some =
    walk_whole is_after_ledger ledger_place q.page_size some (whole_ledgers events q) (record {
      pairs = pairs-filter (IsLater is_after_ledger ledger_place) (ledger_passes q.filter) (flat_map made_at (enumerate_from 0 events))
          (pairs-with IsMadeBefore (IsLater is_after_ledger ledger_place) (λ x y lt. falling y.0 x.0 lt) (flat_map made_at (enumerate_from 0 events)) (places-rise 0 events));
      own = λ x. not_below x.0;
    })
