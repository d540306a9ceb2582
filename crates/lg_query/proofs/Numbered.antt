-- Numbered items, the last first: what stands below a number, which is found by its number, and their order.
use Rattle.std.proofs.Common.{◌≡◌, ℕ, zero, suc, ◌+◌, ◌-◌, ◌<◌, ◌≤◌, Bool, true, false, cond, List, [], ◌∷◌, length, take, reverse, Some, None, min, slice_get, refl, sym, ap, subst, ◌∙◌, arith}
use Rattle.std.specs.Prelude.{nat_lt, nat_eq}
use Rattle.std.specs.List.{filter, find}
use Rattle.std.proofs.lemmas.List.{reverse-append, take_all}
use Rattle.std.proofs.lemmas.Bool.Decides.{nat_tests}
use Rattle.lg_types.specs.Lists.{Each, Pairs}
use Rattle.lg_types.proofs.Eachs.{each-map}
use Rattle.lg_book.specs.Index.{by_id}
use Rattle.lg_book.proofs.Lists.{find-by_id, take-snoc, there_within}
use Rattle.lg_select.specs.Listing.{first_of}
use Rattle.lg_types.specs.declared.records.Entry.{Entry}
use Rattle.lg_views.specs.PageLaws.{IsInOrder}
use Rattle.lg_views.specs.Reads.{is_after_entry, entry_place}
use Rattle.lg_views.proofs.Walks.{falling, not_below}
use Rattle.lg_types.specs.declared.records.Event.{Event}
use Rattle.lg_types.specs.Log.{log, is_there}
use Rattle.lg_book.specs.Following.{IsGrown}
use Rattle.lg_book.specs.Reading.{find_entry, count_entries}
use Rattle.lg_book.proofs.EntryIds.{entries_by_id}
use Rattle.lg_book.proofs.Sound.{absent-take}
use Rattle.lg_query.specs.Newest.{newest_first, AreNumbered, entry_id}

newest-more : {A : Type 0} (k : ℕ) (xs : List A) (x : A) → slice_get xs k ≡ Some x → newest_first (suc k) xs ≡ x ∷ newest_first k xs
newest-more k xs x h = ap reverse (take-snoc k xs x h) ∙ reverse-append (take k xs) (x ∷ [])

-- the newest items that pass a test which holds of the first items and of no others
module _ {A : Type 0} (xs : List A) (test : A → Bool) (most : ℕ) (holds : (k : ℕ) (x : A) → slice_get xs k ≡ Some x → test x ≡ nat_lt k most) where
  front-at : (k m : ℕ) → k ≤ length xs → m ≡ min k most → filter test (newest_first k xs) ≡ newest_first m xs
  front-at zero m h e = ap (λ j. newest_first j xs) (let r : 0 ≡ m = omega (arith, e) in r)
  front-at (suc k) m h e =
      let at = there_within k xs (let r : k < length xs = omega (arith, h) in r) in
      ap (filter test) (newest-more k xs at.0 at.1) ∙ by_test at.0 at.1 (nat_lt k most) refl (front-at k (min k most) (omega (arith, h)) refl)
    where
      by_test : (x : A) → slice_get xs k ≡ Some x → (b : Bool) → nat_lt k most ≡ b → filter test (newest_first k xs) ≡ newest_first (min k most) xs
          → filter test (x ∷ newest_first k xs) ≡ newest_first m xs
      by_test x at true t ih =
          let less : k < most = grind (arith, nat_tests, t) in
          let all : min k most ≡ k = omega (arith, less) in
          let more : suc k ≡ m = omega (arith, less, e) in
          ap (λ b. cond b (x ∷ filter test (newest_first k xs)) (filter test (newest_first k xs))) (holds k x at ∙ t)
          ∙ ap (λ l. x ∷ l) (ih ∙ ap (λ j. newest_first j xs) all)
          ∙ sym (newest-more k xs x at)
          ∙ ap (λ j. newest_first j xs) more
      by_test x at false t ih =
          let least : most ≤ k = grind (arith, nat_tests, t) in
          let same : min k most ≡ m = omega (arith, least, e) in
          ap (λ b. cond b (x ∷ filter test (newest_first k xs)) (filter test (newest_first k xs))) (holds k x at ∙ t)
          ∙ ih
          ∙ ap (λ j. newest_first j xs) same

  pub front : (k : ℕ) → k ≤ length xs → filter test (newest_first k xs) ≡ newest_first (min k most) xs
  front k h = front-at k (min k most) h refl

-- all items are the first, as many as there are
pub all-newest : {A : Type 0} (xs : List A) → reverse xs ≡ newest_first (length xs) xs
all-newest xs = ap reverse (sym (take_all (length xs) xs (omega arith)))

below_at : (k n : ℕ) → nat_lt (k + 1) n ≡ nat_lt k (n - 1)
below_at k n = by_test (nat_lt (k + 1) n) refl
  where
    by_test : (b : Bool) → nat_lt (k + 1) n ≡ b → nat_lt (k + 1) n ≡ nat_lt k (n - 1)
    by_test true t = let less : k + 1 < n = grind (arith, nat_tests, t) in let r : true ≡ nat_lt k (n - 1) = grind (arith, nat_tests, less) in t ∙ r
    by_test false t = let least : n ≤ k + 1 = grind (arith, nat_tests, t) in let r : false ≡ nat_lt k (n - 1) = grind (arith, nat_tests, least) in t ∙ r

module _ {A : Type 0} (number : A → ℕ) (xs : List A) (numbered : AreNumbered number xs) where
  abbrev is_below : ℕ → A → Bool
  is_below n x = nat_lt (number x) n

  -- the first items with a number below
  pub below : (n k : ℕ) → k ≤ length xs → filter (is_below n) (newest_first k xs) ≡ newest_first (min k (n - 1)) xs
  below n k h = front xs (is_below n) (n - 1) (λ j x at. ap (λ i. nat_lt i n) (numbered j x at) ∙ below_at j n) k h

  numbers : (j : ℕ) (x : A) → slice_get xs j ≡ Some x → number x ≡ suc j
  numbers j x h = let is = numbered j x h in omega (arith, is)

  newest-is : (k : ℕ) → k ≤ length xs → first_of (newest_first k xs) ≡ by_id xs k
  newest-is zero h = refl
  newest-is (suc k) h =
      let at = there_within k xs (let r : k < length xs = omega (arith, h) in r) in
      ap first_of (newest-more k xs at.0 at.1) ∙ sym at.1

  -- the newest item is found by its number
  pub newest-found : (k : ℕ) → k ≤ length xs → first_of (newest_first k xs) ≡ find (λ x. nat_eq (number x) k) xs
  newest-found k h = newest-is k h ∙ sym (find-by_id number xs numbers k)

  each-below : (k : ℕ) → k ≤ length xs → Each (λ x. number x ≤ k) (newest_first k xs)
  each-below zero h = tt
  each-below (suc k) h =
      let at = there_within k xs (let r : k < length xs = omega (arith, h) in r) in
      let is : number at.0 ≡ k + 1 = numbered k at.0 at.1 in
      subst (Each (λ x. number x ≤ suc k)) (sym (newest-more k xs at.0 at.1))
      (omega (arith, is), each-map (λ x le. let r : number x ≤ suc k = omega (arith, le) in r) (newest_first k xs) (each-below k (omega (arith, h))))

  -- numbers fall from item to item
  pub fall : (k : ℕ) → k ≤ length xs → Pairs (λ x y. number y < number x) (newest_first k xs)
  fall zero h = tt
  fall (suc k) h =
      let at = there_within k xs (let r : k < length xs = omega (arith, h) in r) in
      let is : number at.0 ≡ k + 1 = numbered k at.0 at.1 in
      subst (Pairs (λ x y. number y < number x)) (sym (newest-more k xs at.0 at.1))
      (each-map (λ x le. let r : number x < number at.0 = omega (arith, le, is) in r) (newest_first k xs) (each-below k (omega (arith, h))), fall k (omega (arith, h)))

pairs-map : {A : Type 0} {R S : A → A → Type 0} → ((x y : A) → R x y → S x y) → (xs : List A) → Pairs R xs → Pairs S xs
pairs-map f [] h = tt
pairs-map f (x ∷ xs) h = (each-map (f x) xs h.0, pairs-map f xs h.1)

-- entries stand in the order of their places
pub entries_in_order : (g : List Entry) (k : ℕ) → AreNumbered entry_id g → k ≤ length g → IsInOrder is_after_entry entry_place (newest_first k g)
entries_in_order g k numbered within = record {
  pairs = pairs-map (λ x y lt. falling x.id y.id lt) (newest_first k g) (fall entry_id g numbered k within);
  own = λ e. not_below e.id;
}

-- the last of the first entries is found by its id
pub entry_found : (g : List Entry) (k : ℕ) → AreNumbered entry_id g → k ≤ length g → first_of (newest_first k g) ≡ find_entry g k
entry_found g k numbered within = newest-found entry_id g numbered k within

pub log_numbered : (events : List Event) (ledger : List ℕ) → IsGrown events → AreNumbered entry_id (log events ledger)
log_numbered events ledger h k e at = (entries_by_id events ledger k e h at).0

-- a ledger whose entries aren't counted has none
pub none_counted : (events : List Event) (ledger : List ℕ) → IsGrown events → None ≡ count_entries events ledger → 0 ≡ length (log events ledger)
none_counted events ledger h none = by_test (is_there events ledger) refl
  where
    by_test : (b : Bool) → is_there events ledger ≡ b → 0 ≡ length (log events ledger)
    by_test true t = absurd (let r : None ≡ Some (length (log events ledger)) = none ∙ ap (λ b. cond b (Some (length (log events ledger))) None) t in cc)
    by_test false t =
        let all : take (length events) events ≡ events = take_all (length events) events (omega arith) in
        let empty : log (take (length events) events) ledger ≡ [] = absent-take events h ledger (length events) (omega arith) (subst (λ es. is_there es ledger ≡ false) (sym all) t) in
        sym (ap length (subst (λ es. log es ledger ≡ []) all empty))

-- the entry at a place is found by its id
pub found_at : (events : List Event) (ledger : List ℕ) → IsGrown events → (k : ℕ) (e : Entry) → slice_get (log events ledger) k ≡ Some e → find_entry (log events ledger) (k + 1) ≡ Some e
found_at events ledger h k e at = let r = entries_by_id events ledger k e h at in ap (find_entry (log events ledger)) (sym r.0) ∙ r.1

pub none_pass : {A : Type 0} (xs : List A) → filter (λ _. false) xs ≡ []
none_pass [] = refl
none_pass (x ∷ xs) = none_pass xs

pub all_pass : {A : Type 0} (xs : List A) → filter (λ _. true) xs ≡ xs
all_pass [] = refl
all_pass (x ∷ xs) = ap (λ l. x ∷ l) (all_pass xs)
