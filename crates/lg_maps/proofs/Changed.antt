-- What an edit of entries and places makes of the chosen pairs.
use Rattle.std.proofs.Common.{◌≡◌, ◌⊎◌, inl, inr, ℕ, ◌+◌, ◌-◌, ◌<◌, ◌≤◌, cond, List, [], ◌∷◌, ◌++◌, map, length, get_or, set, insert, remove, refl, sym, ap, subst, ◌∙◌, arith, length-set}
use Rattle.std.proofs.lemmas.Bool.{cases_lt, cases_eq, cases_order, eq-eqb, ne_eqb}
use Rattle.std.proofs.lemmas.List.{get_or-map, get_or_default, get_or_past, get_or_append_left, get_or_push, get_or-set_same, get_or-set_other, length-map, length_push, same_lists}
use Rattle.std.proofs.lemmas.List.Edits.{length-insert, length-remove, get_or-insert_below, get_or-insert_at, get_or-insert_above, get_or-remove_below, get_or-remove_above}
use Rattle.std.proofs.lemmas.List.FromFn.{get_or-range_with_len, length-range_with_len}
use Rattle.std.specs.List.{range_with_len}
use Rattle.lg_maps.specs.Chosen.{chosen, held, IsOrder}
use Rattle.lg_maps.specs.Moved.{moved}
use Rattle.lg_maps.proofs.Chosen.{length-chosen, held_below, chosen_at, chosen_none, other_names}

module _ {X : Type 0} where
  -- an entry put into its place, with no places
  pub inserted_few : (entries : List X) (places : List ℕ) (place : ℕ) (e : X) → length places ≡ 0 → chosen places (insert entries place e) ≡ insert (chosen places entries) place e
  inserted_few entries places place e h = chosen_none _ places h ∙ ap (λ es. insert es place e) (sym (chosen_none entries places h))

  -- places that hold the same entries choose the same
  pub same_chosen : (entries : List X) (old new : List ℕ) → ((j : ℕ) → j < length old → get_or old j 0 < length entries) → (length old ≡ 0) ⊎ (length old ≡ length entries)
      → ((j : ℕ) → j < length new → get_or new j 0 < length entries) → (length new ≡ 0) ⊎ (length new ≡ length entries)
      → ((k : ℕ) → held new k ≡ held old k) → chosen new entries ≡ chosen old entries
  same_chosen entries old new b w c v same =
      same_lists _ _ (length-chosen entries new v ∙ sym (length-chosen entries old w))
      (λ k d lt. chosen_at entries new k d c v ∙ ap (λ j. get_or entries j d) (same k) ∙ sym (chosen_at entries old k d b w))

-- an entry put at the end, and its place among the places
module _ {X : Type 0} (entries : List X) (places : List ℕ) (place : ℕ) (e : X) (below : (j : ℕ) → j < length places → get_or places j 0 < length entries) (placed : length places ≡ length entries) (fits : place ≤ length places) where
  pub length-more : length (insert places place (length entries)) ≡ length (entries ++ e ∷ [])
  length-more = length-insert places place (length entries) fits ∙ ap (λ n. n + 1) placed ∙ sym (length_push entries e)

  read_above : (k c : ℕ) → place < k → k < length (insert places place (length entries)) → get_or (insert places place (length entries)) k c ≡ get_or places (k - 1) c
  read_above k c gt lt = ap (λ m. get_or (insert places place (length entries)) m c) (omega (arith, gt)) ∙ get_or-insert_above places place (length entries) c (k - 1) (omega (arith, gt)) fits

  within_above : (k : ℕ) → place < k → k < length (insert places place (length entries)) → k - 1 < length places
  within_above k gt lt = omega (arith, gt, lt, length-insert places place (length entries) fits)

  below_by : (k : ℕ) → k < length (insert places place (length entries)) → (k ≡ place) ⊎ ((k < place) ⊎ (place < k)) → get_or (insert places place (length entries)) k 0 < length (entries ++ e ∷ [])
  below_by k lt (inl is) =
      subst (λ v. v < length (entries ++ e ∷ [])) (sym (ap (λ m. get_or (insert places place (length entries)) m 0) is ∙ get_or-insert_at places place (length entries) 0 fits)) (omega (arith, length_push entries e))
  below_by k lt (inr (inl less)) =
      subst (λ v. v < length (entries ++ e ∷ [])) (sym (get_or-insert_below places place (length entries) 0 k less fits)) (omega (arith, length_push entries e, below k (omega (arith, less, fits))))
  below_by k lt (inr (inr gt)) =
      subst (λ v. v < length (entries ++ e ∷ [])) (sym (read_above k 0 gt lt)) (omega (arith, length_push entries e, below (k - 1) (within_above k gt lt)))

  pub below-more : (k : ℕ) → k < length (insert places place (length entries)) → get_or (insert places place (length entries)) k 0 < length (entries ++ e ∷ [])
  below-more k lt = below_by k lt (cases_order k place)

  fits_chosen : place ≤ length (chosen places entries)
  fits_chosen = subst (λ n. place ≤ n) (sym (length-chosen entries places (inr placed) ∙ sym placed)) fits

  old_at : (k : ℕ) (d : X) → k < length places → get_or (entries ++ e ∷ []) (held places k) d ≡ get_or (chosen places entries) k d
  old_at k d lt =
      get_or_append_left entries (e ∷ []) d (held places k) (held_below entries places k below (inr placed) (omega (arith, lt, placed)))
      ∙ sym (chosen_at entries places k d below (inr placed))

  at_by : (k : ℕ) (d : X) → k < length (insert places place (length entries)) → (k ≡ place) ⊎ ((k < place) ⊎ (place < k))
      → get_or (entries ++ e ∷ []) (held (insert places place (length entries)) k) d ≡ get_or (insert (chosen places entries) place e) k d
  at_by k d lt (inl is) =
      ap (λ m. get_or (entries ++ e ∷ []) (held (insert places place (length entries)) m) d) is
      ∙ ap (λ h. get_or (entries ++ e ∷ []) h d) (get_or-insert_at places place (length entries) place fits)
      ∙ get_or_push entries e d (length entries) refl
      ∙ sym (ap (λ m. get_or (insert (chosen places entries) place e) m d) is ∙ get_or-insert_at (chosen places entries) place e d fits_chosen)
  at_by k d lt (inr (inl less)) =
      ap (λ h. get_or (entries ++ e ∷ []) h d) (get_or-insert_below places place (length entries) k k less fits)
      ∙ old_at k d (omega (arith, less, fits))
      ∙ sym (get_or-insert_below (chosen places entries) place e d k less fits_chosen)
  at_by k d lt (inr (inr gt)) =
      ap (λ h. get_or (entries ++ e ∷ []) h d) (read_above k k gt lt ∙ get_or_default places (k - 1) k (k - 1) (within_above k gt lt))
      ∙ old_at (k - 1) d (within_above k gt lt)
      ∙ sym (ap (λ m. get_or (insert (chosen places entries) place e) m d) (omega (arith, gt)) ∙ get_or-insert_above (chosen places entries) place e d (k - 1) (omega (arith, gt)) fits_chosen)

  pub inserted_many : chosen (insert places place (length entries)) (entries ++ e ∷ []) ≡ insert (chosen places entries) place e
  inserted_many =
      same_lists _ _
      (length-chosen (entries ++ e ∷ []) (insert places place (length entries)) (inr length-more) ∙ length_push entries e ∙ ap (λ n. n + 1) (sym (length-chosen entries places (inr placed))) ∙ sym (length-insert (chosen places entries) place e fits_chosen))
      (λ k d lt. chosen_at (entries ++ e ∷ []) (insert places place (length entries)) k d below-more (inr length-more)
      ∙ at_by k d (omega (arith, lt, length-chosen (entries ++ e ∷ []) (insert places place (length entries)) (inr length-more), length-more)) (cases_order k place))

module _ {V : Type 0} (entries : List (List ℕ × V)) (places : List ℕ) (order : IsOrder entries places) where
  apart_by : (es : List (List ℕ × V)) → es ≡ entries → (i j : ℕ) → i < j → j < length entries → held places i ≡ held places j → ⊥
  apart_by [] is i j less within same = absurd (omega (arith, within, ap length is))
  apart_by (d ∷ es) is i j less within same =
      other_names (chosen places entries) i j d order.rising less (omega (arith, within, length-chosen entries places order.whole))
      (ap (λ p. p.0) (chosen_at entries places i d order.below order.whole ∙ ap (λ h. get_or entries h d) same ∙ sym (chosen_at entries places j d order.below order.whole)))

  apart_cases : (i j : ℕ) → i < length entries → j < length entries → (i ≡ j → ⊥) → held places i ≡ held places j → (i ≡ j) ⊎ ((i < j) ⊎ (j < i)) → ⊥
  apart_cases i j p q ne same (inl is) = ne is
  apart_cases i j p q ne same (inr (inl less)) = apart_by entries refl i j less q same
  apart_cases i j p q ne same (inr (inr more)) = apart_by entries refl j i more p (sym same)

  -- no entry stands at two places
  pub apart : (i j : ℕ) → i < length entries → j < length entries → (i ≡ j → ⊥) → held places i ≡ held places j → ⊥
  apart i j p q ne same = apart_cases i j p q ne same (cases_order i j)

  module _ (place : ℕ) (x : List ℕ × V) (within : place < length entries) where
    pub below-set : (k : ℕ) → k < length places → get_or places k 0 < length (set entries (held places place) x)
    below-set k lt = subst (λ n. get_or places k 0 < n) (sym (length-set entries (held places place) x)) (order.below k lt)

    pub whole-set : (length places ≡ 0) ⊎ (length places ≡ length (set entries (held places place) x))
    whole-set = subst (λ n. (length places ≡ 0) ⊎ (length places ≡ n)) (sym (length-set entries (held places place) x)) order.whole

    within_chosen : place < length (chosen places entries)
    within_chosen = subst (λ n. place < n) (sym (length-chosen entries places order.whole)) within

    set_by : (k : ℕ) (d : List ℕ × V) → k < length entries → (k ≡ place) ⊎ (k ≡ place → ⊥) → get_or (set entries (held places place) x) (held places k) d ≡ get_or (set (chosen places entries) place x) k d
    set_by k d lt (inl is) =
        ap (λ m. get_or (set entries (held places place) x) (held places m) d) is
        ∙ get_or-set_same entries (held places place) x d (held_below entries places place order.below order.whole within)
        ∙ sym (ap (λ m. get_or (set (chosen places entries) place x) m d) is ∙ get_or-set_same (chosen places entries) place x d within_chosen)
    set_by k d lt (inr ne) =
        get_or-set_other entries (held places place) (held places k) x d (apart k place lt within ne)
        ∙ sym (chosen_at entries places k d order.below order.whole)
        ∙ sym (get_or-set_other (chosen places entries) place k x d ne)

    -- an entry changed in place
    pub set_chosen : chosen places (set entries (held places place) x) ≡ set (chosen places entries) place x
    set_chosen =
        same_lists _ _
        (length-chosen (set entries (held places place) x) places whole-set ∙ length-set entries (held places place) x ∙ sym (length-set (chosen places entries) place x ∙ length-chosen entries places order.whole))
        (λ k d lt. chosen_at (set entries (held places place) x) places k d below-set whole-set
        ∙ set_by k d (omega (arith, lt, length-chosen (set entries (held places place) x) places whole-set, length-set entries (held places place) x)) (cases_eq k place))

  moved_other : (last at p : ℕ) → (p ≡ last → ⊥) → moved last at p ≡ p
  moved_other last at p ne = ap (λ b. cond b at p) (ne_eqb p last ne)

  moved_last : (last at p : ℕ) → p ≡ last → moved last at p ≡ at
  moved_last last at p is = ap (λ b. cond b at p) (eq-eqb p last is)

  -- the last entry taken for the one at a place, and its place set to that one
  module _ (place last : ℕ) (within : place < length entries) (placed : length places ≡ length entries) (is_last : last + 1 ≡ length entries)
      (new : List (List ℕ × V)) (shorter : length new ≡ last)
      (there : (d : List ℕ × V) → held places place + 1 < length entries → get_or new (held places place) d ≡ get_or entries last d)
      (others : (k : ℕ) (d : List ℕ × V) → (k ≡ held places place → ⊥) → k + 1 < length entries → get_or new k d ≡ get_or entries k d) where
    moved_by : (j : ℕ) (d : List ℕ × V) → j < length entries → (j ≡ place → ⊥) → (held places j ≡ last) ⊎ (held places j ≡ last → ⊥)
        → (moved last (held places place) (held places j) < length new) × (get_or new (moved last (held places place) (held places j)) d ≡ get_or entries (held places j) d)
    moved_by j d lt ne (inl is) =
        let other : held places place ≡ last → ⊥ = λ h. apart j place lt within ne (is ∙ sym h) in
        let less : held places place < last = omega (arith, is_last, held_below entries places place order.below order.whole within, other) in
        let to : moved last (held places place) (held places j) ≡ held places place = moved_last last (held places place) (held places j) is in
        (subst (λ v. v < length new) (sym to) (omega (arith, less, shorter)), ap (λ v. get_or new v d) to ∙ there d (omega (arith, less, is_last)) ∙ ap (λ v. get_or entries v d) (sym is))
    moved_by j d lt ne (inr not) =
        let less : held places j < last = omega (arith, is_last, held_below entries places j order.below order.whole lt, not) in
        let to : moved last (held places place) (held places j) ≡ held places j = moved_other last (held places place) (held places j) not in
        (subst (λ v. v < length new) (sym to) (omega (arith, less, shorter)), ap (λ v. get_or new v d) to ∙ others (held places j) d (apart j place lt within ne) (omega (arith, less, is_last)))

    module _ (kept : List ℕ) (kept_is : kept ≡ remove (map (moved last (held places place)) places) place) where
      length-moved : length (map (moved last (held places place)) places) ≡ length places
      length-moved = length-map places (moved last (held places place))

      within_moved : place < length (map (moved last (held places place)) places)
      within_moved = omega (arith, within, placed, length-moved)

      pub length-kept : length kept ≡ length new
      length-kept = ap length kept_is ∙ omega (arith, length-remove (map (moved last (held places place)) places) place within_moved, length-moved, placed, is_last, shorter)

      read_moved : (j c : ℕ) → j < length entries → get_or (map (moved last (held places place)) places) j c ≡ moved last (held places place) (held places j)
      read_moved j c lt = get_or-map (moved last (held places place)) places j j c (omega (arith, lt, placed))

      -- which entry stands at a place now
      kept_by : (k c : ℕ) → k < length kept → (k < place) ⊎ (place ≤ k)
          → (j : ℕ) × (j < length entries) × (j ≡ place → ⊥) × (get_or kept k c ≡ moved last (held places place) (held places j)) × ((d : List ℕ × V) → get_or (remove (chosen places entries) place) k d ≡ get_or (chosen places entries) j d)
      kept_by k c lt (inl less) =
          let fits : k < length entries = omega (arith, less, within) in (
            k,
            fits,
            (λ h. omega (arith, h, less)),
            ap (λ ps. get_or ps k c) kept_is ∙ get_or-remove_below (map (moved last (held places place)) places) place c k less within_moved ∙ read_moved k c fits,
            λ d. get_or-remove_below (chosen places entries) place d k less (omega (arith, within, length-chosen entries places order.whole)),
          )
      kept_by k c lt (inr le) =
          let fits : k + 1 < length entries = omega (arith, lt, length-kept, shorter, is_last) in (
            k + 1,
            fits,
            (λ h. omega (arith, h, le)),
            ap (λ ps. get_or ps k c) kept_is ∙ get_or-remove_above (map (moved last (held places place)) places) place c k le within_moved ∙ read_moved (k + 1) c fits,
            λ d. get_or-remove_above (chosen places entries) place d k le (omega (arith, within, length-chosen entries places order.whole)),
          )

      pub below-kept : (k : ℕ) → k < length kept → get_or kept k 0 < length new
      below-kept k lt = below_in entries refl
        where
          below_in : (es : List (List ℕ × V)) → es ≡ entries → get_or kept k 0 < length new
          below_in [] is = absurd (omega (arith, within, ap length is))
          below_in (d ∷ es) is =
              let from = kept_by k 0 lt (cases_lt k place) in
              subst (λ v. v < length new) (sym from.3) (moved_by from.0 d from.1 from.2 (cases_eq (held places from.0) last)).0

      pub taken_chosen : chosen kept new ≡ remove (chosen places entries) place
      taken_chosen =
          same_lists _ _
          (length-chosen new kept (inr length-kept) ∙ omega (arith, length-remove (chosen places entries) place (omega (arith, within, length-chosen entries places order.whole)), length-chosen entries places order.whole, is_last, shorter))
          (λ k d lt. let fits : k < length kept = omega (arith, lt, length-chosen new kept (inr length-kept), length-kept) in
          let from = kept_by k k fits (cases_lt k place) in
          chosen_at new kept k d below-kept (inr length-kept)
          ∙ ap (λ v. get_or new v d) from.3
          ∙ (moved_by from.0 d from.1 from.2 (cases_eq (held places from.0) last)).1
          ∙ sym (chosen_at entries places from.0 d order.below order.whole)
          ∙ sym (from.4 d))

  -- the place of the last entry set
  module _ (last at : ℕ) (placed : length places ≡ length entries) where
    set_at_by : (place k : ℕ) → place < length entries → k < length entries → held places place ≡ last → (k ≡ place) ⊎ (k ≡ place → ⊥) → (d : ℕ) → get_or (set places place at) k d ≡ moved last at (held places k)
    set_at_by place k within lt is (inl same) d =
        ap (λ m. get_or (set places place at) m d) same
        ∙ get_or-set_same places place at d (omega (arith, within, placed))
        ∙ sym (moved_last last at (held places k) (ap (held places) same ∙ is))
    set_at_by place k within lt is (inr ne) d =
        get_or-set_other places place k at d ne
        ∙ get_or_default places k d k (omega (arith, lt, placed))
        ∙ sym (moved_other last at (held places k) (λ h. apart k place lt within ne (h ∙ sym is)))

    pub set_moved : (place : ℕ) → place < length entries → held places place ≡ last → set places place at ≡ map (moved last at) places
    set_moved place within is =
        same_lists _ _ (length-set places place at ∙ sym (length-map places (moved last at)))
        (λ k d lt. let fits : k < length entries = omega (arith, lt, length-set places place at, placed) in
        set_at_by place k within fits is (cases_eq k place) d ∙ sym (get_or-map (moved last at) places k k d (omega (arith, fits, placed))))

    pub none_moved : ((k : ℕ) → k < length entries → held places k ≡ last → ⊥) → places ≡ map (moved last at) places
    none_moved ne =
        same_lists _ _ (sym (length-map places (moved last at)))
        (λ k d lt. let fits : k < length entries = omega (arith, lt, placed) in
        get_or_default places k d k lt
        ∙ sym (get_or-map (moved last at) places k k d lt ∙ moved_other last at (held places k) (ne k fits)))

-- places that count up stand for the entries as they are
pub held_upto : (n k : ℕ) → held (range_with_len 0 n) k ≡ k
held_upto n k = by_cases (cases_lt k n)
  where
    by_cases : (k < n) ⊎ (n ≤ k) → held (range_with_len 0 n) k ≡ k
    by_cases (inl lt) = get_or-range_with_len 0 n k k lt ∙ omega arith
    by_cases (inr past) = get_or_past (range_with_len 0 n) k k (omega (arith, past, length-range_with_len 0 n))

range_by : (n k d : ℕ) → k < n + 1 → (k < n) ⊎ (n ≤ k) → get_or (insert (range_with_len 0 n) n n) k d ≡ k
range_by n k d less (inl lt) = get_or-insert_below (range_with_len 0 n) n n d k lt (omega (arith, length-range_with_len 0 n)) ∙ get_or-range_with_len 0 n k d lt ∙ omega arith
range_by n k d less (inr past) =
    let is : k ≡ n = omega (arith, less, past) in
    ap (λ m. get_or (insert (range_with_len 0 n) n n) m d) is ∙ get_or-insert_at (range_with_len 0 n) n n d (omega (arith, length-range_with_len 0 n)) ∙ sym is

pub range_more : (n : ℕ) → insert (range_with_len 0 n) n n ≡ range_with_len 0 (n + 1)
range_more n =
    let longer : length (insert (range_with_len 0 n) n n) ≡ n + 1 = length-insert (range_with_len 0 n) n n (omega (arith, length-range_with_len 0 n)) ∙ ap (λ m. m + 1) (length-range_with_len 0 n) in
    same_lists _ _ (longer ∙ sym (length-range_with_len 0 (n + 1)))
    (λ k d lt. let less : k < n + 1 = subst (λ m. k < m) longer lt in range_by n k d less (cases_lt k n) ∙ sym (get_or-range_with_len 0 (n + 1) k d less ∙ omega arith))
