-- Entries that places put in order, place by place.
use Rattle.std.proofs.Common.{◌≡◌, ◌⊎◌, inl, inr, ℕ, zero, suc, ◌<◌, ◌≤◌, true, IsTrue, List, [], ◌∷◌, map, length, get_or, Some, None, Result, Ok, Err, Ordering, Less, Equal, Greater, refl, sym, ap, subst, ◌∙◌, arith, slice_get}
use Rattle.std.proofs.lemmas.Bool.{cases_lt, and_parts}
use Rattle.std.proofs.lemmas.Cmp.{tied_itself}
use Rattle.std.proofs.lemmas.List.{get_or-map, get_or_default, get_or_past, length-map}
use Rattle.std.proofs.lemmas.Option.{slice_get-get_or, slice_get_past}
use Rattle.std.specs.Cmp.Lexicographic.{nat_list_cmp_total}
use Rattle.std.specs.FinMap.Entries.{below_all}
use Rattle.std.specs.List.Sorted.{IsSearchInRange, IsBinarySearchResult}
use Rattle.std.specs.Ordering.{is_lt, ordering_index}
use Rattle.lg_containers.specs.NameOrder.{name_order, is_in_order}
use Rattle.lg_containers.specs.Places.{IsAt, BelongsAt, IsPlace}
use Rattle.lg_containers.proofs.Placed.{searched, found_at, not_found}
use Rattle.lg_maps.specs.Chosen.{chosen, held, IsOrder}
use Rattle.lg_maps.specs.Searching.{order_at}

module _ {X : Type 0} where
  pub length-chosen : (entries : List X) (places : List ℕ) → (length places ≡ 0) ⊎ (length places ≡ length entries) → length (chosen places entries) ≡ length entries
  length-chosen entries [] w = refl
  length-chosen [] (p ∷ ps) w = refl
  length-chosen (e ∷ es) (p ∷ ps) (inl h) = absurd (omega (arith, h))
  length-chosen (e ∷ es) (p ∷ ps) (inr h) = length-map (p ∷ ps) (λ q. get_or (e ∷ es) q e) ∙ h

  pub held_past : (entries : List X) (places : List ℕ) (k : ℕ) → (length places ≡ 0) ⊎ (length places ≡ length entries) → length entries ≤ k → held places k ≡ k
  held_past entries places k (inl h) past = get_or_past places k k (omega (arith, h))
  held_past entries places k (inr h) past = get_or_past places k k (omega (arith, h))

  pub held_below : (entries : List X) (places : List ℕ) (k : ℕ) → ((j : ℕ) → j < length places → get_or places j 0 < length entries) → (length places ≡ 0) ⊎ (length places ≡ length entries) → k < length entries → held places k < length entries
  held_below entries places k below (inl h) lt = subst (λ j. j < length entries) (sym (get_or_past places k k (omega (arith, h)))) lt
  held_below entries places k below (inr h) lt =
      let within : k < length places = omega (arith, h) in
      subst (λ j. j < length entries) (get_or_default places k 0 k within) (below k within)

  chosen_many : (e : X) (es : List X) (p : ℕ) (ps : List ℕ) (k : ℕ) (d : X)
      → ((j : ℕ) → j < length (p ∷ ps) → get_or (p ∷ ps) j 0 < length (e ∷ es)) → length (p ∷ ps) ≡ length (e ∷ es)
      → (k < length (p ∷ ps)) ⊎ (length (p ∷ ps) ≤ k) → get_or (map (λ q. get_or (e ∷ es) q e) (p ∷ ps)) k d ≡ get_or (e ∷ es) (held (p ∷ ps) k) d
  chosen_many e es p ps k d below h (inl lt) =
      get_or-map (λ q. get_or (e ∷ es) q e) (p ∷ ps) k k d lt
      ∙ get_or_default (e ∷ es) (held (p ∷ ps) k) e d (held_below (e ∷ es) (p ∷ ps) k below (inr h) (omega (arith, h)))
  chosen_many e es p ps k d below h (inr past) =
      get_or_past (map (λ q. get_or (e ∷ es) q e) (p ∷ ps)) k d (omega (arith, past, length-map (p ∷ ps) (λ q. get_or (e ∷ es) q e)))
      ∙ sym (ap (λ j. get_or (e ∷ es) j d) (held_past (e ∷ es) (p ∷ ps) k (inr h) (omega (arith, h, past))) ∙ get_or_past (e ∷ es) k d (omega (arith, h, past)))

  -- what stands at a place
  pub chosen_at : (entries : List X) (places : List ℕ) (k : ℕ) (d : X) → ((j : ℕ) → j < length places → get_or places j 0 < length entries) → (length places ≡ 0) ⊎ (length places ≡ length entries) → get_or (chosen places entries) k d ≡ get_or entries (held places k) d
  chosen_at entries [] k d below w = refl
  chosen_at [] (p ∷ ps) k d below w = absurd (omega (arith, below 0 (omega arith)))
  chosen_at (e ∷ es) (p ∷ ps) k d below (inl h) = absurd (omega (arith, h))
  chosen_at (e ∷ es) (p ∷ ps) k d below (inr h) = chosen_many e es p ps k d below h (cases_lt k (length (p ∷ ps)))

  get_by_cases : (e : X) (es : List X) (places : List ℕ) (k : ℕ) → ((j : ℕ) → j < length places → get_or places j 0 < length (e ∷ es)) → (length places ≡ 0) ⊎ (length places ≡ length (e ∷ es))
      → (k < length (e ∷ es)) ⊎ (length (e ∷ es) ≤ k) → slice_get (chosen places (e ∷ es)) k ≡ slice_get (e ∷ es) (held places k)
  get_by_cases e es places k below w (inl lt) =
      slice_get-get_or (chosen places (e ∷ es)) k e (omega (arith, lt, length-chosen (e ∷ es) places w))
      ∙ ap Some (chosen_at (e ∷ es) places k e below w)
      ∙ sym (slice_get-get_or (e ∷ es) (held places k) e (held_below (e ∷ es) places k below w lt))
  get_by_cases e es places k below w (inr past) =
      slice_get_past (chosen places (e ∷ es)) k (omega (arith, past, length-chosen (e ∷ es) places w))
      ∙ sym (ap (slice_get (e ∷ es)) (held_past (e ∷ es) places k w past) ∙ slice_get_past (e ∷ es) k past)

  pub chosen_get : (entries : List X) (places : List ℕ) (k : ℕ) → ((j : ℕ) → j < length places → get_or places j 0 < length entries) → (length places ≡ 0) ⊎ (length places ≡ length entries) → slice_get (chosen places entries) k ≡ slice_get entries (held places k)
  chosen_get [] [] k below w = refl
  chosen_get [] (p ∷ ps) k below w = refl
  chosen_get (e ∷ es) places k below w = get_by_cases e es places k below w (cases_lt k (length (e ∷ es)))

  pub chosen_none : (entries : List X) (places : List ℕ) → length places ≡ 0 → chosen places entries ≡ entries
  chosen_none entries [] h = refl
  chosen_none entries (p ∷ ps) h = absurd (omega (arith, h))

module _ {V : Type 0} where
  below_at : (x : List ℕ) (pairs : List (List ℕ × V)) (j : ℕ) (d : List ℕ × V) → IsTrue (below_all name_order x pairs) → j < length pairs → name_order x (get_or pairs j d).0 ≡ Less
  below_at x [] j d h lt = absurd (omega (arith, lt))
  below_at x (e ∷ es) zero d h lt = less (name_order x e.0) (and_parts _ _ h).0
    where
      less : (r : Ordering) → is_lt r ≡ true → r ≡ Less
      less Less h = refl
      less Equal h = absurd cc
      less Greater h = absurd cc
  below_at x (e ∷ es) (suc j) d h lt = below_at x es j d (and_parts _ _ h).1 (omega (arith, lt))

  -- the names strictly rise
  pub rising_at : (pairs : List (List ℕ × V)) (i j : ℕ) (d : List ℕ × V) → IsTrue (is_in_order pairs) → i < j → j < length pairs → name_order (get_or pairs i d).0 (get_or pairs j d).0 ≡ Less
  rising_at [] i j d h lt within = absurd (omega (arith, within))
  rising_at (e ∷ es) zero zero d h lt within = absurd (omega (arith, lt))
  rising_at (e ∷ es) zero (suc j) d h lt within = below_at e.0 es j d (and_parts _ _ h).0 (omega (arith, within))
  rising_at (e ∷ es) (suc i) zero d h lt within = absurd (omega (arith, lt))
  rising_at (e ∷ es) (suc i) (suc j) d h lt within = rising_at es i j d (and_parts _ _ h).1 (omega (arith, lt)) (omega (arith, within))

  order_there : (name : List ℕ) (entries : List (List ℕ × V)) (j : ℕ) (d : List ℕ × V) → j < length entries → order_at name (slice_get entries j) ≡ name_order (get_or entries j d).0 name
  order_there name entries j d lt = ap (order_at name) (slice_get-get_or entries j d lt)

  -- a name stands at its place
  pub stands_at : (name : List ℕ) (pairs : List (List ℕ × V)) (k : ℕ) (d : List ℕ × V) → IsTrue (is_in_order pairs) → k < length pairs → (get_or pairs k d).0 ≡ name → IsAt name pairs k
  stands_at name pairs k d h lt is = searched name pairs (Ok k) h lt (λ c. ap (λ p. name_order p.0 name) (get_or_default pairs k c d lt) ∙ ap (λ n. name_order n name) is ∙ tied_itself nat_list_cmp_total name)

some_or_none : {X : Type 0} (x : X) → Some x ≡ None → ⊥
some_or_none x h = cc

less_or_equal : Less ≡ Equal → ⊥
less_or_equal h = cc

module _ {V : Type 0} where
  -- a name that stands somewhere belongs nowhere else
  pub stands_once : (name : List ℕ) (pairs : List (List ℕ × V)) (k place : ℕ) (d : List ℕ × V) → IsTrue (is_in_order pairs) → k < length pairs → (get_or pairs k d).0 ≡ name → BelongsAt name pairs place → ⊥
  stands_once name pairs k place d h lt is at = some_or_none _ (found_at name pairs k d (stands_at name pairs k d h lt is) ∙ sym (not_found name pairs place at))

  -- names at two places differ
  pub other_names : (pairs : List (List ℕ × V)) (i j : ℕ) (d : List ℕ × V) → IsTrue (is_in_order pairs) → i < j → j < length pairs → (get_or pairs i d).0 ≡ (get_or pairs j d).0 → ⊥
  other_names pairs i j d h lt within same =
      less_or_equal (sym (rising_at pairs i j d h lt within) ∙ ap (λ n. name_order n (get_or pairs j d).0) same ∙ tied_itself nat_list_cmp_total (get_or pairs j d).0)

module _ {V : Type 0} (name : List ℕ) (entries : List (List ℕ × V)) (places : List ℕ) (order : IsOrder entries places) (placed : length places ≡ length entries) where
  order_placed : (k c : ℕ) (d : List ℕ × V) → k < length places → order_at name (slice_get entries (get_or places k c)) ≡ name_order (get_or (chosen places entries) k d).0 name
  order_placed k c d lt =
      ap (λ j. order_at name (slice_get entries j)) (get_or_default places k c k lt)
      ∙ order_there name entries (held places k) d (held_below entries places k order.below (inr placed) (omega (arith, lt, placed)))
      ∙ ap (λ p. name_order p.0 name) (sym (chosen_at entries places k d order.below (inr placed)))

  same_length : length (chosen places entries) ≡ length places
  same_length = length-chosen entries places (inr placed) ∙ sym placed

  -- a binary search among the places is one among the names
  place_found : (r : Result ℕ ℕ) (d : List ℕ × V) → IsSearchInRange r (length places) → IsBinarySearchResult (λ q. order_at name (slice_get entries q)) places r → IsBinarySearchResult (λ p. name_order p.0 name) (chosen places entries) r
  place_found (Ok place) d range is = λ c. sym (order_placed place 0 c range) ∙ is 0
  place_found (Err place) d range is = λ rising.
      let parts = is (λ i j c le lt. subst (λ n. n ≤ ordering_index (order_at name (slice_get entries (get_or places j c)))) (sym (ap ordering_index (order_placed i c d (omega (arith, le, lt)))))
      (subst (λ n. ordering_index (name_order (get_or (chosen places entries) i d).0 name) ≤ n) (sym (ap ordering_index (order_placed j c d lt))) (rising i j d le (omega (arith, lt, same_length))))) in
      (λ k c low high. sym (order_placed k 0 c (omega (arith, high, range))) ∙ parts.0 k 0 low high, λ k c low high. sym (order_placed k 0 c (omega (arith, high, same_length))) ∙ parts.1 k 0 low (omega (arith, high, same_length)))

  found_in : (es : List (List ℕ × V)) → es ≡ entries → 0 < length places → (r : Result ℕ ℕ) → IsSearchInRange r (length places) → IsBinarySearchResult (λ q. order_at name (slice_get entries q)) places r → IsBinarySearchResult (λ p. name_order p.0 name) (chosen places entries) r
  found_in [] e some r range is = absurd (omega (arith, some, placed, ap length e))
  found_in (d ∷ es) e some r range is = place_found r d range is

  in_range : (r : Result ℕ ℕ) → IsSearchInRange r (length places) → IsSearchInRange r (length (chosen places entries))
  in_range r range = subst (IsSearchInRange r) (sym same_length) range

  pub placed_search : 0 < length places → (r : Result ℕ ℕ) → IsSearchInRange r (length places) → IsBinarySearchResult (λ q. order_at name (slice_get entries q)) places r → IsPlace name (chosen places entries) r
  placed_search some r range is = searched name (chosen places entries) r order.rising (in_range r range) (found_in entries refl some r range is)

pub placed_all : {X : Type 0} (entries : List X) (places : List ℕ) → (length places ≡ 0) ⊎ (length places ≡ length entries) → 0 < length places → length places ≡ length entries
placed_all entries places (inl h) some = absurd (omega (arith, h, some))
placed_all entries places (inr h) some = h
