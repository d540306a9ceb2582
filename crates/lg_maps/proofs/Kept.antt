-- What holds of the parts of a map after each change.
use Rattle.std.proofs.Common.{◌≡◌, ◌⊎◌, inl, inr, ℕ, ◌+◌, ◌-◌, ◌<◌, ◌≤◌, ◌^◌, IsTrue, List, [], ◌∷◌, ◌++◌, length, get_or, set, insert, remove, slice_get, Some, Ok, refl, sym, ap, ap₂, subst, ◌∙◌, arith, length-set}
use Rattle.std.proofs.lemmas.List.{get_or-map, take_all, drop_all, length_push}
use Rattle.std.proofs.lemmas.List.Edits.{length-insert}
use Rattle.std.proofs.lemmas.List.FromFn.{get_or-range_with_len, length-range_with_len}
use Rattle.std.proofs.lemmas.Option.{slice_get-get_or}
use Rattle.std.specs.FinMap.Entries.{put, where_key}
use Rattle.std.specs.List.{range_with_len}
use Rattle.lg_containers.specs.NameOrder.{name_order, is_in_order, other_than}
use Rattle.lg_containers.specs.NameTable.{NameTable, pairs_of, len, remove as remove_name, insert as insert_name, from_pairs, keys-pairs}
use Rattle.lg_containers.specs.Places.{IsAt, BelongsAt}
use Rattle.lg_containers.proofs.Placed.{put_at, inserted_at, taken_at, in_gap}
use Rattle.lg_containers.proofs.Tables.{pairs_here, len_here, put_table, put_keeps, take_table, take_keeps}
use Rattle.lg_maps.specs.Chosen.{chosen, held, IsOrder, IsPlaceRoom, IsKept, IsOneLess, IsSpread}
use Rattle.lg_maps.specs.Contents.{name_at}
use Rattle.lg_maps.proofs.Chosen.{length-chosen, held_below, chosen_at, stands_at}
use Rattle.lg_maps.proofs.Changed.{inserted_few, inserted_many, length-more, below-more, same_chosen, below-set, whole-set, set_chosen, held_upto}

pub insert_end : {X : Type 0} (xs : List X) (x : X) → insert xs (length xs) x ≡ xs ++ x ∷ []
insert_end xs x = ap₂ (λ front back. front ++ x ∷ back) (take_all (length xs) xs (omega arith)) (drop_all (length xs) xs (omega arith))

no_places : (entries places spare room : ℕ) → IsPlaceRoom entries places spare room → 1 ≤ spare → room ≡ 0 → places ≡ 0
no_places entries places spare room (inl h) some none = h.1
no_places entries places spare room (inr h) some none = absurd (omega (arith, h.1, some, none))

all_places : (entries places spare room : ℕ) → IsPlaceRoom entries places spare room → (room ≡ 0 → ⊥) → (places ≡ entries) × (entries + spare ≤ room)
all_places entries places spare room (inl h) some = absurd (some h.0)
all_places entries places spare room (inr h) some = h

-- a name put where it belongs
module _ {V : Type 0} (entries : List (List ℕ × V)) (places : List ℕ) (spare entry_capacity place_capacity : ℕ) (kept : IsKept entries places spare entry_capacity place_capacity) (some : 1 ≤ spare)
    (name : List ℕ) (v : V) (place : ℕ) (at : BelongsAt name (chosen places entries) place) where
  fits : place ≤ length entries
  fits = subst (λ n. place ≤ n) (length-chosen entries places kept.order.whole) (in_gap name (chosen places entries) place at)

  pub entry_fits : length entries < entry_capacity
  entry_fits = omega (arith, kept.entry_room, some)

  put_rising : (new : List (List ℕ × V)) → new ≡ insert (chosen places entries) place (name, v) → IsTrue (is_in_order new)
  put_rising new is = put_keeps ℕ (Ok tt) (chosen places entries) new name v kept.order.rising (is ∙ inserted_at name (chosen places entries) place v at) tt

  put_shown : (new : List (List ℕ × V)) → new ≡ insert (chosen places entries) place (name, v) → (t : NameTable V) → from_pairs (chosen places entries) ≡ t → from_pairs new ≡ insert_name t name v
  put_shown new is t e = put_table (chosen places entries) new t name v kept.order.rising e (is ∙ inserted_at name (chosen places entries) place v at)

  module _ (none : place_capacity ≡ 0) where
    few : length places ≡ 0
    few = no_places (length entries) (length places) spare place_capacity kept.place_room some none

    pub fits_few : place ≤ length entries
    fits_few = fits

    pub kept_few : (capacity : ℕ) → entry_capacity ≤ capacity → IsKept (insert entries place (name, v)) places (spare - 1) capacity place_capacity
    kept_few capacity le =
        let longer : length (insert entries place (name, v)) ≡ length entries + 1 = length-insert entries place (name, v) fits in
        record {
          order = record {
            below = λ k lt. absurd (omega (arith, lt, few));
            whole = inl few;
            rising = put_rising _ (inserted_few entries places place (name, v) few);
          };
          entry_room = omega (arith, longer, kept.entry_room, some, le);
          place_room = inl (none, few);
          limit = omega (arith, longer, some, kept.limit);
        }

    pub table_few : (t : NameTable V) → from_pairs (chosen places entries) ≡ t → from_pairs (chosen places (insert entries place (name, v))) ≡ insert_name t name v
    table_few = put_shown _ (inserted_few entries places place (name, v) few)

  module _ (many : place_capacity ≡ 0 → ⊥) where
    room : (length places ≡ length entries) × (length entries + spare ≤ place_capacity)
    room = all_places (length entries) (length places) spare place_capacity kept.place_room many

    pub place_fits : length places < place_capacity
    place_fits = omega (arith, room.0, room.1, some)

    pub fits_places : place ≤ length places
    fits_places = omega (arith, fits, room.0)

    pub kept_many : (new : List (List ℕ × V)) → new ≡ insert entries (length entries) (name, v) → (capacity room : ℕ) → entry_capacity ≤ capacity → place_capacity ≤ room
        → IsKept new (insert places place (length entries)) (spare - 1) capacity room
    kept_many new is capacity wide le wider =
        subst (λ es. IsKept es (insert places place (length entries)) (spare - 1) capacity wide) (sym (is ∙ insert_end entries (name, v)))
        (let longer : length (entries ++ (name, v) ∷ []) ≡ length entries + 1 = length_push entries (name, v) in
        record {
          order = record {
            below = below-more entries places place (name, v) kept.order.below room.0 fits_places;
            whole = inr (length-more entries places place (name, v) kept.order.below room.0 fits_places);
            rising = put_rising _ (inserted_many entries places place (name, v) kept.order.below room.0 fits_places);
          };
          entry_room = omega (arith, longer, kept.entry_room, some, le);
          place_room = inr (length-more entries places place (name, v) kept.order.below room.0 fits_places, omega (arith, longer, room.1, some, wider));
          limit = omega (arith, longer, some, kept.limit);
        })

    pub table_many : (new : List (List ℕ × V)) → new ≡ insert entries (length entries) (name, v) → (t : NameTable V) → from_pairs (chosen places entries) ≡ t
        → from_pairs (chosen (insert places place (length entries)) new) ≡ insert_name t name v
    table_many new is = put_shown _ (ap (chosen (insert places place (length entries))) (is ∙ insert_end entries (name, v)) ∙ inserted_many entries places place (name, v) kept.order.below room.0 fits_places)

-- an entry taken out
one_less_whole : (places entries new_places new_entries : ℕ) → (places ≡ 0) ⊎ (places ≡ entries) → IsOneLess places new_places → new_entries + 1 ≡ entries → (new_places ≡ 0) ⊎ (new_places ≡ new_entries)
one_less_whole places entries new_places new_entries w (inl h) less = inl h.1
one_less_whole places entries new_places new_entries (inl z) (inr h) less = absurd (omega (arith, z, h))
one_less_whole places entries new_places new_entries (inr z) (inr h) less = inr (omega (arith, z, h, less))

one_less_room : (places entries new_places new_entries spare room : ℕ) → IsPlaceRoom entries places spare room → IsOneLess places new_places → new_entries + 1 ≡ entries → IsPlaceRoom new_entries new_places spare room
one_less_room places entries new_places new_entries spare room (inl r) (inl h) less = inl (r.0, h.1)
one_less_room places entries new_places new_entries spare room (inl r) (inr h) less = absurd (omega (arith, r.1, h))
one_less_room places entries new_places new_entries spare room (inr r) (inl h) less = absurd (omega (arith, r.0, h.0, less))
one_less_room places entries new_places new_entries spare room (inr r) (inr h) less = inr (omega (arith, r.0, h, less), omega (arith, r.1, less))

module _ {V : Type 0} (entries : List (List ℕ × V)) (places : List ℕ) (spare entry_capacity place_capacity : ℕ) (kept : IsKept entries places spare entry_capacity place_capacity)
    (name : List ℕ) (place : ℕ) (at : IsAt name (chosen places entries) place)
    (new_entries : List (List ℕ × V)) (new_places : List ℕ) (rest : chosen new_places new_entries ≡ remove (chosen places entries) place) where
  without_name : chosen new_places new_entries ≡ where_key name_order (other_than name) (chosen places entries)
  without_name = rest ∙ taken_at name (chosen places entries) place at

  pub kept_taken : ((k : ℕ) → k < length new_places → get_or new_places k 0 < length new_entries) → length new_entries + 1 ≡ length entries → IsOneLess (length places) (length new_places)
      → IsKept new_entries new_places spare entry_capacity place_capacity
  kept_taken below less one = record {
    order = record {
      below = below;
      whole = one_less_whole (length places) (length entries) (length new_places) (length new_entries) kept.order.whole one less;
      rising = take_keeps (chosen places entries) (chosen new_places new_entries) name kept.order.rising without_name;
    };
    entry_room = omega (arith, less, kept.entry_room);
    place_room = one_less_room (length places) (length entries) (length new_places) (length new_entries) spare place_capacity kept.place_room one less;
    limit = omega (arith, less, kept.limit);
  }

  pub table_taken : (t : NameTable V) → from_pairs (chosen places entries) ≡ t → from_pairs (chosen new_places new_entries) ≡ remove_name t name
  table_taken t e = take_table (chosen places entries) (chosen new_places new_entries) t name kept.order.rising e without_name

-- room made
module _ {V : Type 0} (entries : List (List ℕ × V)) (old : List ℕ) (order : IsOrder entries old) where
  spread_below : (k : ℕ) → k < length (range_with_len 0 (length entries)) → get_or (range_with_len 0 (length entries)) k 0 < length entries
  spread_below k lt =
      let less : k < length entries = omega (arith, lt, length-range_with_len 0 (length entries)) in
      subst (λ v. v < length entries) (sym (get_or-range_with_len 0 (length entries) k 0 less)) (omega (arith, less))

  spread_all : (length old ≡ 0) → chosen (range_with_len 0 (length entries)) entries ≡ chosen old entries
  spread_all none =
      same_chosen entries old (range_with_len 0 (length entries)) order.below order.whole spread_below (inr (length-range_with_len 0 (length entries)))
      (λ k. held_upto (length entries) k ∙ sym (held_none old k none))
    where
      held_none : (places : List ℕ) (k : ℕ) → length places ≡ 0 → held places k ≡ k
      held_none [] k h = refl
      held_none (p ∷ ps) k h = absurd (omega (arith, h))

  pub spread_chosen : (new : List ℕ) → IsSpread (length entries) old new → chosen new entries ≡ chosen old entries
  spread_chosen new (inl is) = ap (λ ps. chosen ps entries) is
  spread_chosen new (inr h) = ap (λ ps. chosen ps entries) h.1 ∙ spread_all h.0

  pub spread_order : (new : List ℕ) → IsSpread (length entries) old new → IsOrder entries new
  spread_order new (inl is) = subst (IsOrder entries) (sym is) order
  spread_order new (inr h) =
      subst (IsOrder entries) (sym h.1)
      (record {
        below = spread_below;
        whole = inr (length-range_with_len 0 (length entries));
        rising = subst (λ ps. IsTrue (is_in_order ps)) (sym (spread_all h.0)) order.rising;
      })

-- a value lent at a place
pub name_of : {V : Type 0} (t : NameTable V) (place : ℕ) (d : List ℕ × V) → place < length (pairs_of t) → name_at t place ≡ (get_or (pairs_of t) place d).0
name_of t place d lt = ap (λ ks. get_or ks place []) (keys-pairs t) ∙ get_or-map (λ p. p.0) (pairs_of t) place d [] lt

module _ {V : Type 0} (entries : List (List ℕ × V)) (places : List ℕ) (order : IsOrder entries places) (place : ℕ) (within : place < length entries)
    (t : NameTable V) (e : from_pairs (chosen places entries) ≡ t) (entry : List ℕ × V) (there : entry ≡ get_or entries (held places place) entry) where
  stands : entry ≡ get_or (chosen places entries) place entry
  stands = there ∙ sym (chosen_at entries places place entry order.below order.whole)

  inside : place < length (chosen places entries)
  inside = subst (λ n. place < n) (sym (length-chosen entries places order.whole)) within

  at : IsAt entry.0 (chosen places entries) place
  at = stands_at entry.0 (chosen places entries) place entry order.rising inside (ap (λ p. p.0) (sym stands))

  shown : chosen places entries ≡ pairs_of t
  shown = pairs_here (chosen places entries) t order.rising e

  name_is : name_at t place ≡ entry.0
  name_is = name_of t place entry (subst (λ ps. place < length ps) shown inside) ∙ ap (λ ps. (get_or ps place entry).0) (sym shown) ∙ ap (λ p. p.0) (sym stands)

  changed : (w : V) → chosen places (set entries (held places place) (entry.0, w)) ≡ put name_order entry.0 w (chosen places entries)
  changed w = set_chosen entries places order place (entry.0, w) within ∙ put_at entry.0 (chosen places entries) place w at

  pub lent_table : (w : V) → from_pairs (chosen places (set entries (held places place) (entry.0, w))) ≡ insert_name t (name_at t place) w
  lent_table w = put_table (chosen places entries) _ t entry.0 w order.rising e (changed w) ∙ ap (λ n. insert_name t n w) (sym name_is)

  pub lent_order : (w : V) → IsOrder (set entries (held places place) (entry.0, w)) places
  lent_order w = record {
    below = below-set entries places order place (entry.0, w) within;
    whole = whole-set entries places order place (entry.0, w) within;
    rising = put_keeps ℕ (Ok tt) (chosen places entries) _ entry.0 w order.rising (changed w) tt;
  }

  pub lent_value : slice_get (pairs_of t) place ≡ Some (name_at t place, entry.1)
  lent_value =
      ap (λ ps. slice_get ps place) (sym shown)
      ∙ slice_get-get_or (chosen places entries) place entry inside
      ∙ ap Some (sym stands)
      ∙ ap (λ n. Some (n, entry.1)) (sym name_is)

-- nothing yet
pub kept_new : {V : Type 0} (entries : List (List ℕ × V)) (places : List ℕ) (entry_capacity place_capacity : ℕ) → entries ≡ [] → places ≡ [] → place_capacity ≡ 0 → IsKept entries places 0 entry_capacity place_capacity
kept_new entries places entry_capacity place_capacity no_entries none empty = record {
  order = record {
    below = λ k lt. absurd (omega (arith, lt, ap length none));
    whole = inl (ap length none);
    rising = ap₂ (λ ps es. is_in_order (chosen ps es)) none no_entries;
  };
  entry_room = omega (arith, ap length no_entries);
  place_room = inl (empty, ap length none);
  limit = omega (arith, ap length no_entries);
}

-- room asked for
pub kept_more : {V : Type 0} (entries new_entries : List (List ℕ × V)) (places new_places : List ℕ) (more entry_capacity place_capacity : ℕ) → IsOrder entries places → new_entries ≡ entries
    → IsSpread (length entries) places new_places → length entries + more ≤ entry_capacity → IsPlaceRoom (length entries) (length new_places) more place_capacity → length entries + more ≤ 2 ^ 32
    → IsKept new_entries new_places more entry_capacity place_capacity
kept_more entries new_entries places new_places more entry_capacity place_capacity order same spread fits room limit =
    subst (λ es. IsKept es new_places more entry_capacity place_capacity) (sym same)
    (record { order = spread_order entries places order new_places spread; entry_room = fits; place_room = room; limit = limit })

-- a copy
copied_room : (entries places capacity : ℕ) → (places ≡ 0) ⊎ (places ≡ entries) → (places ≡ 0 → capacity ≡ 0) → places ≤ capacity → IsPlaceRoom entries places 0 capacity
copied_room entries places capacity (inl h) none fits = inl (none h, h)
copied_room entries places capacity (inr h) none fits = inr (h, omega (arith, h, fits))

pub kept_copy : {V : Type 0} (entries own_entries : List (List ℕ × V)) (places own_places : List ℕ) (entry_capacity place_capacity : ℕ) → IsOrder entries places → length entries ≤ 2 ^ 32 → own_entries ≡ entries → own_places ≡ places
    → length own_entries ≤ entry_capacity → length own_places ≤ place_capacity → (length places ≡ 0 → place_capacity ≡ 0) → IsKept own_entries own_places 0 entry_capacity place_capacity
kept_copy entries own_entries places own_places entry_capacity place_capacity order limit same_entries same_places fits places_fit none =
    let room : IsPlaceRoom (length entries) (length places) 0 place_capacity = copied_room (length entries) (length places) place_capacity order.whole none (subst (λ ps. length ps ≤ place_capacity) same_places places_fit) in
    subst (λ ps. IsKept own_entries ps 0 entry_capacity place_capacity) (sym same_places)
    (subst (λ es. IsKept es places 0 entry_capacity place_capacity) (sym same_entries)
    (record { order = order; entry_room = omega (arith, fits, ap length same_entries); place_room = room; limit = omega (arith, limit) }))

-- room made that counts for nothing yet
pub kept_room : {V : Type 0} (entries new_entries : List (List ℕ × V)) (places new_places : List ℕ) (spare entry_capacity place_capacity capacity room : ℕ) → IsKept entries places spare entry_capacity place_capacity
    → new_entries ≡ entries → IsSpread (length entries) places new_places → entry_capacity ≤ capacity → IsPlaceRoom (length entries) (length new_places) spare room
    → IsKept new_entries new_places spare capacity room
kept_room entries new_entries places new_places spare entry_capacity place_capacity capacity room kept same spread le fits =
    kept_more entries new_entries places new_places spare capacity room kept.order same spread (omega (arith, kept.entry_room, le)) fits kept.limit

pub shown_room : {V : Type 0} (entries new_entries : List (List ℕ × V)) (places new_places : List ℕ) → IsOrder entries places → new_entries ≡ entries → IsSpread (length entries) places new_places → chosen new_places new_entries ≡ chosen places entries
shown_room entries new_entries places new_places order same spread = ap (chosen new_places) same ∙ spread_chosen entries places order new_places spread

-- the entry that is lent, by the place that it has among the entries
module _ {V : Type 0} (entries : List (List ℕ × V)) (places : List ℕ) (spare entry_capacity place_capacity : ℕ) (kept : IsKept entries places spare entry_capacity place_capacity)
    (place : ℕ) (t : NameTable V) (e : from_pairs (chosen places entries) ≡ t) (within : place < len t)
    (at : ℕ) (at_is : at ≡ held places place) where
  pub lent_within : place < length entries
  lent_within = subst (λ n. place < n) (sym (len_here (chosen places entries) t kept.order.rising e) ∙ length-chosen entries places kept.order.whole) within

  pub lent_inside : at < length entries
  lent_inside = subst (λ n. n < length entries) (sym at_is) (held_below entries places place kept.order.below kept.order.whole lent_within)

  module _ (entry : List ℕ × V) (there : entry ≡ get_or entries at entry) where
    stands_there : entry ≡ get_or entries (held places place) entry
    stands_there = there ∙ ap (λ h. get_or entries h entry) at_is

    pub lent_table_at : (w : V) → from_pairs (chosen places (set entries at (entry.0, w))) ≡ insert_name t (name_at t place) w
    lent_table_at w = ap (λ h. from_pairs (chosen places (set entries h (entry.0, w)))) at_is ∙ lent_table entries places kept.order place lent_within t e entry stands_there w

    pub lent_kept : (w : V) → IsKept (set entries at (entry.0, w)) places spare entry_capacity place_capacity
    lent_kept w =
        let same : length (set entries at (entry.0, w)) ≡ length entries = length-set entries at (entry.0, w) in
        record {
          order = subst (λ h. IsOrder (set entries h (entry.0, w)) places) (sym at_is) (lent_order entries places kept.order place lent_within t e entry stands_there w);
          entry_room = omega (arith, same, kept.entry_room);
          place_room = subst (λ n. IsPlaceRoom n (length places) spare place_capacity) (sym same) kept.place_room;
          limit = omega (arith, same, kept.limit);
        }

    pub lent_value_at : slice_get (pairs_of t) place ≡ Some (name_at t place, entry.1)
    lent_value_at = lent_value entries places kept.order place lent_within t e entry stands_there

pub kept_at : {V : Type 0} (entries : List (List ℕ × V)) (places : List ℕ) (spare entry_capacity place_capacity capacity wide : ℕ) → capacity ≡ entry_capacity → wide ≡ place_capacity
    → IsKept entries places spare entry_capacity place_capacity → IsKept entries places spare capacity wide
kept_at entries places spare entry_capacity place_capacity capacity wide p q kept =
    subst (λ r. IsKept entries places spare capacity r) (sym q) (subst (λ c. IsKept entries places spare c place_capacity) (sym p) kept)
