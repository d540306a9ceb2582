-- Entries in the order of their coming, and the places that put them in the order of their names.
--     chosen places entries    the entries at the places; where there are no places, the entries as they stand
--     held places place        which entry stands at the place
--     IsOrder entries places   each place is that of an entry; there are no places, or as many as entries; the names strictly rise
--     IsPlaceRoom n m more room    there is no room for places and none is needed yet; or n entries have m = n places, and there is room for more
--     IsKept ..                what holds of the parts of a map: their order, and room for the spare names
--     IsOneLess, IsSpread      what becomes of the places where an entry goes, and where room is made
use Rattle.std.specs.Prelude.{◌≡◌, ◌⊎◌, ℕ, ◌+◌, ◌<◌, ◌≤◌, ◌^◌, List, [], ◌∷◌, map, length, slice_index, slice_index_or, IsTrue}
use Rattle.std.specs.List.{range_with_len}
use Rattle.lg_containers.specs.NameOrder.{is_in_order}

abbrev pub chosen : {X : Type 0} → List ℕ → List X → List X
chosen [] entries = entries
chosen (p ∷ ps) [] = []
chosen (p ∷ ps) (e ∷ es) = map (λ q. slice_index_or (e ∷ es) q e) (p ∷ ps)

abbrev pub held : List ℕ → ℕ → ℕ
held places place = slice_index_or places place place

pub record IsOrder {V : Type 0} (entries : List (List ℕ × V)) (places : List ℕ) : Type 0 where
  pub below : (k : ℕ) → k < length places → slice_index places k < length entries
  pub whole : (length places ≡ 0) ⊎ (length places ≡ length entries)
  pub rising : IsTrue (is_in_order (chosen places entries))

abbrev pub IsPlaceRoom : ℕ → ℕ → ℕ → ℕ → Type 0
IsPlaceRoom entries places more room = ((room ≡ 0) × (places ≡ 0)) ⊎ ((places ≡ entries) × (entries + more ≤ room))

pub record IsKept {V : Type 0} (entries : List (List ℕ × V)) (places : List ℕ) (spare entry_capacity place_capacity : ℕ) : Type 0 where
  pub order : IsOrder entries places
  pub entry_room : length entries + spare ≤ entry_capacity
  pub place_room : IsPlaceRoom (length entries) (length places) spare place_capacity
  pub limit : length entries + spare ≤ 2 ^ 32

-- how many places there are when one entry has gone
abbrev pub IsOneLess : ℕ → ℕ → Type 0
IsOneLess old new = ((old ≡ 0) × (new ≡ 0)) ⊎ (new + 1 ≡ old)

-- the places are as they were; or there were none, and each entry got its own
abbrev pub IsSpread : ℕ → List ℕ → List ℕ → Type 0
IsSpread count old new = (new ≡ old) ⊎ ((length old ≡ 0) × (new ≡ range_with_len 0 count))
