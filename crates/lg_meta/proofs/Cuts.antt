-- An index whose places are cut at a limit.
use Rattle.std.proofs.Common.{◌≡◌, ℕ, zero, suc, ◌+◌, ◌<◌, ◌≤◌, Bool, true, false, cond, List, [], ◌∷◌, ◌++◌, length, get_or, set, take, drop, map, filter, nat_lt, unwrap_or, slice_get, IsTrue, T, Option, Some, None, refl, sym, ap, ap₂, ◌∙◌, arith}
use Rattle.std.proofs.lemmas.Option.{slice_get-get_or}
use Rattle.std.specs.Ordering.{eq_by_cmp}
use Rattle.std.specs.FinMap.Entries.{find}
use Rattle.lg_containers.specs.NameOrder.{name_order, is_in_order}
use Rattle.lg_containers.specs.NameTable.{NameTable, pairs_of, len, insert, get-pairs, len-pairs, pairs-insert, pairs_in_order}
use Rattle.lg_containers.specs.Places.{IsAt}
use Rattle.lg_containers.proofs.Placed.{found_at, put_at}
use Rattle.lg_maps.specs.Contents.{name_at}
use Rattle.lg_maps.proofs.Chosen.{stands_at}
use Rattle.lg_meta.specs.Index.{places_in}
use Rattle.lg_meta.proofs.Marking.{map_step, map_done}

abbrev pub cut_entry : ℕ → List ℕ × List ℕ → List ℕ × List ℕ
cut_entry limit entry = (entry.0, filter (λ place. nat_lt place limit) entry.1)

cut_found : (limit : ℕ) (b : Bool) (places : List ℕ) (o p : Option (List ℕ)) → unwrap_or o [] ≡ filter (λ place. nat_lt place limit) (unwrap_or p [])
    → unwrap_or (cond b (Some (filter (λ place. nat_lt place limit) places)) o) [] ≡ filter (λ place. nat_lt place limit) (unwrap_or (cond b (Some places) p) [])
cut_found limit true places o p h = refl
cut_found limit false places o p h = h

find-cut : (limit : ℕ) (pairs : List (List ℕ × List ℕ)) (q : List ℕ) → unwrap_or (find name_order q (map (cut_entry limit) pairs)) [] ≡ filter (λ place. nat_lt place limit) (unwrap_or (find name_order q pairs) [])
find-cut limit [] q = refl
find-cut limit (e ∷ es) q =
    cut_found limit (eq_by_cmp name_order q e.0) e.1 (find name_order q (map (cut_entry limit) es)) (find name_order q es) (find-cut limit es q)

pub places_in-cut : (limit : ℕ) (index new : NameTable (List ℕ)) → pairs_of new ≡ map (cut_entry limit) (pairs_of index) → (q : List ℕ) → places_in new q ≡ filter (λ place. nat_lt place limit) (places_in index q)
places_in-cut limit index new is q =
    ap (λ o. unwrap_or o []) (get-pairs new q ∙ ap (find name_order q) is)
    ∙ find-cut limit (pairs_of index) q
    ∙ ap (λ o. filter (λ place. nat_lt place limit) (unwrap_or o [])) (sym (get-pairs index q))

holds : (b : Bool) → T b → IsTrue b
holds true h = refl
holds false h = absurd h

some_pair : (p q : List ℕ × List ℕ) → Some p ≡ Some q → p ≡ q
some_pair p q h = cc

-- the pair at a place
pub pair_at : (t : NameTable (List ℕ)) (place : ℕ) (p : List ℕ × List ℕ) → place < length (pairs_of t) → slice_get (pairs_of t) place ≡ Some p → p ≡ get_or (pairs_of t) place p
pair_at t place p lt is = some_pair p (get_or (pairs_of t) place p) (sym is ∙ slice_get-get_or (pairs_of t) place p lt)

pub stands_there : (t : NameTable (List ℕ)) (place : ℕ) (p : List ℕ × List ℕ) → place < length (pairs_of t) → slice_get (pairs_of t) place ≡ Some p → IsAt p.0 (pairs_of t) place
stands_there t place p lt is = stands_at p.0 (pairs_of t) place p (holds (is_in_order (pairs_of t)) (pairs_in_order t)) lt (ap (λ (e : List ℕ × List ℕ). e.0) (sym (pair_at t place p lt is)))

-- the value at a place set
pub pairs_set : (t : NameTable (List ℕ)) (place : ℕ) (old new : List ℕ) → place < length (pairs_of t) → slice_get (pairs_of t) place ≡ Some (name_at t place, old)
    → pairs_of (insert t (name_at t place) new) ≡ set (pairs_of t) place (name_at t place, new)
pairs_set t place old new lt is =
    pairs-insert t (name_at t place) new ∙ sym (put_at (name_at t place) (pairs_of t) place new (stands_there t place (name_at t place, old) lt is))

pub places_at : (t : NameTable (List ℕ)) (place : ℕ) (p : List ℕ × List ℕ) → place < length (pairs_of t) → slice_get (pairs_of t) place ≡ Some p → p.1 ≡ places_in t p.0
places_at t place p lt is =
    ap (λ (e : List ℕ × List ℕ). e.1) (pair_at t place p lt is)
    ∙ ap (λ o. unwrap_or o []) (found_at p.0 (pairs_of t) place p (stands_there t place p lt is) ∙ sym (get-pairs t p.0))

none_or_some : {X : Type 0} (x : X) → None ≡ Some x → ⊥
none_or_some x h = cc

-- below their number a pair is there
pub none_there : (t : NameTable (List ℕ)) (place : ℕ) → place < length (pairs_of t) → None ≡ slice_get (pairs_of t) place → ⊥
none_there t place lt is = none_or_some (get_or (pairs_of t) place ([], [])) (is ∙ slice_get-get_or (pairs_of t) place ([], []) lt)

-- a loop that cuts one name's places after another's
length-step : {X : Type 0} (f : X → X) (xs : List X) (i : ℕ) → length (map f (take i xs) ++ drop i xs) ≡ length xs
length-step f xs zero = refl
length-step f [] (suc i) = refl
length-step f (x ∷ xs) (suc i) = let rest : length (map f (take i xs) ++ drop i xs) ≡ length xs = length-step f xs i in omega (arith, rest)

module _ (limit : ℕ) (start now : NameTable (List ℕ)) (at : ℕ) (so_far : pairs_of now ≡ map (cut_entry limit) (take at (pairs_of start)) ++ drop at (pairs_of start)) where
  same_length : length (pairs_of now) ≡ length (pairs_of start)
  same_length = ap length so_far ∙ length-step (cut_entry limit) (pairs_of start) at

  pub cut_within : at < len start → at < len now
  cut_within lt = omega (arith, same_length, len-pairs start, len-pairs now, lt)

  pub cut_more : (old new : List ℕ) → at < len start → slice_get (pairs_of now) at ≡ Some (name_at now at, old) → new ≡ filter (λ place. nat_lt place limit) old
      → pairs_of (insert now (name_at now at) new) ≡ map (cut_entry limit) (take (at + 1) (pairs_of start)) ++ drop (at + 1) (pairs_of start)
  cut_more old new lt is made =
      let within : at < length (pairs_of start) = omega (arith, len-pairs start, lt) in
      let inside : at < length (pairs_of now) = omega (arith, same_length, within) in
      let one : suc at ≡ at + 1 = omega arith in
      pairs_set now at old new inside is
      ∙ ap₂ (λ xs places. set xs at (name_at now at, places)) so_far made
      ∙ map_step (cut_entry limit) (pairs_of start) at (name_at now at, old) within (pair_at now at (name_at now at, old) inside is ∙ ap (λ xs. get_or xs at (name_at now at, old)) so_far)
      ∙ ap (λ n. map (cut_entry limit) (take n (pairs_of start)) ++ drop n (pairs_of start)) one

  pub cut_all : len start ≤ at → (q : List ℕ) → places_in now q ≡ filter (λ place. nat_lt place limit) (places_in start q)
  cut_all le = let past : length (pairs_of start) ≤ at = omega (arith, len-pairs start, le) in places_in-cut limit start now (so_far ∙ map_done (cut_entry limit) (pairs_of start) at past)
