-- Where the names of a path stand.
use Rattle.std.proofs.Common.{inl, inr, ◌≡◌, ℕ, ◌+◌, ◌<◌, ◌≤◌, Bool, true, false, ◌&&◌, cond, ◌==◌, List, [], ◌∷◌, map, length, drop, get_or, Option, Some, None, Decides, refl, ap, sym, subst, ◌∙◌, arith, rules}
use Rattle.std.specs.List.{find, filter, list_all}
use Rattle.std.specs.Str.{bytes_eq}
use Rattle.std.proofs.lemmas.Slice.Eq.{bytes_eq-Decides}
use Rattle.std.proofs.lemmas.List.{drop_more, drop_all}
use Rattle.std.proofs.lemmas.Grind.{common_steps}
use Rattle.std.proofs.lemmas.Bool.{false≢true, cases_lt}
use Rattle.lg_readings.specs.Routes.{Segment, Word, Named, Route, fits_path, segment_fits, names_in, name_at, has_path, has_method, routes}
use Rattle.lg_routes.specs.Table.{segments_of, name_places, segment_at, names_of, HasNamesOf}

-- where the names of a pattern stand, whose first segment stands at a place
abbrev places : ℕ → List Segment → List ℕ
places n [] = []
places n (Word w ∷ ps) = places (n + 1) ps
places n (Named ∷ ps) = n ∷ places (n + 1) ps

and_left : (a b : Bool) → (a && b) ≡ true → a ≡ true
and_left true b h = refl
and_left false b h = absurd (false≢true h)

and_right : (a b : Bool) → (a && b) ≡ true → b ≡ true
and_right true b h = h
and_right false b h = absurd (false≢true h)

same_length : (ps : List Segment) (ss : List (List ℕ)) → fits_path ps ss ≡ true → length ss ≡ length ps
same_length [] [] h = refl
same_length [] (s ∷ ss) h = absurd (false≢true h)
same_length (p ∷ ps) [] h = absurd (false≢true h)
same_length (p ∷ ps) (s ∷ ss) h = let e = same_length ps ss (and_right (segment_fits p s) (fits_path ps ss) h) in grind (arith, common_steps, e)

named_first : (p : Segment) (ps : List Segment) (all : List (List ℕ)) (n : ℕ) (rest : List (List ℕ))
    → rest ≡ map (segment_at all) (places (n + 1) ps) → name_at p (get_or all n []) rest ≡ map (segment_at all) (places n (p ∷ ps))
named_first (Word w) ps all n rest h = h
named_first Named ps all n rest h = ap (λ (r : List (List ℕ)). get_or all n [] ∷ r) h

named_from : (ps : List Segment) (all : List (List ℕ)) (n : ℕ) → fits_path ps (drop n all) ≡ true → names_in ps (drop n all) ≡ map (segment_at all) (places n ps)
named_from [] all n h = refl
named_from (p ∷ ps) all n h = elim (cases_lt n (length all)) [
  | inl below ↦
      let more : drop n all ≡ get_or all n [] ∷ drop (n + 1) all = drop_more all n [] below in
      let fits : (segment_fits p (get_or all n []) && fits_path ps (drop (n + 1) all)) ≡ true = subst (λ (ss : List (List ℕ)). fits_path (p ∷ ps) ss ≡ true) more h in
      ap (λ (ss : List (List ℕ)). names_in (p ∷ ps) ss) more
      ∙ named_first p ps all n (names_in ps (drop (n + 1) all)) (named_from ps all (n + 1) (and_right (segment_fits p (get_or all n [])) (fits_path ps (drop (n + 1) all)) fits))
  | inr past ↦ absurd (false≢true (subst (λ (ss : List (List ℕ)). fits_path (p ∷ ps) ss ≡ true) (drop_all n all past) h))
]

-- the pattern of a route is that of its row
abbrev is_good : Route → Bool
is_good r = (length r.path == segments_of r.row) && bytes_eq (places 0 r.path) (name_places r.row)

all_good : list_all is_good routes ≡ true
all_good = refl

module _ (P M Q : Route → Bool) where
  found_first : (x r : Route) (rs : List Route) (b c : Bool) → P x ≡ b → M x ≡ c → Q x ≡ true
      → (find M (filter P rs) ≡ Some r → (Q r ≡ true) × (P r ≡ true))
      → cond b (cond c (Some x) (find M (filter P rs))) (find M (filter P rs)) ≡ Some r → (Q r ≡ true) × (P r ≡ true)
  found_first x r rs true true p m q more e = let same : x ≡ r = cc in subst (λ (y : Route). (Q y ≡ true) × (P y ≡ true)) same (q, p)
  found_first x r rs true false p m q more e = more e
  found_first x r rs false c p m q more e = more e

  unfolded : (x : Route) (rs : List Route) (b : Bool) → find M (cond b (x ∷ filter P rs) (filter P rs)) ≡ cond b (cond (M x) (Some x) (find M (filter P rs))) (find M (filter P rs))
  unfolded x rs true = refl
  unfolded x rs false = refl

  found : (rs : List Route) (r : Route) → list_all Q rs ≡ true → find M (filter P rs) ≡ Some r → (Q r ≡ true) × (P r ≡ true)
  found [] r q e = absurd (let none : ◌≡◌ {A = Option Route} None (Some r) = e in cc)
  found (x ∷ xs) r q e =
      found_first x r xs (P x) (M x) refl refl (and_left (Q x) (list_all Q xs) q) (found xs r (and_right (Q x) (list_all Q xs) q))
      (sym (unfolded x xs (P x)) ∙ e)

-- the route that is found for segments has its names among them
pub has_names : (segments : List (List ℕ)) (method : List ℕ) (r : Route) → find (has_method method) (filter (has_path segments) routes) ≡ Some r → HasNamesOf r segments
has_names segments method r e =
    let both = found (has_path segments) (has_method method) is_good routes r all_good e in
    let count : (length r.path == segments_of r.row) ≡ true = and_left (length r.path == segments_of r.row) (bytes_eq (places 0 r.path) (name_places r.row)) both.0 in
    let places_same : places 0 r.path ≡ name_places r.row = (bytes_eq-Decides (places 0 r.path) (name_places r.row)).0 (and_right (length r.path == segments_of r.row) (bytes_eq (places 0 r.path) (name_places r.row)) both.0) in
    let long = same_length r.path segments both.1 in
    record {
      count = grind (arith, common_steps, long, count);
      names = named_from r.path segments 0 both.1 ∙ ap (map (segment_at segments)) places_same;
    }
