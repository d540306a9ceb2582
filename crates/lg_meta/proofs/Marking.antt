-- An index to which places are added.
use Rattle.std.proofs.Common.{◌≡◌, ℕ, zero, suc, ◌+◌, ◌<◌, ◌≤◌, Bool, true, false, cond, List, [], ◌∷◌, ◌++◌, length, get_or, set, take, drop, map, filter, nat_lt, unwrap_or, OnErr, Option, Some, Result, Ok, Err, refl, sym, ap, ap₂, ◌∙◌, arith, append_assoc, append-nil}
use Rattle.std.proofs.lemmas.List.{take_more, take_all, drop_all, map-append}
use Rattle.std.proofs.lemmas.List.Elements.{filter-append}
use Rattle.std.specs.Ordering.{eq_by_cmp}
use Rattle.lg_containers.specs.NameOrder.{name_order}
use Rattle.lg_containers.specs.NameTable.{NameTable, get, insert, get-insert}
use Rattle.lg_meta.specs.Index.{hits, places_in, SameBelowPlace}
use Rattle.lg_meta.proofs.Folds.{same_names}
use Rattle.lg_meta.proofs.Marks.{hits-append, hits-from}

unwrap-cond : (b : Bool) (v : List ℕ) (o : Option (List ℕ)) → unwrap_or (cond b (Some v) o) [] ≡ cond b v (unwrap_or o [])
unwrap-cond true v o = refl
unwrap-cond false v o = refl

marked_there : (index : NameTable (List ℕ)) (name : List ℕ) (old : List ℕ) (place : ℕ) (q : List ℕ) → places_in index name ≡ old → (b : Bool) → eq_by_cmp name_order q name ≡ b
    → cond b (old ++ place ∷ []) (places_in index q) ≡ places_in index q ++ cond b (place ∷ []) []
marked_there index name old place q is true e = ap (λ xs. xs ++ place ∷ []) (sym is ∙ ap (places_in index) (sym (same_names q name e)))
marked_there index name old place q is false e = sym (append-nil (places_in index q))

-- the name's places with one more
places_in-put : (index new : NameTable (List ℕ)) (name : List ℕ) (place : ℕ) → new ≡ insert index name (places_in index name ++ place ∷ [])
    → (q : List ℕ) → places_in new q ≡ places_in index q ++ hits q place (name ∷ [])
places_in-put index new name place made q =
    ap (λ t. places_in t q) made
    ∙ ap (λ o. unwrap_or o []) (get-insert index name (places_in index name ++ place ∷ []) q)
    ∙ unwrap-cond (eq_by_cmp name_order q name) (places_in index name ++ place ∷ []) (get index q)
    ∙ marked_there index name (places_in index name) place q refl (eq_by_cmp name_order q name) refl

-- the places that were opened, with one more or as they were
pub marked_more : (index : NameTable (List ℕ)) (name given held new : List ℕ) (place : ℕ) → held ≡ unwrap_or (get index name) given → given ≡ [] → new ≡ held ++ place ∷ []
    → (q : List ℕ) → places_in (insert index name new) q ≡ places_in index q ++ hits q place (name ∷ [])
marked_more index name given held new place is none made =
    places_in-put index (insert index name new) name place (ap (λ v. insert index name v) (made ∙ ap (λ xs. xs ++ place ∷ []) (is ∙ ap (λ v. unwrap_or (get index name) v) none)))

opened_so : (index : NameTable (List ℕ)) (name q : List ℕ) (b : Bool) → eq_by_cmp name_order q name ≡ b → cond b (places_in index name) (places_in index q) ≡ places_in index q
opened_so index name q true e = ap (places_in index) (sym (same_names q name e))
opened_so index name q false e = refl

-- the name is there, and has no other places than before
places_in-open : (index new : NameTable (List ℕ)) (name : List ℕ) → new ≡ insert index name (places_in index name) → (q : List ℕ) → places_in new q ≡ places_in index q
places_in-open index new name made q =
    ap (λ t. places_in t q) made
    ∙ ap (λ o. unwrap_or o []) (get-insert index name (places_in index name) q)
    ∙ unwrap-cond (eq_by_cmp name_order q name) (places_in index name) (get index q)
    ∙ opened_so index name q (eq_by_cmp name_order q name) refl

pub marked_none : (index : NameTable (List ℕ)) (name given held new : List ℕ) → held ≡ unwrap_or (get index name) given → given ≡ [] → new ≡ held
    → (q : List ℕ) → places_in (insert index name new) q ≡ places_in index q
marked_none index name given held new is none made =
    places_in-open index (insert index name new) name (ap (λ v. insert index name v) (made ∙ is ∙ ap (λ v. unwrap_or (get index name) v) none))

-- what was added stands at the place, so nothing changed below it
pub same_below : (place : ℕ) (q : List ℕ) (old new : List ℕ) (ns : List (List ℕ)) → new ≡ old ++ hits q place ns → SameBelowPlace place old new
same_below place q old new ns e =
    ap (filter (λ p. nat_lt p place)) e
    ∙ filter-append (λ p. nat_lt p place) old (hits q place ns)
    ∙ ap (λ xs. filter (λ p. nat_lt p place) old ++ xs) (hits-from q place place ns (omega arith))
    ∙ append-nil (filter (λ p. nat_lt p place) old)

-- one more of the pairs
pub hits_more : {V : Type 0} (pairs : List (List ℕ × V)) (i : ℕ) (pair : List ℕ × V) (q : List ℕ) (place : ℕ) (start now next : List ℕ) → i < length pairs → pair ≡ get_or pairs i pair
    → now ≡ start ++ hits q place (map (λ p. p.0) (take i pairs)) → next ≡ now ++ hits q place (pair.0 ∷ []) → next ≡ start ++ hits q place (map (λ p. p.0) (take (i + 1) pairs))
hits_more pairs i pair q place start now next lt is so_far step =
    let ns : List (List ℕ) = map (λ p. p.0) (take i pairs) in
    step
    ∙ ap (λ xs. xs ++ hits q place (pair.0 ∷ [])) so_far
    ∙ append_assoc start (hits q place ns) (hits q place (pair.0 ∷ []))
    ∙ ap (λ xs. start ++ xs)
    (sym (hits-append q place ns (pair.0 ∷ []))
    ∙ ap (hits q place) (sym (ap (map (λ p. p.0)) (take_more pairs i pair lt) ∙ map-append (λ p. p.0) (take i pairs) (get_or pairs i pair ∷ []) ∙ ap (λ p. ns ++ p.0 ∷ []) (sym is))))

pub hits_all : {V : Type 0} (pairs : List (List ℕ × V)) (i : ℕ) (q : List ℕ) (place : ℕ) (start now : List ℕ) → length pairs ≤ i
    → now ≡ start ++ hits q place (map (λ p. p.0) (take i pairs)) → now ≡ start ++ hits q place (map (λ p. p.0) pairs)
hits_all pairs i q place start now le so_far = so_far ∙ ap (λ ps. start ++ hits q place (map (λ p. p.0) ps)) (take_all i pairs le)

-- a loop that writes f of each item in its place
pub map_step : {X : Type 0} (f : X → X) (xs : List X) (i : ℕ) (x : X) → i < length xs → x ≡ get_or (map f (take i xs) ++ drop i xs) i x
    → set (map f (take i xs) ++ drop i xs) i (f x) ≡ map f (take (suc i) xs) ++ drop (suc i) xs
map_step f [] i x lt is = absurd (omega arith)
map_step f (y ∷ ys) zero x lt is = ap (λ z. f z ∷ ys) is
map_step f (y ∷ ys) (suc i) x lt is = ap (λ zs. f y ∷ zs) (map_step f ys i x (omega arith) is)

pub map_done : {X : Type 0} (f : X → X) (xs : List X) (i : ℕ) → length xs ≤ i → map f (take i xs) ++ drop i xs ≡ map f xs
map_done f xs i le = ap₂ (λ ys zs. map f ys ++ zs) (take_all i xs le) (drop_all i xs le) ∙ append-nil (map f xs)

pub same_on_err : {T E : Type 0} (r : Result T E) (place : ℕ) (index new : NameTable (List ℕ))
    → ((q : List ℕ) → SameBelowPlace place (places_in index q) (places_in new q)) → OnErr r ((q : List ℕ) → SameBelowPlace place (places_in index q) (places_in new q))
same_on_err (Ok x) place index new same = tt
same_on_err (Err e) place index new same = same
