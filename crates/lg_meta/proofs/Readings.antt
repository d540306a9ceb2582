-- What is read at the last of a name's places is the value of the name in the folded metadata.
use Rattle.std.proofs.Common.{◌≡◌, ℕ, zero, suc, ◌+◌, ◌<◌, ◌≤◌, ℤ, Bool, true, false, cond, ◌||◌, List, [], ◌∷◌, ◌++◌, length, get_or, take, drop, filter, slice_get, Option, Some, None, refl, sym, ap, ap₂, ◌∙◌, arith}
use Rattle.std.proofs.lemmas.List.{take-append-drop, map-append, length-map}
use Rattle.std.proofs.lemmas.List.Elements.{filter-append}
use Rattle.std.proofs.lemmas.Option.{slice_get_past}
use Rattle.std.specs.Ordering.{eq_by_cmp}
use Rattle.lg_containers.specs.NameOrder.{name_order}
use Rattle.lg_containers.specs.NameTable.{get}
use Rattle.lg_types.specs.declared.changes.MetaChange.{MetaChange}
use Rattle.lg_meta.specs.declared.change.DatedChange.{DatedChange}
use Rattle.lg_types.specs.Tally.{is_to}
use Rattle.lg_meta.specs.MetaFold.{meta_at}
use Rattle.lg_meta.specs.Index.{names, hits, places, changes_of, value_of, value_there, is_there_by, last_value}
use Rattle.lg_meta.proofs.Folds.{is_among, value_by, get-meta_at}
use Rattle.lg_meta.proofs.Marks.{filter-hits, places-append}

last_value-append : (v : ℕ → Option (List ℕ)) (o : Option (List ℕ)) (xs ys : List ℕ) → last_value v o (xs ++ ys) ≡ last_value v (last_value v o xs) ys
last_value-append v o [] ys = refl
last_value-append v o (x ∷ xs) ys = last_value-append v (v x) xs ys

same_ends : (b : Bool) (o : Option (List ℕ)) → cond b o o ≡ o
same_ends true o = refl
same_ends false o = refl

last_value-hit : (v : ℕ → Option (List ℕ)) (b c : Bool) (o : Option (List ℕ)) (k : ℕ) (h : List ℕ) → ((p : Option (List ℕ)) → last_value v p h ≡ cond c (v k) p) → last_value v o (cond b (k ∷ h) h) ≡ cond (b || c) (v k) o
last_value-hit v true c o k h rest = rest (v k) ∙ same_ends c (v k)
last_value-hit v false c o k h rest = rest o

last_value-hits : (v : ℕ → Option (List ℕ)) (q : List ℕ) (k : ℕ) (ns : List (List ℕ)) (o : Option (List ℕ)) → last_value v o (hits q k ns) ≡ cond (is_among q ns) (v k) o
last_value-hits v q k [] o = refl
last_value-hits v q k (n ∷ ns) o = last_value-hit v (eq_by_cmp name_order q n) (is_among q ns) o k (hits q k ns) (last_value-hits v q k ns)

last_value-cond : (v : ℕ → Option (List ℕ)) (b : Bool) (o : Option (List ℕ)) (h : List ℕ) → last_value v o (cond b h []) ≡ cond b (last_value v o h) o
last_value-cond v true o h = refl
last_value-cond v false o h = refl

-- over any look-up that gives the changes from k on
reads : (at : ℕ → Option DatedChange) (date : Option ℤ) (q : List ℕ) (k : ℕ) (cs : List DatedChange) → ((i : ℕ) → i < length cs → at (k + i) ≡ slice_get cs i) → (o : Option (List ℕ))
    → last_value (λ p. value_there q (at p)) o (filter (λ p. is_there_by date (at p)) (places q k (changes_of cs))) ≡ value_by date q o cs
reads at date q k [] here o = refl
reads at date q k (c ∷ cs) here o =
    let v : ℕ → Option (List ℕ) = λ p. value_there q (at p) in
    let is : ℕ → Bool = λ p. is_there_by date (at p) in
    let first : at k ≡ Some c = ap at (omega arith) ∙ here 0 (omega arith) in
    let left : List ℕ = filter is (places q (suc k) (changes_of cs)) in
    ap (last_value v o) (filter-append is (hits q k (names c.change)) (places q (suc k) (changes_of cs)))
    ∙ last_value-append v o (filter is (hits q k (names c.change))) left
    ∙ ap (λ p. last_value v p left)
    (ap (last_value v o) (filter-hits is q k (names c.change))
    ∙ last_value-cond v (is k) o (hits q k (names c.change))
    ∙ ap (λ p. cond (is k) p o) (last_value-hits v q k (names c.change) o)
    ∙ ap (λ a. cond (is_there_by date a) (cond (is_among q (names c.change)) (value_there q a) o) o) first)
    ∙ reads at date q (suc k) cs (λ i lt. ap at (omega arith) ∙ here (suc i) (omega arith)) (cond (is_to date c.date) (cond (is_among q (names c.change)) (value_of q c.change) o) o)

-- where nothing is there, nothing passes
none_there : (at : ℕ → Option DatedChange) (date : Option ℤ) (q : List ℕ) (k : ℕ) (cs : List MetaChange) → ((i : ℕ) → k ≤ i → at i ≡ None) → filter (λ p. is_there_by date (at p)) (places q k cs) ≡ []
none_there at date q k [] past = refl
none_there at date q k (c ∷ cs) past =
    filter-append (λ p. is_there_by date (at p)) (hits q k (names c)) (places q (suc k) cs)
    ∙ ap₂ (λ xs ys. xs ++ ys)
    (filter-hits (λ p. is_there_by date (at p)) q k (names c) ∙ ap (λ a. cond (is_there_by date a) (hits q k (names c)) []) (past k (omega arith)))
    (none_there at date q (suc k) cs (λ i le. past i (omega arith)))

pub read_at_last : (all : List DatedChange) (n : ℕ) (date : Option ℤ) (q : List ℕ)
    → last_value (λ p. value_there q (slice_get (take n all) p)) None (filter (λ p. is_there_by date (slice_get (take n all) p)) (places q 0 (changes_of all))) ≡ get (meta_at date (take n all)) q
read_at_last all n date q =
    let cs : List DatedChange = take n all in
    let at : ℕ → Option DatedChange = λ p. slice_get cs p in
    let v : ℕ → Option (List ℕ) = λ p. value_there q (at p) in
    let is : ℕ → Bool = λ p. is_there_by date (at p) in
    let rest : List MetaChange = changes_of (drop n all) in
    let split : places q 0 (changes_of all) ≡ places q 0 (changes_of cs) ++ places q (0 + length (changes_of cs)) rest =
    ap (λ xs. places q 0 (changes_of xs)) (sym (take-append-drop n all))
    ∙ ap (places q 0) (map-append (λ d. d.change) cs (drop n all))
    ∙ places-append q 0 (changes_of cs) rest in
    ap (λ ps. last_value v None (filter is ps)) split
    ∙ ap (last_value v None) (filter-append is (places q 0 (changes_of cs)) (places q (0 + length (changes_of cs)) rest))
    ∙ last_value-append v None (filter is (places q 0 (changes_of cs))) (filter is (places q (0 + length (changes_of cs)) rest))
    ∙ ap (λ ps. last_value v (last_value v None (filter is (places q 0 (changes_of cs)))) ps) (none_there at date q (0 + length (changes_of cs)) rest (λ i le. slice_get_past cs i (omega (arith, length-map cs (λ (d : DatedChange). d.change)))))
    ∙ reads at date q 0 cs (λ i lt. ap at (omega arith)) None
    ∙ sym (get-meta_at date q cs)

pub last_value-take : (v : ℕ → Option (List ℕ)) (o : Option (List ℕ)) (xs : List ℕ) (n : ℕ) → n < length xs → last_value v o (take (suc n) xs) ≡ v (get_or xs n 0)
last_value-take v o [] n lt = absurd (omega arith)
last_value-take v o (x ∷ xs) zero lt = refl
last_value-take v o (x ∷ xs) (suc n) lt = last_value-take v (v x) xs n (omega arith)
