-- What the calls of a history keep, and what they read.
use Rattle.std.proofs.Common.{◌≡◌, ℕ, zero, suc, ◌+◌, ◌-◌, ◌<◌, ◌≤◌, ℤ, ◌≤ℤ◌, Bool, true, false, cond, ◌||◌, List, [], ◌∷◌, ◌++◌, length, get_or, set, take, drop, map, filter, nat_lt, unwrap_or, slice_get, IsSome, IfSome, OnOk, OnErr, Option, Some, None, is_some, Result, Ok, Err, refl, sym, ap, ap₂, subst, ◌∙◌, arith}
use Rattle.std.proofs.lemmas.List.{take_all, take_more, take-map, map-append, length-map, length-set, length-take, length-drop, length-append}
use Rattle.std.proofs.lemmas.List.Folds.{list_any-append}
use Rattle.std.proofs.Math.Seq.{take-suc-set, map-set_same}
use Rattle.std.specs.List.Sorted.{IsPartitionedBy}
use Rattle.std.specs.Ordering.{eq_by_cmp}
use Rattle.std.specs.FinMap.Entries.{is_some-find}
use Rattle.lg_containers.specs.NameOrder.{name_order}
use Rattle.lg_containers.specs.NameTable.{NameTable, pairs_of, empty, get, get-empty, get-pairs, get-insert, same_table}
use Rattle.lg_meta.specs.declared.change.DatedChange.{DatedChange}
use Rattle.lg_types.specs.Changes.{MetaOf}
use Rattle.lg_meta.specs.History.{History}
use Rattle.lg_meta.specs.MetaFold.{meta_at, last_date}
use Rattle.lg_meta.specs.Index.{names, hits, places, places_in, changes_of, value_there, is_there_by, last_value, with_value, IsRising, IsIndexed}
use Rattle.lg_meta.proofs.Folds.{is_among, same_names}
use Rattle.lg_meta.proofs.Marks.{places-push, places-below, places-take}
use Rattle.lg_meta.proofs.Readings.{read_at_last}
use Rattle.lg_meta.proofs.Rising.{IsRising-push, partitioned}

-- readings, at the lists that the code has
pub partitioned_here : (date : Option ℤ) (q : List ℕ) (slice all : List DatedChange) (n : ℕ) (xs : List ℕ) → slice ≡ all → xs ≡ places q 0 (changes_of all) → IsRising (take n all) → IsPartitionedBy (λ p. is_there_by date (slice_get (take n slice) p)) xs
partitioned_here date q slice all n xs same is rising =
    let P : List DatedChange → Type 0 = λ cs. IsPartitionedBy (λ p. is_there_by date (slice_get (take n cs) p)) xs in
    let Q : List ℕ → Type 0 = λ ys. IsPartitionedBy (λ p. is_there_by date (slice_get (take n all) p)) ys in
    subst P (sym same) (subst Q (sym is) (partitioned date q (take n all) (changes_of all) rising))

pub read_here : (date : Option ℤ) (q : List ℕ) (slice all : List DatedChange) (n : ℕ) (xs : List ℕ) → slice ≡ all → xs ≡ places q 0 (changes_of all)
    → last_value (λ p. value_there q (slice_get (take n slice) p)) None (filter (λ p. is_there_by date (slice_get (take n slice) p)) xs) ≡ get (meta_at date (take n all)) q
read_here date q slice all n xs same is =
    ap₂ (λ cs ys. last_value (λ p. value_there q (slice_get (take n cs) p)) None (filter (λ p. is_there_by date (slice_get (take n cs) p)) ys)) same is
    ∙ read_at_last all n date q

pub places_found : (index : NameTable (List ℕ)) (q : List ℕ) (o : Option (List ℕ)) → o ≡ get index q → places_in index q ≡ unwrap_or o []
places_found index q o e = ap (λ p. unwrap_or p []) (sym e)

-- a name that the index doesn't have has no value
no_find : (o : Option (List ℕ)) → is_some o ≡ false → unwrap_or o [] ≡ []
no_find None h = refl
no_find (Some v) h = absurd cc

pub no_value : (date : Option ℤ) (all : List DatedChange) (n : ℕ) (index : NameTable (List ℕ)) (q : List ℕ) → IsIndexed all n index → is_among q (map (λ p. p.0) (pairs_of index)) ≡ false → get (meta_at date (take n all)) q ≡ None
no_value date all n index q indexed h =
    sym (read_here date q all all n [] refl (sym (no_find (get index q) (ap is_some (get-pairs index q) ∙ is_some-find name_order q (pairs_of index) ∙ h)) ∙ indexed.complete q))

-- no change
pub none_indexed : (all : List DatedChange) (index : NameTable (List ℕ)) → all ≡ [] → index ≡ empty → IsIndexed all 0 index
none_indexed all index none is = record {
  within = omega arith;
  rising = tt;
  complete = λ q. ap (λ t. places_in t q) is ∙ ap (λ o. unwrap_or o []) (get-empty (List ℕ) q) ∙ ap (λ cs. places q 0 (changes_of cs)) (sym none);
}

-- one more change is applied
pub within_first : (all : List DatedChange) (n : ℕ) → IsSome (slice_get (changes_of (drop n all)) 0) → n < length all
within_first [] zero h = absurd cc
within_first [] (suc n) h = absurd cc
within_first (c ∷ cs) zero h = omega arith
within_first (c ∷ cs) (suc n) h = let more : n < length cs = within_first cs n h in omega arith

pub applied_more : (all : List DatedChange) (n : ℕ) (index : NameTable (List ℕ)) (old new : DatedChange) → IsIndexed all n index → n < length all → old ≡ get_or all n old → new.change ≡ old.change
    → IfSome (last_date (take n all)) (λ last. last ≤ℤ new.date) → IsIndexed (set all n new) (n + 1) index
applied_more all n index old new indexed lt is same later = record {
  within = omega (arith, length-set all n new);
  rising = let one : n + 1 ≡ suc n = omega arith in subst IsRising (sym (ap (λ m. take m (set all n new)) one ∙ take-suc-set all n new lt)) (IsRising-push (take n all) new indexed.rising later);
  complete = λ q. indexed.complete q ∙ ap (places q 0) (sym (map-set_same (λ (d : DatedChange). d.change) all n new old (same ∙ ap (λ d. d.change) is)));
}

-- the changes from a place on, all of them prepared, are given up
take_least : (n m : ℕ) (xs : List DatedChange) → n ≤ m → take n (take m xs) ≡ take n xs
take_least zero m xs le = refl
take_least (suc n) zero xs le = absurd (omega arith)
take_least (suc n) (suc m) [] le = refl
take_least (suc n) (suc m) (x ∷ xs) le = ap (λ zs. x ∷ zs) (take_least n m xs (omega arith))

pub forgotten : (all new : List DatedChange) (n m : ℕ) (index cut : NameTable (List ℕ)) → IsIndexed all n index → n ≤ m → m ≤ length all → new ≡ take m all → ((q : List ℕ) → places_in cut q ≡ filter (λ p. nat_lt p m) (places_in index q)) → IsIndexed new n cut
forgotten all new n m index cut indexed from to is kept =
    let P : List DatedChange → Type 0 = λ cs. IsIndexed cs n cut in
    subst P (sym is) (record {
      within = omega (arith, length-take m all);
      rising = subst IsRising (sym (take_least n m all from)) indexed.rising;
      complete = λ q. kept q ∙ ap (filter (λ p. nat_lt p m)) (indexed.complete q) ∙ places-take q m (changes_of all) ∙ ap (places q 0) (take-map (λ (d : DatedChange). d.change) m all);
    })

-- the last of the prepared changes, where there is one
drop_front : (n m : ℕ) (xs : List DatedChange) → n ≤ m → drop n (take m xs) ≡ take (m - n) (drop n xs)
drop_front zero m xs le = let all : m - 0 ≡ m = omega arith in ap (λ k. take k xs) (sym all)
drop_front (suc n) zero xs le = absurd (omega arith)
drop_front (suc n) (suc m) [] le = sym (nothing (suc m - suc n))
  where
    nothing : (k : ℕ) → take {A = DatedChange} k [] ≡ []
    nothing zero = refl
    nothing (suc k) = refl
drop_front (suc n) (suc m) (x ∷ xs) le = let one : suc m - suc n ≡ m - n = omega arith in drop_front n m xs (omega arith) ∙ ap (λ k. take k (drop n xs)) (sym one)

pub last_given_up : (all new : List DatedChange) (n last : ℕ) → n ≤ last → last + 1 ≡ length all → new ≡ take last all
    → ◌≡◌ {A = History} (record { changes = take n new; prepared = changes_of (drop n new) }) (record { changes = take n all; prepared = take (length (changes_of (drop n all)) - 1) (changes_of (drop n all)) })
last_given_up all new n last from long is =
    let count : last - n ≡ length (changes_of (drop n all)) - 1 = omega (arith, length-map (drop n all) (λ (d : DatedChange). d.change), length-drop n all) in
    let kept : take n new ≡ take n all = ap (take n) is ∙ take_least n last all from in
    let prepared : changes_of (drop n new) ≡ take (length (changes_of (drop n all)) - 1) (changes_of (drop n all)) =
    ap (λ cs. changes_of (drop n cs)) is ∙ ap changes_of (drop_front n last all from) ∙ sym (take-map (λ (d : DatedChange). d.change) (last - n) (drop n all)) ∙ ap (λ k. take k (changes_of (drop n all))) count in
    λ i. record { changes = kept i; prepared = prepared i }

-- a change is prepared, or not
take-front : (n : ℕ) (xs ys : List DatedChange) → n ≤ length xs → take n (xs ++ ys) ≡ take n xs
take-front zero xs ys le = refl
take-front (suc n) [] ys le = absurd (omega arith)
take-front (suc n) (x ∷ xs) ys le = ap (λ zs. x ∷ zs) (take-front n xs ys (omega arith))

pub prepared_more : (all : List DatedChange) (n : ℕ) (index marked : NameTable (List ℕ)) (new : DatedChange) → IsIndexed all n index
    → ((q : List ℕ) → places_in marked q ≡ places_in index q ++ hits q (length all) (names new.change)) → IsIndexed (all ++ new ∷ []) n marked
prepared_more all n index marked new indexed marks = record {
  within = let le : n ≤ length all = indexed.within in omega (arith, length-append all (new ∷ []));
  rising = subst IsRising (sym (take-front n all (new ∷ []) indexed.within)) indexed.rising;
  complete = λ q. marks q
      ∙ ap₂ (λ xs k. xs ++ hits q k (names new.change)) (indexed.complete q) (sym (length-map all (λ (d : DatedChange). d.change)))
      ∙ sym (places-push q (changes_of all) new.change)
      ∙ ap (places q 0) (sym (map-append (λ (d : DatedChange). d.change) all (new ∷ [])));
}

pub prepared_none : (all : List DatedChange) (n : ℕ) (index cut : NameTable (List ℕ)) → IsIndexed all n index
    → ((q : List ℕ) → places_in cut q ≡ filter (λ p. nat_lt p (length all)) (places_in index q)) → IsIndexed all n cut
prepared_none all n index cut indexed kept = record {
  within = indexed.within;
  rising = indexed.rising;
  complete = λ q. kept q ∙ ap (filter (λ p. nat_lt p (length all))) (indexed.complete q) ∙ places-below q 0 (length all) (changes_of all) (omega (arith, length-map all (λ (d : DatedChange). d.change)));
}

pub prepared_so : {E : Type 0} (r : Result (Unit {0}) E) (all now : List DatedChange) (count n : ℕ) (index next : NameTable (List ℕ)) (new : DatedChange) → IsIndexed all n index → count ≡ length all
    → OnOk r (now ≡ all ++ new ∷ []) → OnOk r ((q : List ℕ) → places_in next q ≡ places_in index q ++ hits q count (names new.change))
    → OnErr r (now ≡ all) → OnErr r ((q : List ℕ) → places_in next q ≡ filter (λ p. nat_lt p count) (places_in index q)) → IsIndexed now n next
prepared_so (Ok u) all now count n index next new indexed long ok marks err kept =
    let P : List DatedChange → Type 0 = λ cs. IsIndexed cs n next in
    subst P (sym ok) (prepared_more all n index next new indexed (λ q. marks q ∙ ap (λ k. places_in index q ++ hits q k (names new.change)) long))
prepared_so (Err e) all now count n index next new indexed long ok marks err kept =
    let P : List DatedChange → Type 0 = λ cs. IsIndexed cs n next in
    subst P (sym err) (prepared_none all n index next indexed (λ q. kept q ∙ ap (λ k. filter (λ p. nat_lt p k) (places_in index q)) long))

-- a copy with the values of the names so far
or_none : (a b : Bool) (o p : Option (List ℕ)) → p ≡ cond a o None → (b ≡ true → o ≡ None) → p ≡ cond (a || b) o None
or_none true b o p is h = is
or_none false true o p is h = is ∙ sym (h refl)
or_none false false o p is h = is

or_some : (a b : Bool) (v : List ℕ) (o p : Option (List ℕ)) → p ≡ cond a o None → (b ≡ true → o ≡ Some v) → cond b (Some v) p ≡ cond (a || b) o None
or_some true true v o p is h = sym (h refl)
or_some true false v o p is h = is
or_some false true v o p is h = sym (h refl)
or_some false false v o p is h = is

put_more : (meta target : MetaOf) (ns : List (List ℕ)) (name : List ℕ) (o : Option (List ℕ)) → ((q : List ℕ) → get meta q ≡ cond (is_among q ns) (get target q) None) → o ≡ get target name
    → (q : List ℕ) → get (with_value meta name o) q ≡ cond (is_among q ns || eq_by_cmp name_order q name) (get target q) None
put_more meta target ns name None so_far is q =
    or_none (is_among q ns) (eq_by_cmp name_order q name) (get target q) (get meta q) (so_far q) (λ e. ap (get target) (same_names q name e) ∙ sym is)
put_more meta target ns name (Some v) so_far is q =
    get-insert meta name v q
    ∙ or_some (is_among q ns) (eq_by_cmp name_order q name) v (get target q) (get meta q) (so_far q) (λ e. ap (get target) (same_names q name e) ∙ sym is)

or_false : (b : Bool) → (b || false) ≡ b
or_false true = refl
or_false false = refl

pub copied_more : (entries : List (List ℕ × List ℕ)) (i : ℕ) (entry : List ℕ × List ℕ) (meta next target : MetaOf) (o : Option (List ℕ)) → i < length entries → entry ≡ get_or entries i entry
    → ((q : List ℕ) → get meta q ≡ cond (is_among q (map (λ p. p.0) (take i entries))) (get target q) None) → o ≡ get target entry.0 → next ≡ with_value meta entry.0 o
    → (q : List ℕ) → get next q ≡ cond (is_among q (map (λ p. p.0) (take (i + 1) entries))) (get target q) None
copied_more entries i entry meta next target o lt is so_far value made q =
    let ns : List (List ℕ) = map (λ p. p.0) (take i entries) in
    let grown : map (λ (p : List ℕ × List ℕ). p.0) (take (i + 1) entries) ≡ ns ++ entry.0 ∷ [] =
    ap (map (λ p. p.0)) (take_more entries i entry lt) ∙ map-append (λ p. p.0) (take i entries) (get_or entries i entry ∷ []) ∙ ap (λ p. ns ++ p.0 ∷ []) (sym is) in
    ap (λ m. get m q) made
    ∙ put_more meta target ns entry.0 o so_far value q
    ∙ ap (λ b. cond (is_among q ns || b) (get target q) None) (sym (or_false (eq_by_cmp name_order q entry.0)))
    ∙ ap (λ b. cond b (get target q) None) (sym (list_any-append (eq_by_cmp name_order q) ns (entry.0 ∷ [])))
    ∙ ap (λ xs. cond (is_among q xs) (get target q) None) (sym grown)

all_or_none : (b : Bool) (o : Option (List ℕ)) → (b ≡ false → o ≡ None) → cond b o None ≡ o
all_or_none true o h = refl
all_or_none false o h = sym (h refl)

pub copied_all : (date : Option ℤ) (all : List DatedChange) (n : ℕ) (index entries : NameTable (List ℕ)) (i : ℕ) (meta target : MetaOf) → IsIndexed all n index → entries ≡ index → length (pairs_of entries) ≤ i → target ≡ meta_at date (take n all)
    → ((q : List ℕ) → get meta q ≡ cond (is_among q (map (λ p. p.0) (take i (pairs_of entries)))) (get target q) None) → meta ≡ target
copied_all date all n index entries i meta target indexed same le is so_far =
    same_table meta target (λ q. so_far q
    ∙ ap (λ xs. cond (is_among q (map (λ p. p.0) xs)) (get target q) None) (take_all i (pairs_of entries) le ∙ ap pairs_of same)
    ∙ all_or_none (is_among q (map (λ p. p.0) (pairs_of index))) (get target q) (λ h. ap (λ t. get t q) is ∙ no_value date all n index q indexed h))
