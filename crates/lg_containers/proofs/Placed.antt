-- Pairs in order around the place of a name: what is found there, and what an edit there gives.
use Rattle.std.proofs.Common.{◌≡◌, ℕ, zero, suc, ◌<◌, ◌≤◌, Bool, true, false, cond, not, ◌&&◌, List, [], ◌∷◌, ◌++◌, length, get_or, set, IsTrue, Some, None, Result, Ok, Err, Ordering, Less, Equal, Greater, is_eq, is_lt, is_gt, insert, remove, refl, sym, ap, subst, ◌∙◌, arith, add-one, ap₂, length-append}
use Rattle.std.specs.List.{AllWithin, HoldsAt}
use Rattle.std.specs.List.Sorted.{IsSearchInRange, IsBinarySearchResult, IsNonDecreasingBy}
use Rattle.std.specs.Ordering.{ordering_reverse, ordering_index}
use Rattle.std.specs.Cmp.{tied_itself}
use Rattle.std.specs.Cmp.Lexicographic.{nat_list_cmp_total}
use Rattle.std.specs.FinMap.Entries.{by_order, find, put, where_key, below_all}
use Rattle.std.proofs.lemmas.List.Sorted.{searchable_from_sorted}
use Rattle.std.proofs.Math.Seq.{take-append_seam, drop-append_seam, get_or-append_seam}
use Rattle.lg_containers.specs.NameOrder.{name_order, is_in_order, other_than}
use Rattle.lg_containers.specs.NameTable.{name_order-same}
use Rattle.lg_containers.specs.Places.{all_less, all_greater, IsAt, BelongsAt, IsPlace}

first_true : (a b : Bool) → (a && b) ≡ true → a ≡ true
first_true true b h = refl
first_true false b h = absurd cc

second_true : (a b : Bool) → (a && b) ≡ true → b ≡ true
second_true true b h = h
second_true false b h = absurd cc

both_true : (a b : Bool) → a ≡ true → b ≡ true → (a && b) ≡ true
both_true true b p q = q
both_true false b p q = absurd cc

from_lt : (r : Ordering) → is_lt r ≡ true → r ≡ Less
from_lt Less h = refl
from_lt Equal h = absurd cc
from_lt Greater h = absurd cc

from_gt : (r : Ordering) → is_gt r ≡ true → r ≡ Greater
from_gt Less h = absurd cc
from_gt Equal h = absurd cc
from_gt Greater h = refl

turned : (x y : List ℕ) (r : Ordering) → name_order x y ≡ r → name_order y x ≡ ordering_reverse r
turned x y r h = nat_list_cmp_total.antisymm y x ∙ ap ordering_reverse h

itself : (x : List ℕ) → name_order x x ≡ Equal
itself x = tied_itself nat_list_cmp_total x

set-append_seam : {X : Type 0} (front : List X) (x y : X) (back : List X) → set (front ++ x ∷ back) (length front) y ≡ front ++ y ∷ back
set-append_seam [] x y back = refl
set-append_seam (e ∷ es) x y back = ap (λ xs. e ∷ xs) (set-append_seam es x y back)

insert-append_seam : {X : Type 0} (front : List X) (y : X) (back : List X) → insert (front ++ back) (length front) y ≡ front ++ y ∷ back
insert-append_seam front y back = ap₂ (λ xs ys. xs ++ y ∷ ys) (take-append_seam front back) (drop-append_seam front back)

remove-append_seam : {X : Type 0} (front : List X) (x : X) (back : List X) → remove (front ++ x ∷ back) (length front) ≡ front ++ back
remove-append_seam [] x back = refl
remove-append_seam (e ∷ es) x back = ap (λ xs. e ∷ xs) (remove-append_seam es x back)

module _ {V : Type 0} (name : List ℕ) where
  pub find-front : (front back : List (List ℕ × V)) → IsTrue (all_less name front) → find name_order name (front ++ back) ≡ find name_order name back
  find-front [] back h = refl
  find-front (e ∷ es) back h =
      ap (λ r. cond (is_eq r) (Some e.1) (find name_order name (es ++ back))) (turned e.0 name Less (from_lt _ (first_true _ _ h)))
      ∙ find-front es back (second_true _ _ h)

  pub find-back : (back : List (List ℕ × V)) → IsTrue (all_greater name back) → find name_order name back ≡ None
  find-back [] h = refl
  find-back (e ∷ es) h =
      ap (λ r. cond (is_eq r) (Some e.1) (find name_order name es)) (turned e.0 name Greater (from_gt _ (first_true _ _ h)))
      ∙ find-back es (second_true _ _ h)

  find_here : (v : V) (back : List (List ℕ × V)) → find name_order name ((name, v) ∷ back) ≡ Some v
  find_here v back = ap (λ r. cond (is_eq r) (Some v) (find name_order name back)) (itself name)

  put-front : (v : V) (front back : List (List ℕ × V)) → IsTrue (all_less name front) → put name_order name v (front ++ back) ≡ front ++ put name_order name v back
  put-front v [] back h = refl
  put-front v (e ∷ es) back h =
      ap (λ r. by_order r ((name, v) ∷ e ∷ (es ++ back)) ((e.0, v) ∷ (es ++ back)) (e ∷ put name_order name v (es ++ back))) (turned e.0 name Less (from_lt _ (first_true _ _ h)))
      ∙ ap (λ xs. e ∷ xs) (put-front v es back (second_true _ _ h))

  put-back : (v : V) (back : List (List ℕ × V)) → IsTrue (all_greater name back) → put name_order name v back ≡ (name, v) ∷ back
  put-back v [] h = refl
  put-back v (e ∷ es) h =
      ap (λ r. by_order r ((name, v) ∷ e ∷ es) ((e.0, v) ∷ es) (e ∷ put name_order name v es)) (turned e.0 name Greater (from_gt _ (first_true _ _ h)))

  put_here : (v w : V) (back : List (List ℕ × V)) → put name_order name v ((name, w) ∷ back) ≡ (name, v) ∷ back
  put_here v w back = ap (λ r. by_order r ((name, v) ∷ (name, w) ∷ back) ((name, v) ∷ back) ((name, w) ∷ put name_order name v back)) (itself name)

  where-front : (front back : List (List ℕ × V)) → IsTrue (all_less name front) → where_key name_order (other_than name) (front ++ back) ≡ front ++ where_key name_order (other_than name) back
  where-front [] back h = refl
  where-front (e ∷ es) back h =
      ap (λ r. cond (not (is_eq r)) (e ∷ where_key name_order (other_than name) (es ++ back)) (where_key name_order (other_than name) (es ++ back))) (turned e.0 name Less (from_lt _ (first_true _ _ h)))
      ∙ ap (λ xs. e ∷ xs) (where-front es back (second_true _ _ h))

  where-back : (back : List (List ℕ × V)) → IsTrue (all_greater name back) → where_key name_order (other_than name) back ≡ back
  where-back [] h = refl
  where-back (e ∷ es) h =
      ap (λ r. cond (not (is_eq r)) (e ∷ where_key name_order (other_than name) es) (where_key name_order (other_than name) es)) (turned e.0 name Greater (from_gt _ (first_true _ _ h)))
      ∙ ap (λ xs. e ∷ xs) (where-back es (second_true _ _ h))

  where_here : (v : V) (back : List (List ℕ × V)) → where_key name_order (other_than name) ((name, v) ∷ back) ≡ where_key name_order (other_than name) back
  where_here v back =
      ap (λ r. cond (not (is_eq r)) ((name, v) ∷ where_key name_order (other_than name) back) (where_key name_order (other_than name) back)) (itself name)

  -- what stands at the place of a name, and what edits there give
  pub found_at : (pairs : List (List ℕ × V)) (place : ℕ) (d : List ℕ × V) → IsAt name pairs place → Some (get_or pairs place d).1 ≡ find name_order name pairs
  found_at pairs place d at =
      let e : get_or pairs place d ≡ (name, at.value) = ap₂ (λ ps n. get_or ps n d) at.parts (sym at.length_front) ∙ get_or-append_seam at.front (name, at.value) at.back d in
      ap (λ p. Some p.1) e ∙ sym (ap (find name_order name) at.parts ∙ find-front at.front ((name, at.value) ∷ at.back) at.less ∙ find_here at.value at.back)

  pub put_at : (pairs : List (List ℕ × V)) (place : ℕ) (v : V) → IsAt name pairs place → set pairs place (name, v) ≡ put name_order name v pairs
  put_at pairs place v at =
      ap₂ (λ ps n. set ps n (name, v)) at.parts (sym at.length_front)
      ∙ set-append_seam at.front (name, at.value) (name, v) at.back
      ∙ sym (ap (put name_order name v) at.parts ∙ put-front v at.front ((name, at.value) ∷ at.back) at.less ∙ ap (λ ps. at.front ++ ps) (put_here v at.value at.back))

  pub taken_at : (pairs : List (List ℕ × V)) (place : ℕ) → IsAt name pairs place → remove pairs place ≡ where_key name_order (other_than name) pairs
  taken_at pairs place at =
      ap₂ remove at.parts (sym at.length_front)
      ∙ remove-append_seam at.front (name, at.value) at.back
      ∙ sym (ap (where_key name_order (other_than name)) at.parts ∙ where-front at.front ((name, at.value) ∷ at.back) at.less ∙ ap (λ ps. at.front ++ ps) (where_here at.value at.back ∙ where-back at.back at.greater))

  pub not_found : (pairs : List (List ℕ × V)) (place : ℕ) → BelongsAt name pairs place → None ≡ find name_order name pairs
  not_found pairs place at = sym (ap (find name_order name) at.parts ∙ find-front at.front at.back at.less ∙ find-back at.back at.greater)

  pub inserted_at : (pairs : List (List ℕ × V)) (place : ℕ) (v : V) → BelongsAt name pairs place → insert pairs place (name, v) ≡ put name_order name v pairs
  inserted_at pairs place v at =
      ap₂ (λ ps n. insert ps n (name, v)) at.parts (sym at.length_front)
      ∙ insert-append_seam at.front (name, v) at.back
      ∙ sym (ap (put name_order name v) at.parts ∙ put-front v at.front at.back at.less ∙ ap (λ ps. at.front ++ ps) (put-back v at.back at.greater))

  pub without : (pairs : List (List ℕ × V)) (place : ℕ) → BelongsAt name pairs place → pairs ≡ where_key name_order (other_than name) pairs
  without pairs place at =
      at.parts ∙ sym (ap (where_key name_order (other_than name)) at.parts ∙ where-front at.front at.back at.less ∙ ap (λ ps. at.front ++ ps) (where-back at.back at.greater))

  pub in_range : (pairs : List (List ℕ × V)) (place : ℕ) → IsAt name pairs place → place < length pairs
  in_range pairs place at = omega (arith, ap length at.parts, length-append at.front ((name, at.value) ∷ at.back), at.length_front)

  pub in_gap : (pairs : List (List ℕ × V)) (place : ℕ) → BelongsAt name pairs place → place ≤ length pairs
  in_gap pairs place at = omega (arith, ap length at.parts, length-append at.front at.back, at.length_front)

  -- a binary search finds the place
  below-part : (x : List ℕ) (v : V) (front back : List (List ℕ × V)) → IsTrue (below_all name_order x (front ++ (name, v) ∷ back)) → name_order x name ≡ Less
  below-part x v [] back h = from_lt _ (first_true _ _ h)
  below-part x v (e ∷ es) back h = below-part x v es back (second_true _ _ h)

  greater_from_below : (back : List (List ℕ × V)) → IsTrue (below_all name_order name back) → IsTrue (all_greater name back)
  greater_from_below [] h = refl
  greater_from_below (e ∷ es) h =
      both_true _ _ (ap is_gt (turned name e.0 Less (from_lt _ (first_true _ _ h)))) (greater_from_below es (second_true _ _ h))

  at_equal : (pairs : List (List ℕ × V)) (place : ℕ) → IsTrue (is_in_order pairs) → place < length pairs → HoldsAt (λ p. name_order p.0 name ≡ Equal) pairs place → IsAt name pairs place
  at_equal [] place h lt is = absurd (omega arith)
  at_equal (e ∷ es) zero h lt is =
      let same : e.0 ≡ name = name_order-same e.0 name (is e) in
      record {
        front = [];
        value = e.1;
        back = es;
        parts = ap (λ n. (n, e.1) ∷ es) same;
        length_front = refl;
        less = refl;
        greater = greater_from_below es (subst (λ n. IsTrue (below_all name_order n es)) same (first_true _ _ h));
      }
  at_equal (e ∷ es) (suc place) h lt is =
      let rest : IsAt name es place = at_equal es place (second_true _ _ h) (omega arith) is in
      let before : name_order e.0 name ≡ Less = below-part e.0 rest.value rest.front rest.back (subst (λ ps. IsTrue (below_all name_order e.0 ps)) rest.parts (first_true _ _ h)) in
      record {
        front = e ∷ rest.front;
        value = rest.value;
        back = rest.back;
        parts = ap (λ ps. e ∷ ps) rest.parts;
        length_front = ap suc rest.length_front;
        less = both_true _ _ (ap is_lt before) rest.less;
        greater = rest.greater;
      }

  all_greater_from : (pairs : List (List ℕ × V)) → AllWithin (λ p. name_order p.0 name ≡ Greater) pairs 0 (length pairs) → IsTrue (all_greater name pairs)
  all_greater_from [] above = refl
  all_greater_from (e ∷ es) above =
      both_true _ _ (ap is_gt (above 0 e (omega arith) (omega arith))) (all_greater_from es (λ k d le lt. above (suc k) d (omega arith) (omega arith)))

  at_gap : (pairs : List (List ℕ × V)) (place : ℕ) → place ≤ length pairs → AllWithin (λ p. name_order p.0 name ≡ Less) pairs 0 place → AllWithin (λ p. name_order p.0 name ≡ Greater) pairs place (length pairs) → BelongsAt name pairs place
  at_gap pairs zero le below above = record {
    front = [];
    back = pairs;
    parts = refl;
    length_front = refl;
    less = refl;
    greater = all_greater_from pairs above;
  }
  at_gap [] (suc place) le below above = absurd (omega arith)
  at_gap (e ∷ es) (suc place) le below above =
      let rest : BelongsAt name es place = at_gap es place (omega arith) (λ k d low high. below (suc k) d (omega arith) (omega arith)) (λ k d low high. above (suc k) d (omega arith) (omega arith)) in
      record {
        front = e ∷ rest.front;
        back = rest.back;
        parts = ap (λ ps. e ∷ ps) rest.parts;
        length_front = ap suc rest.length_front;
        less = both_true _ _ (ap is_lt (below 0 e (omega arith) (omega arith))) rest.less;
        greater = rest.greater;
      }

  next_above : (pairs : List (List ℕ × V)) (k : ℕ) (d : List ℕ × V) → IsTrue (is_in_order pairs) → suc k < length pairs → is_lt (name_order (get_or pairs (suc k) d).0 (get_or pairs k d).0) ≡ false
  next_above [] k d h lt = absurd (omega arith)
  next_above (e ∷ []) k d h lt = absurd (omega arith)
  next_above (e ∷ f ∷ es) zero d h lt = ap is_lt (turned e.0 f.0 Less (from_lt _ (first_true _ _ (first_true _ _ h))))
  next_above (e ∷ f ∷ es) (suc k) d h lt = next_above (f ∷ es) k d (second_true _ _ h) (omega arith)

  searchable : (pairs : List (List ℕ × V)) → IsTrue (is_in_order pairs) → IsNonDecreasingBy (λ p. ordering_index (name_order p.0 name)) pairs
  searchable pairs h = searchable_from_sorted nat_list_cmp_total (λ p. p.0) pairs name (λ k d low high. rw add-one (next_above pairs k d h (omega arith)))

  pub searched : (pairs : List (List ℕ × V)) (r : Result ℕ ℕ) → IsTrue (is_in_order pairs) → IsSearchInRange r (length pairs) → IsBinarySearchResult (λ p. name_order p.0 name) pairs r → IsPlace name pairs r
  searched pairs (Ok place) h range is = at_equal pairs place h range is
  searched pairs (Err place) h range is = let parts = is (searchable pairs h) in at_gap pairs place range parts.0 parts.1
