-- Tables made of pairs in order.
use Rattle.std.proofs.Common.{◌≡◌, ℕ, Bool, true, false, T, List, [], length, IsTrue, OnOk, OnErr, Result, Ok, Err, refl, sym, ap, subst, ◌∙◌}
use Rattle.std.specs.Cmp.Lexicographic.{nat_list_cmp_total}
use Rattle.std.specs.FinMap.Entries.{find, put, where_key, is_sorted-put, is_sorted-where_key}
use Rattle.lg_containers.specs.NameOrder.{name_order, is_in_order, other_than}
use Rattle.lg_containers.specs.NameTable.{NameTable, pairs_of, len, get, empty, insert, remove, if_in_order, from_pairs, same_pairs, pairs-from_pairs, pairs-insert, pairs-remove, get-from_pairs, len-pairs}

true_from_T : (b : Bool) → T b → IsTrue b
true_from_T true h = refl
true_from_T false h = absurd h

T_from_true : (b : Bool) → IsTrue b → T b
T_from_true b h = subst T (sym h) tt

module _ {V : Type 0} where
  pub from_pairs-empty : (pairs : List (List ℕ × V)) → pairs ≡ [] → from_pairs pairs ≡ empty
  unfolding from_pairs if_in_order empty
  from_pairs-empty pairs h = ap from_pairs h

  pub pairs_here : (pairs : List (List ℕ × V)) (t : NameTable V) → IsTrue (is_in_order pairs) → from_pairs pairs ≡ t → pairs ≡ pairs_of t
  pairs_here pairs t h e = sym (pairs-from_pairs pairs h) ∙ ap pairs_of e

  pub len_here : (pairs : List (List ℕ × V)) (t : NameTable V) → IsTrue (is_in_order pairs) → from_pairs pairs ≡ t → length pairs ≡ len t
  len_here pairs t h e = ap length (pairs_here pairs t h e) ∙ sym (len-pairs t)

  pub get_here : (pairs : List (List ℕ × V)) (t : NameTable V) (name : List ℕ) → IsTrue (is_in_order pairs) → from_pairs pairs ≡ t → find name_order name pairs ≡ get t name
  get_here pairs t name h e = sym (get-from_pairs pairs name h) ∙ ap (λ u. get u name) e

  put_in_order : (pairs : List (List ℕ × V)) (name : List ℕ) (v : V) → IsTrue (is_in_order pairs) → IsTrue (is_in_order (put name_order name v pairs))
  put_in_order pairs name v h = true_from_T _ (is_sorted-put name_order nat_list_cmp_total name v pairs (T_from_true _ h))

  where_in_order : (pairs : List (List ℕ × V)) (name : List ℕ) → IsTrue (is_in_order pairs) → IsTrue (is_in_order (where_key name_order (other_than name) pairs))
  where_in_order pairs name h = true_from_T _ (is_sorted-where_key name_order (other_than name) pairs (T_from_true _ h))

  pub put_table : (old new : List (List ℕ × V)) (t : NameTable V) (name : List ℕ) (v : V) → IsTrue (is_in_order old) → from_pairs old ≡ t → new ≡ put name_order name v old → from_pairs new ≡ insert t name v
  put_table old new t name v h e is =
      same_pairs _ _ (ap (λ ps. pairs_of (from_pairs ps)) is
      ∙ pairs-from_pairs (put name_order name v old) (put_in_order old name v h)
      ∙ ap (put name_order name v) (pairs_here old t h e)
      ∙ sym (pairs-insert t name v))

  pub put_keeps : (E : Type 0) (r : Result (Unit {0}) E) (old new : List (List ℕ × V)) (name : List ℕ) (v : V) → IsTrue (is_in_order old) → OnOk r (new ≡ put name_order name v old) → OnErr r (new ≡ old) → IsTrue (is_in_order new)
  put_keeps E (Ok u) old new name v h ok err = subst (λ ps. IsTrue (is_in_order ps)) (sym ok) (put_in_order old name v h)
  put_keeps E (Err u) old new name v h ok err = subst (λ ps. IsTrue (is_in_order ps)) (sym err) h

  pub take_table : (old new : List (List ℕ × V)) (t : NameTable V) (name : List ℕ) → IsTrue (is_in_order old) → from_pairs old ≡ t → new ≡ where_key name_order (other_than name) old → from_pairs new ≡ remove t name
  take_table old new t name h e is =
      same_pairs _ _ (ap (λ ps. pairs_of (from_pairs ps)) is
      ∙ pairs-from_pairs (where_key name_order (other_than name) old) (where_in_order old name h)
      ∙ ap (where_key name_order (other_than name)) (pairs_here old t h e)
      ∙ sym (pairs-remove t name))

  pub take_keeps : (old new : List (List ℕ × V)) (name : List ℕ) → IsTrue (is_in_order old) → new ≡ where_key name_order (other_than name) old → IsTrue (is_in_order new)
  take_keeps old new name h is = subst (λ ps. IsTrue (is_in_order ps)) (sym is) (where_in_order old name h)
