-- A finite map from names to values, that computes where a proof unfolds it.
--     NameTable V      its pairs stand in the order of the names, each name once
--     pairs_of, keys, values, len      its pairs, their names, their values, how many there are
--     get t name       the value of the name, none where the name isn't there
--     contains t name  whether the name is there
--     empty, insert, remove      no name;  with the name's value set;  without the name
--     from_pairs       the map of pairs in order, and else `empty`
--     code             the code of the maps, from that of the values
--     same_pairs, same_table     maps with equal pairs, or that answer alike at every name, are equal
use Rattle.std.specs.Prelude.{◌≡◌, ℕ, ◌+◌, Bool, true, false, cond, not, T, List, [], map, length, is_some, IsTrue}
use Rattle.std.proofs.Common.{Option, Some, None, refl, sym, ap, subst, ◌∙◌}
use mathlib.Core.HLevel.{Σ_prop_path}
use lib.Dec.{T_prop}
use base.Stored.{Coded, coded×, coded_list, coded_ℕ, coded_via}
use Rattle.std.specs.Ordering.{is_eq, eq_by_cmp}
use Rattle.std.specs.Cmp.{alike_right, eq_by_cmp_equiv}
use Rattle.std.specs.Cmp.Lexicographic.{nat_list_cmp_total}
use Rattle.std.specs.FinMap.{slice_cmp-IsAntisymmetric, nat_cmp-IsAntisymmetric}
use Rattle.std.specs.FinMap.Entries.{find, put, where_key, is_sorted-put, is_sorted-where_key, find-put, find-where_key, length-put, length_without, same_entries}
use Rattle.std.specs.declared.cmp.Ordering.TheVariants.{Equal}
use Rattle.lg_containers.specs.NameOrder.{name_order, is_in_order, other_than}

pub record NameTable (V : Type 0) : Type 0 where
  pub pairs : List (List ℕ × V)
  pub in_order : T (is_in_order pairs)

turned : {A : Type 0} (b : Bool) (x y : A) → cond (not b) x y ≡ cond b y x
turned true x y = refl
turned false x y = refl

pub name_order-same : (x y : List ℕ) → name_order x y ≡ Equal → x ≡ y
name_order-same = slice_cmp-IsAntisymmetric nat_cmp-IsAntisymmetric

module _ {V : Type 0} where
  unfoldable pub pairs_of : NameTable V → List (List ℕ × V)
  pairs_of t = t.pairs

  unfoldable pub keys : NameTable V → List (List ℕ)
  keys t = map (λ p. p.0) t.pairs

  unfoldable pub values : NameTable V → List V
  values t = map (λ p. p.1) t.pairs

  unfoldable pub len : NameTable V → ℕ
  len t = length t.pairs

  unfoldable pub get : NameTable V → List ℕ → Option V
  get t name = find name_order name t.pairs

  unfoldable pub contains : NameTable V → List ℕ → Bool
  contains t name = is_some (find name_order name t.pairs)

  unfoldable pub empty : NameTable V
  empty = record { pairs = []; in_order = tt }

  unfoldable pub insert : NameTable V → List ℕ → V → NameTable V
  insert t name v = record { pairs = put name_order name v t.pairs; in_order = is_sorted-put name_order nat_list_cmp_total name v t.pairs t.in_order }

  unfoldable pub remove : NameTable V → List ℕ → NameTable V
  remove t name = record { pairs = where_key name_order (other_than name) t.pairs; in_order = is_sorted-where_key name_order (other_than name) t.pairs t.in_order }

  unfoldable pub if_in_order : (pairs : List (List ℕ × V)) (b : Bool) → is_in_order pairs ≡ b → NameTable V
  if_in_order pairs true e = record { pairs = pairs; in_order = subst T (sym e) tt }
  if_in_order pairs false e = record { pairs = []; in_order = tt }

  unfoldable pub from_pairs : List (List ℕ × V) → NameTable V
  from_pairs pairs = if_in_order pairs (is_in_order pairs) refl

  pub same_pairs : (m n : NameTable V) → pairs_of m ≡ pairs_of n → m ≡ n
  unfolding pairs_of
  same_pairs m n e =
      let both : ◌≡◌ {A = (ps : List (List ℕ × V)) × T (is_in_order ps)} (m.pairs, m.in_order) (n.pairs, n.in_order) = Σ_prop_path (λ ps. T_prop _) e in
      λ i. record { pairs = (both i).0; in_order = (both i).1 }

  abbrev pub code : Coded V → Coded (NameTable V)
  code v = coded_via (coded_list (coded× (coded_list coded_ℕ) v)) pairs_of same_pairs

  pub pairs_in_order : (t : NameTable V) → T (is_in_order (pairs_of t))
  unfolding pairs_of
  pairs_in_order t = t.in_order

  pairs-if_in_order : (pairs : List (List ℕ × V)) (b : Bool) (e : is_in_order pairs ≡ b) → b ≡ true → pairs_of (if_in_order pairs b e) ≡ pairs
  unfolding pairs_of if_in_order
  pairs-if_in_order pairs true e h = refl
  pairs-if_in_order pairs false e h = absurd cc

  pub pairs-from_pairs : (pairs : List (List ℕ × V)) → IsTrue (is_in_order pairs) → pairs_of (from_pairs pairs) ≡ pairs
  unfolding from_pairs
  pairs-from_pairs pairs h = pairs-if_in_order pairs (is_in_order pairs) refl h

  pub pairs-insert : (t : NameTable V) (name : List ℕ) (v : V) → pairs_of (insert t name v) ≡ put name_order name v (pairs_of t)
  unfolding pairs_of insert
  pairs-insert t name v = refl

  pub pairs-remove : (t : NameTable V) (name : List ℕ) → pairs_of (remove t name) ≡ where_key name_order (other_than name) (pairs_of t)
  unfolding pairs_of remove
  pairs-remove t name = refl

  pub get-pairs : (t : NameTable V) (name : List ℕ) → get t name ≡ find name_order name (pairs_of t)
  unfolding pairs_of get
  get-pairs t name = refl

  pub len-pairs : (t : NameTable V) → len t ≡ length (pairs_of t)
  unfolding pairs_of len
  len-pairs t = refl

  pub keys-pairs : (t : NameTable V) → keys t ≡ map (λ p. p.0) (pairs_of t)
  unfolding pairs_of keys
  keys-pairs t = refl

  pub contains-get : (t : NameTable V) (name : List ℕ) → contains t name ≡ is_some (get t name)
  unfolding contains get
  contains-get t name = refl

  pub get-from_pairs : (pairs : List (List ℕ × V)) (name : List ℕ) → IsTrue (is_in_order pairs) → get (from_pairs pairs) name ≡ find name_order name pairs
  get-from_pairs pairs name h = get-pairs (from_pairs pairs) name ∙ ap (find name_order name) (pairs-from_pairs pairs h)

  pub get-insert : (t : NameTable V) (name : List ℕ) (v : V) (q : List ℕ) → get (insert t name v) q ≡ cond (eq_by_cmp name_order q name) (Some v) (get t q)
  unfolding get insert
  get-insert t name v q = find-put name_order nat_list_cmp_total q name v t.pairs

  pub get-remove : (t : NameTable V) (name q : List ℕ) → get (remove t name) q ≡ cond (eq_by_cmp name_order q name) None (get t q)
  unfolding get remove
  get-remove t name q =
      find-where_key name_order (other_than name) q (λ x tied. ap (λ r. not (is_eq r)) (sym (alike_right nat_list_cmp_total q x name tied))) t.pairs
      ∙ turned (eq_by_cmp name_order name q) _ _
      ∙ ap (λ b. cond b None (find name_order q t.pairs)) ((eq_by_cmp_equiv nat_list_cmp_total).symm name q)

  pub len-insert : (t : NameTable V) (name : List ℕ) (v : V) → len (insert t name v) ≡ cond (contains t name) (len t) (len t + 1)
  unfolding len insert contains
  len-insert t name v = length-put name_order nat_list_cmp_total name v t.pairs t.in_order

  pub len-remove : (t : NameTable V) (name : List ℕ) → cond (contains t name) 1 0 + len (remove t name) ≡ len t
  unfolding len remove contains
  len-remove t name = length_without name_order nat_list_cmp_total name t.pairs t.in_order

  pub same_table : (m n : NameTable V) → ((q : List ℕ) → get m q ≡ get n q) → m ≡ n
  unfolding pairs_of get
  same_table m n is = same_pairs m n (same_entries name_order nat_list_cmp_total name_order-same m.pairs n.pairs m.in_order n.in_order is)

pub get-empty : (V : Type 0) (q : List ℕ) → get (empty {V = V}) q ≡ None
unfolding empty get
get-empty V q = refl

pub len-empty : (V : Type 0) → len (empty {V = V}) ≡ 0
unfolding empty len
len-empty V = refl

pub pairs-empty : (V : Type 0) → pairs_of (empty {V = V}) ≡ []
unfolding empty pairs_of
pairs-empty V = refl

pub ruleset gets = (get-empty, get-insert, get-remove, len-empty, len-insert)

-- what a proof that computes with maps unfolds, under one name
unfoldable pub computed : Unit {0}
unfolding pairs_of keys values len get contains empty insert remove if_in_order from_pairs
computed = tt
