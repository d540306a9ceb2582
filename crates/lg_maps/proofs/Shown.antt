-- What maps show before and after a change.
use Rattle.std.proofs.Common.{◌≡◌, ◌⊎◌, inl, ℕ, ◌<◌, Bool, true, false, cond, List, ◌∷◌, ◌++◌, length, get_or, set, slice_get, insert as insert_at, Some, None, IsSome, Option, unwrap_or, refl, sym, ap, ap₂, subst, ◌∙◌}
use Rattle.std.proofs.Math.Seq.{get_or-append_seam}
use Rattle.std.proofs.lemmas.List.{set-get_or, take_at, drop_at}
use Rattle.std.proofs.lemmas.Option.{slice_get-get_or}
use Rattle.std.specs.Option.{option_map}
use Rattle.std.specs.Cmp.Lexicographic.{nat_list_cmp_total}
use Rattle.std.specs.Ordering.{eq_by_cmp}
use Rattle.std.specs.Cmp.{eq_by_cmp_equiv}
use Rattle.lg_containers.specs.NameOrder.{name_order}
use Rattle.lg_containers.specs.NameTable.{NameTable, pairs_of, len, get, insert, get-insert, get-pairs, len-pairs, pairs-insert, same_pairs, same_table}
use Rattle.lg_containers.specs.Places.{IsAt, BelongsAt}
use Rattle.lg_containers.proofs.Placed.{found_at, put_at, not_found, inserted_at, in_range}
use Rattle.lg_maps.specs.Contents.{Contents, name_at}
use Rattle.lg_maps.proofs.Kept.{name_of}

name_itself : (name : List ℕ) → eq_by_cmp name_order name name ≡ true
name_itself name = (eq_by_cmp_equiv nat_list_cmp_total).refl name

later_only : {V : Type 0} (b : Bool) (v w : V) (o : Option V) → cond b (Some w) (cond b (Some v) o) ≡ cond b (Some w) o
later_only true v w o = refl
later_only false v w o = refl

some_or_none : {V : Type 0} (o : Option V) → o ≡ None → IsSome o → ⊥
some_or_none None e h = cc
some_or_none (Some v) e h = cc

pub some_is_there : {V : Type 0} (v : V) → Some v ≡ None → ⊥
some_is_there v h = cc

module _ {V : Type 0} where
  pub same_contents : (c d : Contents V) → c.table ≡ d.table → c.spare ≡ d.spare → c ≡ d
  same_contents c d p q = λ i. record { table = p i; spare = q i }

  -- the later of two values of a name stays
  pub insert-twice : (t : NameTable V) (name : List ℕ) (v w : V) → insert (insert t name v) name w ≡ insert t name w
  insert-twice t name v w = same_table _ _ (λ q.
      get-insert (insert t name v) name w q
      ∙ ap (cond (eq_by_cmp name_order q name) (Some w)) (get-insert t name v q)
      ∙ later_only (eq_by_cmp name_order q name) v w (get t q)
      ∙ sym (get-insert t name w q))

  pub get-own : (t : NameTable V) (name : List ℕ) (v : V) → get (insert t name v) name ≡ Some v
  get-own t name v = get-insert t name v name ∙ ap (λ b. cond b (Some v) (get t name)) (name_itself name)

  -- a name at its place
  pub name_there : (t : NameTable V) (name : List ℕ) (place : ℕ) → IsAt name (pairs_of t) place → name_at t place ≡ name
  name_there t name place at =
      name_of t place (name, at.value) (in_range name (pairs_of t) place at)
      ∙ ap (λ p. p.0) (ap₂ (λ ps n. get_or ps n (name, at.value)) at.parts (sym at.length_front) ∙ get_or-append_seam at.front (name, at.value) at.back (name, at.value))

  pub get_there : (t : NameTable V) (name : List ℕ) (place : ℕ) (d : List ℕ × V) → IsAt name (pairs_of t) place → get t name ≡ Some (get_or (pairs_of t) place d).1
  get_there t name place d at = get-pairs t name ∙ sym (found_at name (pairs_of t) place d at)

  pub not_there : (t : NameTable V) (name : List ℕ) (place : ℕ) → BelongsAt name (pairs_of t) place → get t name ≡ None
  not_there t name place at = get-pairs t name ∙ sym (not_found name (pairs_of t) place at)

  pub not_absent : (t : NameTable V) (name : List ℕ) (place : ℕ) → BelongsAt name (pairs_of t) place → IsSome (get t name) → ⊥
  not_absent t name place at some = some_or_none (get t name) (not_there t name place at) some

  pub not_present : (t : NameTable V) (name : List ℕ) (place : ℕ) → IsAt name (pairs_of t) place → get t name ≡ None → ⊥
  not_present t name place at none = some_is_there _ (sym (get_there t name place (name, at.value) at) ∙ none)

insert_seam : {X : Type 0} (front : List X) (y : X) (back : List X) → insert_at (front ++ back) (length front) y ≡ front ++ y ∷ back
insert_seam front y back = ap₂ (λ xs ys. xs ++ y ∷ ys) (take_at front back (length front) refl) (drop_at front back (length front) refl)

module _ {V : Type 0} (t : NameTable V) (name : List ℕ) (place : ℕ) where
  -- a name that is there keeps its value
  pub opened_there : (v : V) → IsAt name (pairs_of t) place → t ≡ insert t name (unwrap_or (get t name) v)
  opened_there v at =
      let here : get_or (pairs_of t) place (name, at.value) ≡ (name, at.value) = ap₂ (λ ps n. get_or ps n (name, at.value)) at.parts (sym at.length_front) ∙ get_or-append_seam at.front (name, at.value) at.back (name, at.value) in
      same_pairs _ _
      (sym (set-get_or (pairs_of t) place (name, at.value))
      ∙ ap (set (pairs_of t) place) here
      ∙ put_at name (pairs_of t) place at.value at
      ∙ sym (pairs-insert t name at.value))
      ∙ ap (insert t name) (ap (λ o. unwrap_or o v) (ap Some (ap (λ p. p.1) (sym here)) ∙ sym (get_there t name place (name, at.value) at)))

  -- and one that isn't there gets the value
  pub opened_new : (v : V) → BelongsAt name (pairs_of t) place → insert t name v ≡ insert t name (unwrap_or (get t name) v)
  opened_new v at = ap (λ o. insert t name (unwrap_or o v)) (sym (not_there t name place at))

  -- where a name belongs it stands once it is put there
  pub stands_new : (v : V) → BelongsAt name (pairs_of t) place → IsAt name (pairs_of (insert t name v)) place
  stands_new v at =
      subst (λ ps. IsAt name ps place) (inserted_at name (pairs_of t) place v at ∙ sym (pairs-insert t name v))
      (record {
        front = at.front;
        value = v;
        back = at.back;
        parts = ap₂ (λ ps n. insert_at ps n (name, v)) at.parts (sym at.length_front) ∙ insert_seam at.front (name, v) at.back;
        length_front = at.length_front;
        less = at.less;
        greater = at.greater;
      })

  -- the value at the place of a name is the name's
  pub value_there : (n : List ℕ) (v : V) → IsAt name (pairs_of t) place → slice_get (pairs_of t) place ≡ Some (n, v) → get t name ≡ Some v
  value_there n v at is =
      get_there t name place (name, at.value) at
      ∙ ap (option_map (λ p. p.1)) (sym (slice_get-get_or (pairs_of t) place (name, at.value) (in_range name (pairs_of t) place at)) ∙ is)

  pub place_within : IsAt name (pairs_of t) place → place < len t
  place_within at = subst (λ n. place < n) (sym (len-pairs t)) (in_range name (pairs_of t) place at)

-- a loan whose last value counts the same, under one name
pub same_loan : {N X Y Z : Type 0} (name : N) (f g : X → Y) → ((x : X) → f x ≡ g x) → ◌≡◌ {A = (N × (X → Y)) ⊎ Z} (inl (name, f)) (inl (name, g))
same_loan name f g same = λ i. inl (name, λ x. same x i)
