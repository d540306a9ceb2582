-- The next of the names in order that pass a test.
use Rattle.std.proofs.Common.{◌≡◌, ℕ, suc, ◌<◌, arith, Bool, true, false, cond, List, [], ◌∷◌, length, map, slice_get, Option, Some, None, Ordering, Less, Equal, Greater, refl, sym, ap, subst, ◌∙◌}
use Rattle.std.specs.List.{find, filter}
use Rattle.std.specs.Cmp.Lexicographic.{nat_list_cmp_total}
use Rattle.std.specs.FinMap.Entries.{below_all}
use Rattle.std.specs.Ordering.{ordering_reverse, is_gt, is_lt}
use Rattle.std.proofs.lemmas.Cmp.{tied_itself}
use Rattle.lg_containers.specs.NameOrder.{name_order, is_in_order}
use Rattle.lg_containers.specs.NameTable.{NameTable, pairs_of}
use Rattle.lg_maps.specs.Behind.{behind}
use Rattle.lg_shard.specs.Named.{names_where}
use Rattle.lg_shard.specs.Next.{is_behind}
use Rattle.lg_shard.proofs.NamedLemmas.{first_true, second_true, from_lt, in_order}

from_gt : (r : Ordering) → is_gt r ≡ true → r ≡ Greater
from_gt Less h = absurd (let f : false ≡ true = h in cc)
from_gt Equal h = absurd (let f : false ≡ true = h in cc)
from_gt Greater h = refl

some_same : {X : Type 0} (x y : X) → Some x ≡ Some y → x ≡ y
some_same x y h = cc

-- ---- the order

later : (given : Option (List ℕ)) (x y : List ℕ) → is_behind given x ≡ true → name_order x y ≡ Less → is_behind given y ≡ true
later None x y h lt = refl
later (Some g) x y h lt =
    let gx : name_order g x ≡ Less = nat_list_cmp_total.antisymm g x ∙ ap ordering_reverse (from_gt _ h) in
    ap is_gt (nat_list_cmp_total.antisymm y g ∙ ap ordering_reverse (nat_list_cmp_total.trans g x y gx lt))

above : (x y : List ℕ) → name_order x y ≡ Less → is_behind (Some x) y ≡ true
above x y lt = ap is_gt (nat_list_cmp_total.antisymm y x ∙ ap ordering_reverse lt)

-- ---- the pairs behind a name

abbrev pub pairs_behind : {V : Type 0} → Option (List ℕ) → List (List ℕ × V) → List (List ℕ × V)
pairs_behind given ps = filter (λ p. is_behind given p.0) ps

find_first : {X : Type 0} (q : X → Bool) (xs : List X) → find q xs ≡ slice_get (filter q xs) 0
find_first q [] = refl
find_first q (x ∷ xs) = at (q x) (find_first q xs)
  where
    at : (b : Bool) → find q xs ≡ slice_get (filter q xs) 0 → cond b (Some x) (find q xs) ≡ slice_get (cond b (x ∷ filter q xs) (filter q xs)) 0
    at true rest = refl
    at false rest = rest

all_kept : {X : Type 0} (xs : List X) → filter (λ x. true) xs ≡ xs
all_kept [] = refl
all_kept (x ∷ xs) = ap (λ l. x ∷ l) (all_kept xs)

module _ {V : Type 0} where
  all_behind : (given : Option (List ℕ)) (x : List ℕ) → is_behind given x ≡ true → (es : List (List ℕ × V)) → below_all name_order x es ≡ true → pairs_behind given es ≡ es
  all_behind given x h [] b = refl
  all_behind given x h (e ∷ es) b =
      ap (λ c. cond c (e ∷ pairs_behind given es) (pairs_behind given es)) (later given x e.0 h (from_lt _ (first_true (is_lt (name_order x e.0)) _ b)))
      ∙ ap (λ l. e ∷ l) (all_behind given x h es (second_true (is_lt (name_order x e.0)) _ b))

  all_above : (x : List ℕ) (es : List (List ℕ × V)) → below_all name_order x es ≡ true → pairs_behind (Some x) es ≡ es
  all_above x [] b = refl
  all_above x (e ∷ es) b =
      ap (λ c. cond c (e ∷ pairs_behind (Some x) es) (pairs_behind (Some x) es)) (above x e.0 (from_lt _ (first_true (is_lt (name_order x e.0)) _ b)))
      ∙ ap (λ l. e ∷ l) (all_above x es (second_true (is_lt (name_order x e.0)) _ b))

  head_above : (x : List ℕ) (given : Option (List ℕ)) (es : List (List ℕ × V)) (p : List ℕ × V) → below_all name_order x es ≡ true → slice_get (pairs_behind given es) 0 ≡ Some p → name_order x p.0 ≡ Less
  head_above x given [] p b h = absurd cc
  head_above x given (e ∷ es) p b h = at (is_behind given e.0) (λ k. head_above x given es p (second_true (is_lt (name_order x e.0)) _ b) k) h
    where
      at : (c : Bool) → (slice_get (pairs_behind given es) 0 ≡ Some p → name_order x p.0 ≡ Less) → slice_get (cond c (e ∷ pairs_behind given es) (pairs_behind given es)) 0 ≡ Some p → name_order x p.0 ≡ Less
      at true rest k = subst (λ (q : List ℕ × V). name_order x q.0 ≡ Less) (some_same e p k) (from_lt _ (first_true (is_lt (name_order x e.0)) _ b))
      at false rest k = rest k

  -- behind the first of them stand the others
  pub behind-step : (given : Option (List ℕ)) (es : List (List ℕ × V)) (p : List ℕ × V) → is_in_order es ≡ true → slice_get (pairs_behind given es) 0 ≡ Some p → pairs_behind given es ≡ p ∷ pairs_behind (Some p.0) es
  behind-step given [] p o h = absurd cc
  behind-step given (e ∷ es) p o h = at (is_behind given e.0) refl (λ k. behind-step given es p (second_true (below_all name_order e.0 es) _ o) k) h
    where
      below : below_all name_order e.0 es ≡ true
      below = first_true (below_all name_order e.0 es) _ o

      at : (c : Bool) → is_behind given e.0 ≡ c → (slice_get (pairs_behind given es) 0 ≡ Some p → pairs_behind given es ≡ p ∷ pairs_behind (Some p.0) es) → slice_get (cond c (e ∷ pairs_behind given es) (pairs_behind given es)) 0 ≡ Some p → cond c (e ∷ pairs_behind given es) (pairs_behind given es) ≡ p ∷ pairs_behind (Some p.0) (e ∷ es)
      at true f rest k =
          subst (λ (q : List ℕ × V). e ∷ pairs_behind given es ≡ q ∷ pairs_behind (Some q.0) (e ∷ es)) (some_same e p k)
          (ap (λ l. e ∷ l) (all_behind given e.0 f es below
          ∙ sym (ap (λ c. cond c (e ∷ pairs_behind (Some e.0) es) (pairs_behind (Some e.0) es)) (ap is_gt (tied_itself nat_list_cmp_total e.0)) ∙ all_above e.0 es below)))
      at false f rest k =
          rest k
          ∙ ap (λ l. p ∷ l) (sym (ap (λ c. cond c (e ∷ pairs_behind (Some p.0) es) (pairs_behind (Some p.0) es)) (ap is_gt (head_above e.0 given es p below k))))

  -- ---- names whose values pass

  module _ (test : V → Bool) where
    where-behind : (q : List ℕ → Bool) (ps : List (List ℕ × V)) → filter q (names_where test ps) ≡ names_where test (filter (λ p. q p.0) ps)
    where-behind q [] = refl
    where-behind q (p ∷ ps) = at (test p.1) (q p.0) refl refl (where-behind q ps)
      where
        at : (t b : Bool) → test p.1 ≡ t → q p.0 ≡ b → filter q (names_where test ps) ≡ names_where test (filter (λ x. q x.0) ps)
            → filter q (map (λ x. x.0) (cond t (p ∷ filter (λ x. test x.1) ps) (filter (λ x. test x.1) ps))) ≡ names_where test (cond b (p ∷ filter (λ x. q x.0) ps) (filter (λ x. q x.0) ps))
        at true true e f ih =
            ap (λ c. cond c (p.0 ∷ filter q (names_where test ps)) (filter q (names_where test ps))) f
            ∙ ap (λ l. p.0 ∷ l) ih
            ∙ sym (ap (λ c. map (λ x. x.0) (cond c (p ∷ filter (λ x. test x.1) (filter (λ x. q x.0) ps)) (filter (λ x. test x.1) (filter (λ x. q x.0) ps)))) e)
        at true false e f ih = ap (λ c. cond c (p.0 ∷ filter q (names_where test ps)) (filter q (names_where test ps))) f ∙ ih
        at false true e f ih = ih ∙ sym (ap (λ c. map (λ x. x.0) (cond c (p ∷ filter (λ x. test x.1) (filter (λ x. q x.0) ps)) (filter (λ x. test x.1) (filter (λ x. q x.0) ps)))) e)
        at false false e f ih = ih

    -- the first of the names behind
    first-where : (given : Option (List ℕ)) (ps : List (List ℕ × V)) → find (is_behind given) (names_where test ps) ≡ slice_get (names_where test (pairs_behind given ps)) 0
    first-where given ps = find_first (is_behind given) (names_where test ps) ∙ ap (λ l. slice_get l 0) (where-behind (is_behind given) ps)

    first_here : (p : List ℕ × V) (ps : List (List ℕ × V)) (b : Bool) → test p.1 ≡ b → names_where test (p ∷ ps) ≡ cond b (p.0 ∷ names_where test ps) (names_where test ps)
    first_here p ps true e = ap (λ c. map (λ x. x.0) (cond c (p ∷ filter (λ x. test x.1) ps) (filter (λ x. test x.1) ps))) e
    first_here p ps false e = ap (λ c. map (λ x. x.0) (cond c (p ∷ filter (λ x. test x.1) ps) (filter (λ x. test x.1) ps))) e

  module _ (t : NameTable V) where
    head-behind : (given : Option (List ℕ)) → behind t given ≡ slice_get (pairs_behind given (pairs_of t)) 0
    head-behind None = ap (λ l. slice_get l 0) (sym (all_kept (pairs_of t)))
    head-behind (Some name) = find_first (λ p. is_gt (name_order p.0 name)) (pairs_of t)

    split : (given : Option (List ℕ)) (p : List ℕ × V) → behind t given ≡ Some p → pairs_behind given (pairs_of t) ≡ p ∷ pairs_behind (Some p.0) (pairs_of t)
    split given p h = behind-step given (pairs_of t) p (in_order t) (sym (head-behind given) ∙ h)

    fewer : (given : Option (List ℕ)) (p : List ℕ × V) → behind t given ≡ Some p → length (pairs_behind (Some p.0) (pairs_of t)) < length (pairs_behind given (pairs_of t))
    fewer given p h = let e : length (pairs_behind given (pairs_of t)) ≡ suc (length (pairs_behind (Some p.0) (pairs_of t))) = ap length (split given p h) in omega (arith, e)

    -- fewer pairs stand behind the next
    pub next-fewer : (given : Option (List ℕ)) (p : List ℕ × V) (name : List ℕ) → name ≡ p.0 → behind t given ≡ Some p → length (pairs_behind (Some name) (pairs_of t)) < length (pairs_behind given (pairs_of t))
    next-fewer given p name same h =
        subst (λ (n : List ℕ). length (pairs_behind (Some n) (pairs_of t)) < length (pairs_behind given (pairs_of t))) (sym same) (fewer given p h)

    module _ (test : V → Bool) where
      pub next-reached : (given : Option (List ℕ)) (p : List ℕ × V) → behind t given ≡ Some p → test p.1 ≡ true → Some p.0 ≡ find (is_behind given) (names_where test (pairs_of t))
      next-reached given p h passes =
          sym (first-where test given (pairs_of t) ∙ ap (λ l. slice_get (names_where test l) 0) (split given p h) ∙ ap (λ l. slice_get l 0) (first_here test p (pairs_behind (Some p.0) (pairs_of t)) true passes))

      pub next-passed : (given : Option (List ℕ)) (p : List ℕ × V) (name : List ℕ) → name ≡ p.0 → behind t given ≡ Some p → test p.1 ≡ false → find (is_behind given) (names_where test (pairs_of t)) ≡ find (is_behind (Some name)) (names_where test (pairs_of t))
      next-passed given p name same h passes =
          first-where test given (pairs_of t) ∙ ap (λ l. slice_get (names_where test l) 0) (split given p h) ∙ ap (λ l. slice_get l 0) (first_here test p (pairs_behind (Some p.0) (pairs_of t)) false passes)
          ∙ sym (first-where test (Some p.0) (pairs_of t))
          ∙ ap (λ n. find (is_behind (Some n)) (names_where test (pairs_of t))) (sym same)

      pub next-none : (given : Option (List ℕ)) → behind t given ≡ None → None ≡ find (is_behind given) (names_where test (pairs_of t))
      next-none given h = sym (first-where test given (pairs_of t) ∙ empty (pairs_behind given (pairs_of t)) (sym (head-behind given) ∙ h))
        where
          empty : (ps : List (List ℕ × V)) → slice_get ps 0 ≡ None → slice_get (names_where test ps) 0 ≡ None
          empty [] k = refl
          empty (p ∷ ps) k = absurd cc
