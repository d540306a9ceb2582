-- The pairs of a map, inserted one after another into the empty map, give the map; and no name of it stands twice.
use Rattle.std.proofs.Common.{◌≡◌, ℕ, Bool, true, false, List, [], ◌∷◌, ◌++◌, refl, sym, ap, subst, ◌∙◌, append_assoc}
use Rattle.std.specs.Prelude.{◌≢◌, ◌&&◌, T}
use Rattle.std.specs.List.{AllByRecursion}
use Rattle.std.specs.Ordering.{is_lt, ordering_reverse}
use Rattle.std.specs.Cmp.{tied_itself}
use Rattle.std.specs.Cmp.Lexicographic.{nat_list_cmp_total}
use Rattle.std.specs.FinMap.Entries.{put, by_order, below_all}
use Rattle.std.specs.declared.cmp.Ordering.{Ordering}
use Rattle.std.specs.declared.cmp.Ordering.TheVariants.{Less, Equal, Greater}
use Rattle.std.proofs.lemmas.List.{append-nil}
use Rattle.lg_containers.specs.NameOrder.{name_order, is_in_order}
use Rattle.lg_containers.specs.NameTable.{NameTable, pairs_of, empty, insert, same_pairs, pairs_in_order, pairs-insert, pairs-empty}

both : (a b : Bool) → T a → T b → T (a && b)
both true b p q = q
both false b p q = p

first : (a b : Bool) → T (a && b) → T a
first true b p = tt
first false b p = p

second : (a b : Bool) → T (a && b) → T b
second true b p = p
second false b p = absurd p

less : (o : Ordering) → T (is_lt o) → o ≡ Less
less Less p = refl
less Equal p = absurd p
less Greater p = absurd p

-- a name is not before itself
pub before_differs : (x y : List ℕ) → T (is_lt (name_order x y)) → x ≢ y
before_differs x y h e =
    let p : name_order x y ≡ Less = less (name_order x y) h in
    let q : name_order x x ≡ Equal = tied_itself nat_list_cmp_total x in
    let r : name_order x x ≡ Less = subst (λ (z : List ℕ). name_order x z ≡ Less) (sym e) p in
    absurd (let f : Equal ≡ Less = sym q ∙ r in cc)

module _ {V : Type 0} where
  -- the map with the pairs, in their order
  abbrev pub inserts : NameTable V → List (List ℕ × V) → NameTable V
  inserts t [] = t
  inserts t (p ∷ ps) = inserts (insert t p.0 p.1) ps

  -- each name of the pairs is before the name
  abbrev AllBefore : List ℕ → List (List ℕ × V) → Type 0
  AllBefore k ps = AllByRecursion (λ p. T (is_lt (name_order p.0 k))) ps

  below_at : (x : List ℕ) (front rest : List (List ℕ × V)) (p : List ℕ × V) → T (below_all name_order x (front ++ p ∷ rest)) → T (is_lt (name_order x p.0))
  below_at x [] rest p h = first _ _ h
  below_at x (f ∷ fs) rest p h = below_at x fs rest p (second _ _ h)

  all_before : (front rest : List (List ℕ × V)) (p : List ℕ × V) → T (is_in_order (front ++ p ∷ rest)) → AllBefore p.0 front
  all_before [] rest p h = tt
  all_before (f ∷ fs) rest p h = (below_at f.0 fs rest p (first _ _ h), all_before fs rest p (second _ _ h))

  put_last : (k : List ℕ) (v : V) (ps : List (List ℕ × V)) → AllBefore k ps → put name_order k v ps ≡ ps ++ (k, v) ∷ []
  put_last k v [] h = refl
  put_last k v (p ∷ ps) h =
      let above : name_order k p.0 ≡ Greater = nat_list_cmp_total.antisymm k p.0 ∙ ap ordering_reverse (less (name_order p.0 k) h.0) in
      ap (λ (o : Ordering). by_order o ((k, v) ∷ p ∷ ps) ((p.0, v) ∷ ps) (p ∷ put name_order k v ps)) above ∙ ap (λ (l : List (List ℕ × V)). p ∷ l) (put_last k v ps h.1)

  inserted : (t : NameTable V) (ps : List (List ℕ × V)) → T (is_in_order (pairs_of t ++ ps)) → pairs_of (inserts t ps) ≡ pairs_of t ++ ps
  inserted t [] h = sym (append-nil (pairs_of t))
  inserted t (p ∷ ps) h =
      let one : pairs_of (insert t p.0 p.1) ≡ pairs_of t ++ p ∷ [] = pairs-insert t p.0 p.1 ∙ put_last p.0 p.1 (pairs_of t) (all_before (pairs_of t) ps p h) in
      let whole : pairs_of (insert t p.0 p.1) ++ ps ≡ pairs_of t ++ p ∷ ps = ap (λ (l : List (List ℕ × V)). l ++ ps) one ∙ append_assoc (pairs_of t) (p ∷ []) ps in
      inserted (insert t p.0 p.1) ps (subst (λ (l : List (List ℕ × V)). T (is_in_order l)) (sym whole) h) ∙ whole

  pub inserts_pairs : (t : NameTable V) → inserts empty (pairs_of t) ≡ t
  inserts_pairs t =
      let none : pairs_of (empty {V = V}) ≡ [] = pairs-empty V in
      let all : pairs_of (empty {V = V}) ++ pairs_of t ≡ pairs_of t = ap (λ (l : List (List ℕ × V)). l ++ pairs_of t) none in
      same_pairs (inserts empty (pairs_of t)) t (inserted empty (pairs_of t) (subst (λ (l : List (List ℕ × V)). T (is_in_order l)) (sym all) (pairs_in_order t)) ∙ all)

  -- the first name of pairs in order is before the others, which are in order
  pub first_before : (p : List ℕ × V) (ps : List (List ℕ × V)) → T (is_in_order (p ∷ ps)) → T (below_all name_order p.0 ps)
  first_before p ps h = first _ _ h

  pub others_in_order : (p : List ℕ × V) (ps : List (List ℕ × V)) → T (is_in_order (p ∷ ps)) → T (is_in_order ps)
  others_in_order p ps h = second _ _ h

  pub before_next : (x : List ℕ) (p : List ℕ × V) (ps : List (List ℕ × V)) → T (below_all name_order x (p ∷ ps)) → x ≢ p.0
  before_next x p ps h = before_differs x p.0 (first _ _ h)

  pub before_others : (x : List ℕ) (p : List ℕ × V) (ps : List (List ℕ × V)) → T (below_all name_order x (p ∷ ps)) → T (below_all name_order x ps)
  before_others x p ps h = second _ _ h
