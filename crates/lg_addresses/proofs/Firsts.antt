-- The first name behind another: of a list in order, and of names that pass one of two tests.
use Rattle.std.proofs.Common.{◌≡◌, ℕ, Bool, true, false, cond, ◌||◌, List, [], ◌∷◌, Ordering, Less, Some, None, IfSome, refl, sym, ap, subst, ◌∙◌}
use Rattle.std.specs.Prelude.{Option}
use Rattle.std.specs.List.{find, list_any, AllByRecursion}
use Rattle.std.specs.List.Sorted.{IsStrictlySortedBy}
use Rattle.std.specs.Ordering.{is_gt}
use Rattle.std.specs.Str.{bytes_eq}
use Rattle.lg_containers.specs.NameOrder.{name_order}
use Rattle.lg_types.specs.PartLaws.{is_account}
use Rattle.lg_shard.specs.Next.{IsNextName, is_behind}
use Rattle.lg_shard.proofs.AccountLemmas.{bytes_same, bytes_itself}
use Rattle.lg_addresses.specs.Next.{IsFirstBehind, lesser_of}
use Rattle.lg_addresses.proofs.Orders.{no_later, turned}

not_itself : (r : Ordering) (x : List ℕ) → name_order x x ≡ r → is_gt r ≡ false
not_itself r x h = by_test (is_gt (name_order x x)) refl
  where
    by_test : (b : Bool) → is_gt (name_order x x) ≡ b → is_gt r ≡ false
    by_test true t = absurd (let no : true ≡ false = sym t ∙ turned x x t in cc)
    by_test false t = ap is_gt (sym h) ∙ t

pub or_cases : {P : Type 0} (a b : Bool) → (a || b) ≡ true → (a ≡ true → P) → (b ≡ true → P) → P
or_cases true b h f g = f refl
or_cases false b h f g = g h

or_second : (a b : Bool) → b ≡ true → (a || b) ≡ true
or_second true b h = refl
or_second false b h = h

or_first : (a b : Bool) → a ≡ true → (a || b) ≡ true
or_first true b h = refl
or_first false b h = absurd (let no : false ≡ true = h in cc)

-- ---- a list in order

below : (x : List ℕ) (xs : List (List ℕ)) → AllByRecursion (λ y. name_order x y ≡ Less) xs → (name : List ℕ) → list_any (is_account name) xs ≡ true → is_gt (name_order x name) ≡ false
below x [] h name there = absurd (let no : false ≡ true = there in cc)
below x (y ∷ xs) h name there =
    or_cases (bytes_eq y name) (list_any (is_account name) xs) there
    (λ same. ap (λ (n : List ℕ). is_gt (name_order x n)) (sym (bytes_same y name same)) ∙ ap is_gt h.0)
    (below x xs h.1 name)

abbrev in_list : List (List ℕ) → List ℕ → Bool
in_list names name = list_any (is_account name) names

found_here : (given : Option (List ℕ)) (x : List ℕ) (xs : List (List ℕ)) → AllByRecursion (λ y. name_order x y ≡ Less) xs → is_behind given x ≡ true → IsFirstBehind (in_list (x ∷ xs)) given (Some x)
found_here given x xs order behind = record {
  passes = (or_first (bytes_eq x x) (in_list xs x) (bytes_itself x), behind);
  first = λ name there b.
      or_cases (bytes_eq x name) (in_list xs name) there
      (λ same. ap (λ (n : List ℕ). is_gt (name_order x n)) (sym (bytes_same x name same)) ∙ not_itself (name_order x x) x refl)
      (below x xs order name);
}

also_passes : (x : List ℕ) (xs : List (List ℕ)) (given next : Option (List ℕ)) → IfSome next (λ name. (in_list xs name ≡ true) × (is_behind given name ≡ true)) → IfSome next (λ name. (in_list (x ∷ xs) name ≡ true) × (is_behind given name ≡ true))
also_passes x xs given None h = h
also_passes x xs given (Some name) h = (or_second (bytes_eq x name) (in_list xs name) h.0, h.1)

found_later : (given next : Option (List ℕ)) (x : List ℕ) (xs : List (List ℕ)) → is_behind given x ≡ false → IsFirstBehind (in_list xs) given next → IsFirstBehind (in_list (x ∷ xs)) given next
found_later given next x xs not h = record {
  passes = also_passes x xs given next h.passes;
  first = λ name there b.
      or_cases (bytes_eq x name) (in_list xs name) there
      (λ same. absurd (let no : true ≡ false = sym b ∙ ap (is_behind given) (sym (bytes_same x name same)) ∙ not in cc))
      (λ rest. h.first name rest b);
}

pub of_list : (given : Option (List ℕ)) (names : List (List ℕ)) → IsStrictlySortedBy name_order names → IsFirstBehind (in_list names) given (find (is_behind given) names)
unfolding IsStrictlySortedBy
of_list given [] order = record { passes = tt; first = λ name there b. absurd (let no : false ≡ true = there in cc) }
of_list given (x ∷ xs) order = by_test (is_behind given x) refl (of_list given xs order.1)
  where
    by_test : (b : Bool) → is_behind given x ≡ b → IsFirstBehind (in_list xs) given (find (is_behind given) xs) → IsFirstBehind (in_list (x ∷ xs)) given (cond b (Some x) (find (is_behind given) xs))
    by_test true is rest = found_here given x xs order.0 is
    by_test false is rest = found_later given (find (is_behind given) xs) x xs is rest

-- the same under a test that holds of the same names
pub same_test : (s t : List ℕ → Bool) (given next : Option (List ℕ)) → ((name : List ℕ) → s name ≡ t name) → IsFirstBehind s given next → IsFirstBehind t given next
same_test s t given next same h = subst (λ (test : List ℕ → Bool). IsFirstBehind test given next) (λ i name. same name i) h

pub from_next : (test : List ℕ → Bool) (given next : Option (List ℕ)) → IsNextName test given next → IsFirstBehind test given next
from_next test given next h =
    subst (IsFirstBehind test given) (sym h.first)
    (same_test (in_list h.names) test given (find (is_behind given) h.names) h.exactly.members (of_list given h.names h.exactly.order))

-- ---- names that pass one of two tests

module _ (s t : List ℕ → Bool) (given : Option (List ℕ)) where
  abbrev either : List ℕ → Bool
  either name = s name || t name

  only_second : (next : Option (List ℕ)) → IsFirstBehind s given None → IsFirstBehind t given next → IsFirstBehind either given next
  only_second next h k = record {
    passes = passed next k.passes;
    first = λ name there b. or_cases (s name) (t name) there (λ yes. absurd (h.first name yes b)) (λ yes. k.first name yes b);
  }
    where
      passed : (o : Option (List ℕ)) → IfSome o (λ name. (t name ≡ true) × (is_behind given name ≡ true)) → IfSome o (λ name. (either name ≡ true) × (is_behind given name ≡ true))
      passed None p = p
      passed (Some name) p = (or_second (s name) (t name) p.0, p.1)

  only_first : (x : List ℕ) → IsFirstBehind s given (Some x) → IsFirstBehind t given None → IsFirstBehind either given (Some x)
  only_first x h k = record {
    passes = (or_first (s x) (t x) h.passes.0, h.passes.1);
    first = λ name there b. or_cases (s name) (t name) there (λ yes. h.first name yes b) (λ yes. absurd (k.first name yes b));
  }

  both_there : (x y : List ℕ) (b : Bool) → is_gt (name_order x y) ≡ b → IsFirstBehind s given (Some x) → IsFirstBehind t given (Some y) → IsFirstBehind either given (cond b (Some y) (Some x))
  both_there x y true later h k = record {
    passes = (or_second (s y) (t y) k.passes.0, k.passes.1);
    first = λ name there b. or_cases (s name) (t name) there (λ yes. no_later y x name (turned x y later) (h.first name yes b)) (λ yes. k.first name yes b);
  }
  both_there x y false later h k = record {
    passes = (or_first (s x) (t x) h.passes.0, h.passes.1);
    first = λ name there b. or_cases (s name) (t name) there (λ yes. h.first name yes b) (λ yes. no_later x y name later (k.first name yes b));
  }

  pub of_both : (one other : Option (List ℕ)) → IsFirstBehind s given one → IsFirstBehind t given other → IsFirstBehind either given (lesser_of one other)
  of_both None other h k = only_second other h k
  of_both (Some x) None h k = only_first x h k
  of_both (Some x) (Some y) h k = both_there x y (is_gt (name_order x y)) refl h k
