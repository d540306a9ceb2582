-- Two lists in order that have the same names are equal.
use Rattle.std.proofs.Common.{◌≡◌, ℕ, Bool, true, false, ◌||◌, List, [], ◌∷◌, Less, Greater, refl, sym, ap, ap₂, subst, ◌∙◌}
use Rattle.std.specs.List.{list_any, AllByRecursion}
use Rattle.std.specs.List.Sorted.{IsStrictlySortedBy}
use Rattle.std.specs.Ordering.{ordering_reverse}
use Rattle.std.specs.Str.{bytes_eq}
use Rattle.std.proofs.lemmas.Cmp.{nat_list_cmp_total}
use Rattle.lg_containers.specs.NameOrder.{name_order}
use Rattle.lg_types.specs.PartLaws.{is_account}
use Rattle.lg_shard.proofs.AccountLemmas.{bytes_same, bytes_itself}
use Rattle.lg_addresses.proofs.Firsts.{or_cases}

below_less : (x : List ℕ) (xs : List (List ℕ)) → AllByRecursion (λ y. name_order x y ≡ Less) xs → (name : List ℕ) → list_any (is_account name) xs ≡ true → name_order x name ≡ Less
below_less x [] h name there = absurd (let no : false ≡ true = there in cc)
below_less x (y ∷ xs) h name there =
    or_cases (bytes_eq y name) (list_any (is_account name) xs) there
    (λ same. ap (name_order x) (sym (bytes_same y name same)) ∙ h.0)
    (below_less x xs h.1 name)

one_way : (x y : List ℕ) → name_order x y ≡ Less → name_order y x ≡ Less → ⊥
one_way x y h k = let no : Less ≡ Greater = sym k ∙ nat_list_cmp_total.antisymm y x ∙ ap ordering_reverse h in cc

not_below : (x : List ℕ) (xs : List (List ℕ)) → AllByRecursion (λ y. name_order x y ≡ Less) xs → list_any (is_account x) xs ≡ false
not_below x xs h = by_test (list_any (is_account x) xs) refl
  where
    by_test : (b : Bool) → list_any (is_account x) xs ≡ b → list_any (is_account x) xs ≡ false
    by_test true t = absurd (one_way x x (below_less x xs h x t) (below_less x xs h x t))
    by_test false t = t

or_first : (a b : Bool) → a ≡ true → (a || b) ≡ true
or_first true b h = refl
or_first false b h = absurd (let no : false ≡ true = h in cc)

abbrev HaveSame : List (List ℕ) → List (List ℕ) → Type 0
HaveSame xs ys = (name : List ℕ) → list_any (is_account name) xs ≡ list_any (is_account name) ys

head_same : (x y : List ℕ) (xs ys : List (List ℕ)) → AllByRecursion (λ z. name_order x z ≡ Less) xs → AllByRecursion (λ z. name_order y z ≡ Less) ys → HaveSame (x ∷ xs) (y ∷ ys) → x ≡ y
head_same x y xs ys h k same =
    or_cases (bytes_eq y x) (list_any (is_account x) ys) (sym (same x) ∙ or_first (bytes_eq x x) (list_any (is_account x) xs) (bytes_itself x))
    (λ is. sym (bytes_same y x is))
    (λ later. or_cases (bytes_eq x y) (list_any (is_account y) xs) (same y ∙ or_first (bytes_eq y y) (list_any (is_account y) ys) (bytes_itself y))
    (λ is. bytes_same x y is)
    (λ earlier. absurd (one_way x y (below_less x xs h y earlier) (below_less y ys k x later))))

tails_same : (x : List ℕ) (xs ys : List (List ℕ)) → AllByRecursion (λ z. name_order x z ≡ Less) xs → AllByRecursion (λ z. name_order x z ≡ Less) ys → HaveSame (x ∷ xs) (x ∷ ys) → HaveSame xs ys
tails_same x xs ys h k same name = by_test (bytes_eq x name) refl
  where
    by_test : (b : Bool) → bytes_eq x name ≡ b → list_any (is_account name) xs ≡ list_any (is_account name) ys
    by_test true is =
        let none : list_any (is_account name) xs ≡ false = ap (λ (n : List ℕ). list_any (is_account n) xs) (sym (bytes_same x name is)) ∙ not_below x xs h in
        let none_there : list_any (is_account name) ys ≡ false = ap (λ (n : List ℕ). list_any (is_account n) ys) (sym (bytes_same x name is)) ∙ not_below x ys k in
        none ∙ sym none_there
    by_test false is = sym (ap (λ (b : Bool). b || list_any (is_account name) xs) is) ∙ same name ∙ ap (λ (b : Bool). b || list_any (is_account name) ys) is

pub same_sorted : (xs ys : List (List ℕ)) → IsStrictlySortedBy name_order xs → IsStrictlySortedBy name_order ys → HaveSame xs ys → xs ≡ ys
unfolding IsStrictlySortedBy
same_sorted [] [] h k same = refl
same_sorted [] (y ∷ ys) h k same = absurd (let no : false ≡ true = same y ∙ or_first (bytes_eq y y) (list_any (is_account y) ys) (bytes_itself y) in cc)
same_sorted (x ∷ xs) [] h k same = absurd (let no : true ≡ false = sym (or_first (bytes_eq x x) (list_any (is_account x) xs) (bytes_itself x)) ∙ same x in cc)
same_sorted (x ∷ xs) (y ∷ ys) h k same =
    let head : x ≡ y = head_same x y xs ys h.0 k.0 same in
    let own : AllByRecursion (λ z. name_order x z ≡ Less) ys = subst (λ (n : List ℕ). AllByRecursion (λ z. name_order n z ≡ Less) ys) (sym head) k.0 in
    let rest : HaveSame (x ∷ xs) (x ∷ ys) = subst (λ (n : List ℕ). HaveSame (x ∷ xs) (n ∷ ys)) (sym head) same in
    ap₂ (λ (n : List ℕ) (l : List (List ℕ)). n ∷ l) head (same_sorted xs ys h.1 k.1 (tails_same x xs ys h.0 own rest))
