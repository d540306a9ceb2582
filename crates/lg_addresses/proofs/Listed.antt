-- The first name behind another, in the list of names in byte order.
use Rattle.std.proofs.Common.{◌≡◌, ℕ, Bool, true, false, cond, ◌||◌, List, [], ◌∷◌, map, Ordering, Less, Equal, Greater, Some, None, refl, sym, ap, subst, ◌∙◌}
use Rattle.std.specs.Prelude.{Option}
use Rattle.std.specs.List.{filter, find, list_any}
use Rattle.std.specs.List.Sorted.{IsStrictlySortedBy}
use Rattle.std.specs.Ordering.{is_gt, ordering_reverse}
use Rattle.std.specs.Str.{bytes_eq}
use Rattle.std.proofs.lemmas.Cmp.{nat_list_cmp_total}
use Rattle.lg_containers.specs.NameOrder.{name_order}
use Rattle.lg_containers.specs.NameTable.{NameTable, empty, get, get-empty, get-insert, get-pairs, insert, keys, keys-pairs, name_order-same, pairs_of}
use Rattle.lg_types.specs.PartLaws.{is_account}
use Rattle.lg_views.specs.Pairs.{in_byte_order, with_names}
use Rattle.lg_shard.specs.Named.{names_where, passes}
use Rattle.lg_shard.specs.Next.{is_behind}
use Rattle.lg_shard.proofs.AccountLemmas.{order_eq}
use Rattle.lg_shard.proofs.NamedLemmas.{found-where, in_order, order-where}
use Rattle.lg_addresses.specs.Next.{IsFirstBehind}
use Rattle.lg_addresses.proofs.Firsts.{of_list, same_test}

all_pass : {X : Type 0} (xs : List X) → filter (λ _. true) xs ≡ xs
all_pass [] = refl
all_pass (x ∷ xs) = ap (λ l. x ∷ l) (all_pass xs)

-- ---- names in byte order

abbrev Names : Type 0
Names = NameTable (Unit {0})

all_names : (t : Names) → names_where (λ _. true) (pairs_of t) ≡ keys t
all_names t = ap (map (λ p. p.0)) (all_pass (pairs_of t)) ∙ sym (keys-pairs t)

pub sorted : (t : Names) → IsStrictlySortedBy name_order (keys t)
sorted t = subst (IsStrictlySortedBy name_order) (all_names t) (order-where (λ _. true) (pairs_of t) (in_order t))

abbrev is_there : Names → List ℕ → Bool
is_there t name = passes (λ _. true) (get t name)

listed : (t : Names) (name : List ℕ) → list_any (is_account name) (keys t) ≡ is_there t name
listed t name =
    ap (list_any (is_account name)) (sym (all_names t))
    ∙ found-where (λ _. true) name (pairs_of t) (in_order t)
    ∙ ap (passes (λ _. true)) (sym (get-pairs t name))

there_or : (b : Bool) (o : Option (Unit {0})) → passes (λ _. true) (cond b (Some tt) o) ≡ (b || passes (λ _. true) o)
there_or true o = refl
there_or false o = refl

there-insert : (t : Names) (x name : List ℕ) → is_there (insert t x tt) name ≡ (bytes_eq x name || is_there t name)
there-insert t x name =
    ap (passes (λ _. true)) (get-insert t x tt name ∙ ap (λ (b : Bool). cond b (Some tt) (get t name)) (order_eq name x))
    ∙ there_or (bytes_eq x name) (get t name)

moved : (a b c : Bool) → (a || (b || c)) ≡ ((b || a) || c)
moved true true c = refl
moved true false c = refl
moved false true c = refl
moved false false c = refl

there-all : (t : Names) (names : List (List ℕ)) (name : List ℕ) → is_there (with_names t names) name ≡ (list_any (is_account name) names || is_there t name)
there-all t [] name = refl
there-all t (x ∷ names) name =
    there-all (insert t x tt) names name
    ∙ ap (λ (b : Bool). list_any (is_account name) names || b) (there-insert t x name)
    ∙ moved (list_any (is_account name) names) (bytes_eq x name) (is_there t name)

none_more : (a b : Bool) → b ≡ false → (a || b) ≡ a
none_more true b h = refl
none_more false b h = h

pub in_order-members : (names : List (List ℕ)) (name : List ℕ) → list_any (is_account name) (in_byte_order names) ≡ list_any (is_account name) names
in_order-members names name =
    listed (with_names empty names) name
    ∙ there-all empty names name
    ∙ none_more (list_any (is_account name) names) (is_there empty name) (ap (passes (λ _. true)) (get-empty (Unit {0}) name))

-- ---- there is one first name

neither : (x y : List ℕ) (r : Ordering) → name_order x y ≡ r → is_gt (name_order x y) ≡ false → is_gt (name_order y x) ≡ false → x ≡ y
neither x y Equal h p q = name_order-same x y h
neither x y Less h p q = absurd (let no : true ≡ false = sym (ap is_gt (nat_list_cmp_total.antisymm y x ∙ ap ordering_reverse h)) ∙ q in cc)
neither x y Greater h p q = absurd (let no : true ≡ false = sym (ap is_gt h) ∙ p in cc)

unique : (test : List ℕ → Bool) (given one other : Option (List ℕ)) → IsFirstBehind test given one → IsFirstBehind test given other → one ≡ other
unique test given None None h k = refl
unique test given None (Some y) h k = absurd (h.first y k.passes.0 k.passes.1)
unique test given (Some x) None h k = absurd (k.first x h.passes.0 h.passes.1)
unique test given (Some x) (Some y) h k = ap (λ (n : List ℕ). Some n) (neither x y (name_order x y) refl (h.first y k.passes.0 k.passes.1) (k.first x h.passes.0 h.passes.1))

pub found_in_order : (names : List (List ℕ)) (given next : Option (List ℕ)) → IsFirstBehind (λ name. list_any (is_account name) names) given next → next ≡ find (is_behind given) (in_byte_order names)
found_in_order names given next h =
    unique (λ name. list_any (is_account name) names) given next (find (is_behind given) (in_byte_order names)) h
    (same_test (λ name. list_any (is_account name) (in_byte_order names)) (λ name. list_any (is_account name) names) given (find (is_behind given) (in_byte_order names)) (in_order-members names)
    (of_list given (in_byte_order names) (sorted (with_names empty names))))
