-- Searches through the fields of a head, one field after another.
use Rattle.std.proofs.Common.{◌≡◌, ℕ, zero, suc, ◌+◌, ◌<◌, Bool, true, false, cond, not, ◌&&◌, ◌||◌, List, [], ◌∷◌, length, get_or, take, map, Option, Some, None, refl, sym, ap, ◌∙◌, arith, add-one}
use Rattle.std.specs.Prelude.{find, codes}
use Rattle.std.specs.List.{list_all}
use Rattle.std.specs.Option.{option_map}
use Rattle.std.proofs.lemmas.Bool.{false≢true}
use Rattle.http1.specs.Fields.{Header, is_named}
use Rattle.lg_heads.specs.Fields.{first_value, is_same_number, keeps_length}

none_of : {Y : Type 0} (t : Bool) (y : Y) (rest : Option Y) → cond t (Some y) rest ≡ None → (t ≡ false) × (rest ≡ None)
none_of true y rest e = absurd (cc)
none_of false y rest e = (refl, e)

-- the first that passes is what is found
pub find_first : {X Y : Type 0} (p : Y → Bool) (f : X → Y) (xs : List X) (i : ℕ) (d : X) → i < length xs
    → find p (map f (take i xs)) ≡ None → p (f (get_or xs i d)) ≡ true → find p (map f xs) ≡ Some (f (get_or xs i d))
find_first p f [] i d within none passes = absurd (omega arith)
find_first p f (x ∷ xs) zero d within none passes = ap (λ (t : Bool). cond t (Some (f x)) (find p (map f xs))) passes
find_first p f (x ∷ xs) (suc i) d within none passes =
    let parts = none_of (p (f x)) (f x) (find p (map f (take i xs))) none in
    ap (λ (t : Bool). cond t (Some (f x)) (find p (map f xs))) parts.0
    ∙ find_first p f xs i d (omega arith) parts.1 passes

find_none_suc : {X Y : Type 0} (p : Y → Bool) (f : X → Y) (xs : List X) (i : ℕ) (d : X) → i < length xs
    → find p (map f (take i xs)) ≡ None → p (f (get_or xs i d)) ≡ false → find p (map f (take (suc i) xs)) ≡ None
find_none_suc p f [] i d within none fails = absurd (omega arith)
find_none_suc p f (x ∷ xs) zero d within none fails = ap (λ (t : Bool). cond t (Some (f x)) None) fails
find_none_suc p f (x ∷ xs) (suc i) d within none fails =
    let parts = none_of (p (f x)) (f x) (find p (map f (take i xs))) none in
    ap (λ (t : Bool). cond t (Some (f x)) (find p (map f (take (suc i) xs)))) parts.0
    ∙ find_none_suc p f xs i d (omega arith) parts.1 fails

-- none of the first passes, and the next doesn't
pub find_none_more : {X Y : Type 0} (p : Y → Bool) (f : X → Y) (xs : List X) (i : ℕ) (d : X) → i < length xs
    → find p (map f (take i xs)) ≡ None → p (f (get_or xs i d)) ≡ false → find p (map f (take (i + 1) xs)) ≡ None
find_none_more p f xs i d within none fails =
    ap (λ (n : ℕ). find p (map f (take n xs))) (add-one i) ∙ find_none_suc p f xs i d within none fails

pub both_true : (a b : Bool) → (a && b) ≡ true → (a ≡ true) × (b ≡ true)
both_true true b h = (refl, h)
both_true false b h = absurd (false≢true h)

pub not_or_false : (a b : Bool) → a ≡ true → b ≡ false → (not a || b) ≡ false
not_or_false true b passes fails = fails
not_or_false false b passes fails = absurd (false≢true passes)

-- the first Content-Length is among those that keep the length
pub first_keeps : (digits value : List ℕ) (fields : List Header) → first_value (codes "content-length") fields ≡ Some value
    → list_all (keeps_length digits) fields ≡ true → is_same_number digits value ≡ true
first_keeps digits value [] found all = absurd (cc)
first_keeps digits value (field ∷ fields) found all = by_test (is_named (codes "content-length") field) (first_keeps digits value fields) found all
  where
    by_test : (t : Bool)
        → (option_map (λ (f : Header). f.1) (find (is_named (codes "content-length")) fields) ≡ Some value → list_all (keeps_length digits) fields ≡ true → is_same_number digits value ≡ true)
        → option_map (λ (f : Header). f.1) (cond t (Some field) (find (is_named (codes "content-length")) fields)) ≡ Some value
        → ((not t || is_same_number digits field.1) && list_all (keeps_length digits) fields) ≡ true → is_same_number digits value ≡ true
    by_test true later found all =
        let same : field.1 ≡ value = cc in
        sym (ap (is_same_number digits) same) ∙ (both_true _ _ all).0
    by_test false later found all = later found all
