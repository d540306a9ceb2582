-- Facts of each item of a list, and of the items of two lists.
use Rattle.std.proofs.Common.{List, [], ◌∷◌, ◌++◌}
use Rattle.std.specs.List.{AllZip}
use Rattle.lg_types.specs.Lists.{Each}

pub each-map : {A : Type 0} {P Q : A → Type 0} (f : (x : A) → P x → Q x) (xs : List A) → Each P xs → Each Q xs
each-map f [] h = tt
each-map f (x ∷ xs) h = (f x h.0, each-map f xs h.1)

pub each-append : {A : Type 0} (P : A → Type 0) (xs ys : List A) → Each P xs → Each P ys → Each P (xs ++ ys)
each-append P [] ys h k = k
each-append P (x ∷ xs) ys h k = (h.0, each-append P xs ys h.1 k)

pub zip-map : {A B : Type 0} {R S : A → B → Type 0} (f : (x : A) (y : B) → R x y → S x y) (xs : List A) (ys : List B) → AllZip R xs ys → AllZip S xs ys
zip-map f [] [] h = tt
zip-map f [] (y ∷ ys) h = absurd h
zip-map f (x ∷ xs) [] h = absurd h
zip-map f (x ∷ xs) (y ∷ ys) h = (f x y h.0, zip-map f xs ys h.1)

-- what holds of each pair by the second item alone, and back
pub zip-each : {A B : Type 0} (P : B → Type 0) (xs : List A) (ys : List B) → AllZip (λ x y. P y) xs ys → Each P ys
zip-each P [] [] h = tt
zip-each P [] (y ∷ ys) h = absurd h
zip-each P (x ∷ xs) [] h = absurd h
zip-each P (x ∷ xs) (y ∷ ys) h = (h.0, zip-each P xs ys h.1)

pub zip-of_each : {A B : Type 0} (R : A → B → Type 0) (P : B → Type 0) (xs : List A) (ys : List B) → AllZip R xs ys → Each P ys → AllZip (λ x y. P y) xs ys
zip-of_each R P [] [] h k = tt
zip-of_each R P [] (y ∷ ys) h k = absurd h
zip-of_each R P (x ∷ xs) [] h k = absurd h
zip-of_each R P (x ∷ xs) (y ∷ ys) h k = (k.0, zip-of_each R P xs ys h.1 k.1)

pub zip-append : {A B : Type 0} (R : A → B → Type 0) (xs xs' : List A) (ys ys' : List B) → AllZip R xs ys → AllZip R xs' ys' → AllZip R (xs ++ xs') (ys ++ ys')
zip-append R [] xs' [] ys' h k = k
zip-append R [] xs' (y ∷ ys) ys' h k = absurd h
zip-append R (x ∷ xs) xs' [] ys' h k = absurd h
zip-append R (x ∷ xs) xs' (y ∷ ys) ys' h k = (h.0, zip-append R xs xs' ys ys' h.1 k)
