-- Prefixes of lists.
use Rattle.std.proofs.Common.{◌≡◌, ℕ, ◌+◌, ◌≤◌, List, [], ◌∷◌, ◌++◌, length, take, drop, refl, sym, ap, subst, ◌∙◌, append_assoc, arith}
use Rattle.std.proofs.lemmas.List.{append-nil, length-append, take-append-drop}
use Rattle.std.proofs.Math.Seq.{take-append_seam}
use Rattle.lg_types.specs.Lists.{IsPrefix}

pub prefix-self : {A : Type 0} (xs : List A) → IsPrefix xs xs
prefix-self xs = ([], sym (append-nil xs))

pub prefix-more : {A : Type 0} (xs ys : List A) → IsPrefix xs (xs ++ ys)
prefix-more xs ys = (ys, refl)

pub prefix-trans : {A : Type 0} (xs ys zs : List A) → IsPrefix xs ys → IsPrefix ys zs → IsPrefix xs zs
prefix-trans xs ys zs h k = (h.0 ++ k.0, k.1 ∙ ap (λ l. l ++ k.0) h.1 ∙ append_assoc xs h.0 k.0)

pub prefix-length : {A : Type 0} (xs ys : List A) → IsPrefix xs ys → length xs ≤ length ys
prefix-length xs ys h = let e : length ys ≡ length xs + length h.0 = ap length h.1 ∙ length-append xs h.0 in omega (arith, e)

-- a prefix as long as the list is the list
no_more : {A : Type 0} (xs rest : List A) → length (xs ++ rest) ≤ length xs → rest ≡ []
no_more xs [] h = refl
no_more xs (r ∷ rest) h = absurd (let e : length (xs ++ (r ∷ rest)) ≡ length xs + length (r ∷ rest) = length-append xs (r ∷ rest) in omega (arith, e, h))

pub prefix-whole : {A : Type 0} (xs ys : List A) → IsPrefix xs ys → length ys ≤ length xs → xs ≡ ys
prefix-whole xs ys h le = sym (h.1 ∙ ap (λ l. xs ++ l) (no_more xs h.0 (subst (λ l. length l ≤ length xs) h.1 le)) ∙ append-nil xs)

-- a prefix is what taking as many gives
pub prefix-take : {A : Type 0} (xs ys : List A) → IsPrefix xs ys → take (length xs) ys ≡ xs
prefix-take xs ys h = ap (take (length xs)) h.1 ∙ take-append_seam xs h.0

pub take-prefix : {A : Type 0} (n : ℕ) (ys : List A) → IsPrefix (take n ys) ys
take-prefix n ys = (drop n ys, sym (take-append-drop n ys))
