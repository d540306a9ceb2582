-- A text made of the texts of pieces, each of which is made of the texts of its parts.
use Rattle.std.proofs.Common.{◌≡◌, ℕ, List, [], ◌∷◌, ◌++◌, flat_map, length, get_or, ◌<◌, refl, sym, ap, ◌∙◌}
use Rattle.std.specs.Prelude.{codes, Bool, true, false, ◌==◌}
use Rattle.std.proofs.lemmas.Grind.{flat_map-append}
use Rattle.std.proofs.lemmas.List.{get_or_default}
use Rattle.lg_base.specs.Texts.{escaped}
use Rattle.lg_views.specs.RefusalTexts.{member_text}

pub nested : {X Y Z : Type 0} (f : X → List Y) (h : Y → List Z) (xs : List X) → flat_map (λ x. flat_map h (f x)) xs ≡ flat_map h (flat_map f xs)
nested f h [] = refl
nested f h (x ∷ xs) = ap (λ l. flat_map h (f x) ++ l) (nested f h xs) ∙ sym (flat_map-append h (f x) (flat_map f xs))

-- an item within a list, whatever the value past its end
pub same_item : {X : Type 0} (xs : List X) (i : ℕ) (d e : X) → i < length xs → get_or xs i d ≡ get_or xs i e
same_item xs i d e h = get_or_default xs i d e h

-- the name of a member and its colon, where the test for an empty name failed
pub member_parts : (g : ℕ → List ℕ) (bytes name : List ℕ) (r : Bool) → bytes ≡ name → r ≡ (length bytes == 0) → r ≡ false
    → flat_map g bytes ++ flat_map g (codes ": ") ≡ flat_map g (member_text name)
member_parts g bytes [] r e is fails =
    let none : length bytes ≡ 0 = ap length e in
    let t : r ≡ true = is ∙ ap (λ (k : ℕ). k == 0) none in
    absurd (cc)
member_parts g bytes (b ∷ bs) r e is fails = ap (λ (l : List ℕ). flat_map g l ++ flat_map g (codes ": ")) e ∙ sym (flat_map-append g (b ∷ bs) (codes ": "))

-- four parts one after another, each of them escaped
pub four_parts : (a b c d : List ℕ) → flat_map escaped a ++ (flat_map escaped b ++ (flat_map escaped c ++ flat_map escaped d)) ≡ flat_map escaped (a ++ (b ++ (c ++ d)))
four_parts a b c d =
    ap (λ (l : List ℕ). flat_map escaped a ++ (flat_map escaped b ++ l)) (sym (flat_map-append escaped c d))
    ∙ ap (λ (l : List ℕ). flat_map escaped a ++ l) (sym (flat_map-append escaped b (c ++ d)))
    ∙ sym (flat_map-append escaped a (b ++ (c ++ d)))
