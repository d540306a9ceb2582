-- Elements that are read one after the other.
use Rattle.std.proofs.Common.{◌≡◌, ℕ, ◌+◌, ◌<◌, ◌≤◌, List, [], ◌∷◌, ◌++◌, take, length, get_or, refl, sym, ap, subst, ◌∙◌, arith}
use Rattle.std.proofs.lemmas.List.{take_more}
use Rattle.lg_json.specs.declared.json.Json.{Json}
use Rattle.lg_json.specs.Tree.{tree}
use Rattle.lg_types.specs.declared.calls.Element.{Element}
use Rattle.lg_readings.specs.Elements.{AreElements, IsElement, count}
use Rattle.lg_codec.specs.Seen.{items_seen}

-- one more element
pub are_more : (xs : List Json) (es : List Element) (x : Json) (e : Element) → AreElements (items_seen xs) es → IsElement (tree x) e → AreElements (items_seen (xs ++ x ∷ [])) (es ++ e ∷ [])
are_more [] [] x e are here = (here, tt)
are_more [] (f ∷ es) x e are here = absurd are
are_more (y ∷ xs) [] x e are here = absurd are
are_more (y ∷ xs) (f ∷ es) x e are here = (are.0, are_more xs es x e are.1 here)

pub count_is : (xs : List Json) → count (items_seen xs) ≡ length xs
count_is [] = refl
count_is (x ∷ xs) = let h = count_is xs in omega arith

-- the items up to a place, and the one there
pub up_to : (xs : List Json) (i : ℕ) (x : Json) → i < length xs → x ≡ get_or xs i x → take (i + 1) xs ≡ take i xs ++ x ∷ []
up_to xs i x h is = take_more xs i x h ∙ ap (λ (y : Json). take i xs ++ y ∷ []) (sym is)
