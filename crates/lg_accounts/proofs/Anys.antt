-- A test of a list, item by item.
use Rattle.std.proofs.Common.{◌≡◌, ℕ, ◌+◌, ◌<◌, ◌≤◌, Bool, true, false, ◌||◌, List, ◌∷◌, length, drop, get_or, sym, ap, ◌∙◌}
use Rattle.std.specs.List.{list_any}
use Rattle.std.proofs.lemmas.List.{drop_all, drop_more}

module _ {X : Type 0} (p : X → Bool) (xs : List X) (i : ℕ) where
  left_here : (x : X) → i < length xs → x ≡ get_or xs i x → list_any p (drop i xs) ≡ (p x || list_any p (drop (i + 1) xs))
  left_here x within is = ap (list_any p) (drop_more xs i x within ∙ ap (λ (y : X). y ∷ drop (i + 1) xs) (sym is))

  pub any_here : (x : X) → i < length xs → x ≡ get_or xs i x → p x ≡ true → list_any p (drop i xs) ≡ list_any p xs → true ≡ list_any p xs
  any_here x within is h left = sym (ap (λ (b : Bool). b || list_any p (drop (i + 1) xs)) h) ∙ sym (left_here x within is) ∙ left

  pub any_next : (x : X) → i < length xs → x ≡ get_or xs i x → p x ≡ false → list_any p (drop i xs) ≡ list_any p xs → list_any p (drop (i + 1) xs) ≡ list_any p xs
  any_next x within is h left = sym (ap (λ (b : Bool). b || list_any p (drop (i + 1) xs)) h) ∙ sym (left_here x within is) ∙ left

  pub any_none : length xs ≤ i → list_any p (drop i xs) ≡ list_any p xs → false ≡ list_any p xs
  any_none all left = sym (ap (list_any p) (drop_all i xs all)) ∙ left
