-- A loop over entries that ends with the first that says something.
use Rattle.std.proofs.Common.{◌≡◌, ℕ, ◌+◌, ◌<◌, ◌≤◌, List, [], ◌∷◌, ◌++◌, length, drop, get_or, Option, Some, None, sym, ap, ◌∙◌}
use Rattle.std.specs.Option.{option_or}
use Rattle.std.proofs.lemmas.List.{drop_all}
use Rattle.lg_commit_volumes.proofs.SumLemmas.{left_here}

module _ {A B : Type 0} (look : List A → Option B) (append : (xs ys : List A) → look (xs ++ ys) ≡ option_or (look xs) (look ys)) where
  here : (xs : List A) (i : ℕ) (x : A) → i < length xs → x ≡ get_or xs i x → look (drop i xs) ≡ option_or (look (x ∷ [])) (look (drop (i + 1) xs))
  here xs i x h is = ap look (left_here xs i x h is) ∙ append (x ∷ []) (drop (i + 1) xs)

  pub scan_next : (xs : List A) (i : ℕ) (x : A) (own : Option B) → i < length xs → x ≡ get_or xs i x → own ≡ look (x ∷ []) → own ≡ None → look xs ≡ look (drop i xs) → look xs ≡ look (drop (i + 1) xs)
  scan_next xs i x own h is told none before = before ∙ here xs i x h is ∙ ap (λ o. option_or o (look (drop (i + 1) xs))) (sym told ∙ none)

  pub scan_found : (xs : List A) (i : ℕ) (x : A) (own : Option B) (y : B) → i < length xs → x ≡ get_or xs i x → own ≡ look (x ∷ []) → own ≡ Some y → look xs ≡ look (drop i xs) → Some y ≡ look xs
  scan_found xs i x own y h is told some before = sym (before ∙ here xs i x h is ∙ ap (λ o. option_or o (look (drop (i + 1) xs))) (sym told ∙ some))

  pub scan_done : (xs : List A) (i : ℕ) → look [] ≡ None → length xs ≤ i → look xs ≡ look (drop i xs) → None ≡ look xs
  scan_done xs i nothing h before = sym (before ∙ ap look (drop_all i xs h) ∙ nothing)
