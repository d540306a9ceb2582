-- What is left of a list that is read piece by piece.
use Rattle.std.proofs.Common.{◌≡◌, ℕ, ◌+◌, ◌-◌, List, ◌++◌, length, take, drop, sym, ◌∙◌, ap, arith}
use Rattle.std.proofs.lemmas.List.{take-append-drop, length-drop, take_all, drop-drop}

-- a slice from a place to the end is what is left from that place
pub slice_to_end : (xs : List ℕ) (i : ℕ) → take (length xs - i) (drop i xs) ≡ drop i xs
slice_to_end xs i = take_all (length xs - i) (drop i xs) (omega (arith, length-drop i xs))

-- what is left begins with what is taken now
pub left_splits : (xs : List ℕ) (i n : ℕ) → drop i xs ≡ take n (take (length xs - i) (drop i xs)) ++ drop (i + n) xs
left_splits xs i n = sym (take-append-drop n (drop i xs)) ∙ ap (λ (l : List ℕ). l ++ drop n (drop i xs)) (ap (λ (l : List ℕ). take n l) (sym (slice_to_end xs i))) ∙ ap (λ (l : List ℕ). take n (take (length xs - i) (drop i xs)) ++ l) (drop-drop n i xs)
