-- The first line of a text, and the lines of what follows it.
use Rattle.std.proofs.Common.{◌≡◌, ℕ, ◌+◌, ◌-◌, ◌<◌, ◌≤◌, Bool, true, false, cond, ◌==◌, nat_lt, List, [], ◌∷◌, length, take, drop, Some, None, position, refl, ap, sym, subst, ◌∙◌, arith}
use Rattle.std.specs.List.{slice_split, onto_first, position_or_len}
use Rattle.std.specs.Str.Lines.{lines, lines_of_parts, strip_carriage_return}
use Rattle.std.proofs.lemmas.List.Splits.{slice_split_first, slice_split_none}
use Rattle.std.proofs.lemmas.List.Sums.{fails_before_first}
use Rattle.std.proofs.lemmas.List.Elements.{All-from_get_or}
use Rattle.std.proofs.lemmas.Grind.{common_steps}

onto : (x : List ℕ) (b : ℕ) (parts : List (List ℕ)) → lines_of_parts (x ∷ onto_first b parts) ≡ strip_carriage_return x ∷ lines_of_parts (onto_first b parts)
onto x b [] = refl
onto x b (y ∷ ys) = refl

first_part : (p : ℕ → Bool) (x : List ℕ) (bs : List ℕ) → lines_of_parts (x ∷ slice_split p bs) ≡ strip_carriage_return x ∷ lines_of_parts (slice_split p bs)
first_part p x [] = refl
first_part p x (b ∷ bs) =
    elim (p b) as (λ v. lines_of_parts (x ∷ cond v ([] ∷ slice_split p bs) (onto_first b (slice_split p bs))) ≡ strip_carriage_return x ∷ lines_of_parts (cond v ([] ∷ slice_split p bs) (onto_first b (slice_split p bs)))) [
      | true ↦ refl
      | false ↦ onto x b (slice_split p bs)
    ]

one_part : (bs : List ℕ) → 0 < length bs → lines_of_parts (bs ∷ []) ≡ bs ∷ []
one_part bs some = grind (arith, common_steps)

abbrev place : List ℕ → ℕ
place bs = position_or_len (λ b. b == 10) bs

pub place_some : (a n end : ℕ) → cond (nat_lt a n) (Some a) None ≡ Some end → (a ≡ end) × (a < n)
place_some a n end e = (grind (arith, common_steps, e), grind (arith, common_steps, e))

pub place_none : (a n : ℕ) → cond (nat_lt a n) (Some a) None ≡ None → n ≤ a
place_none a n e = grind (arith, common_steps, e)

-- a first line that ends at a newline
pub cut_at : (bs : List ℕ) (end : ℕ) → position (λ b. b == 10) bs ≡ Some end → lines bs ≡ strip_carriage_return (take end bs) ∷ lines (drop (end + 1) bs)
cut_at bs end found =
    let facts = place_some (place bs) (length bs) end found in
    subst (λ (n : ℕ). lines bs ≡ strip_carriage_return (take n bs) ∷ lines (drop (n + 1) bs)) facts.0
    (ap lines_of_parts (slice_split_first (λ b. b == 10) bs 0 facts.1) ∙ first_part (λ b. b == 10) (take (place bs) bs) (drop (place bs + 1) bs))

-- a newline stands within the text
pub cut_within : (bs : List ℕ) (end : ℕ) → position (λ b. b == 10) bs ≡ Some end → end < length bs
cut_within bs end found = let facts = place_some (place bs) (length bs) end found in omega arith

-- a last line without a newline
pub cut_none : (bs : List ℕ) → 0 < length bs → position (λ b. b == 10) bs ≡ None → lines bs ≡ bs ∷ []
cut_none bs some absent =
    let past : length bs ≤ place bs = place_none (place bs) (length bs) absent in
    ap lines_of_parts (slice_split_none (λ b. b == 10) bs (All-from_get_or (λ b. (b == 10) ≡ false) bs 0 (λ k below. fails_before_first (λ b. b == 10) bs k 0 (omega arith))))
    ∙ one_part bs some

-- what follows a place, as a range up to the end
whole_rest : (n : ℕ) (bs : List ℕ) → take (length bs - n) (drop n bs) ≡ drop n bs
whole_rest n bs = grind (arith, common_steps)

-- the first line and the lines after it, as the code cuts them
pub cut_here : (bs : List ℕ) (end : ℕ) (first : List ℕ) → position (λ b. b == 10) bs ≡ Some end → first ≡ strip_carriage_return (take end bs) → lines bs ≡ first ∷ lines (take (length bs - (end + 1)) (drop (end + 1) bs))
cut_here bs end first found is =
    subst (λ (x : List ℕ). lines bs ≡ x ∷ lines (take (length bs - (end + 1)) (drop (end + 1) bs))) (sym is)
    (subst (λ (rest : List ℕ). lines bs ≡ strip_carriage_return (take end bs) ∷ lines rest) (sym (whole_rest (end + 1) bs)) (cut_at bs end found))
