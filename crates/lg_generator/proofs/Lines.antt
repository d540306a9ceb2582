-- The line at a place, of the number that the place has.
use Rattle.std.proofs.Common.{◌≡◌, ℕ, List, length, ◌+◌, ◌/◌, ◌^◌, ◌<◌, sym, ap, ◌∙◌, add-one, zero-add, get_or}
use Rattle.std.specs.List.{range_with_len}
use Rattle.std.proofs.lemmas.List.{get_or_default}
use Rattle.std.proofs.lemmas.List.FromFn.{get_or-range_with_len}
use Rattle.lg_generator.specs.Made.{next_number, number_at, line_of, made_line}

-- the number behind a place
pub next_is : (seed i n next : ℕ) → n ≡ number_at seed i → next ≡ next_number n → next ≡ number_at seed (i + 1)
next_is seed i n next is e = e ∙ ap next_number is ∙ sym (ap (number_at seed) (add-one i))

-- what is fed is the line of the place
pub fed_as : (seed i n next drawn : ℕ) → n ≡ number_at seed i → next ≡ next_number n → drawn ≡ next / 2 ^ 32 → line_of i drawn ≡ made_line seed i
fed_as seed i n next drawn is e d = ap (line_of i) (d ∙ ap (λ (m : ℕ). m / 2 ^ 32) (next_is seed i n next is e))

-- the places are numbers
pub place_is : (n i : ℕ) → i < n → i ≡ get_or (range_with_len 0 n) i i
place_is n i h = sym (get_or-range_with_len 0 n i i h ∙ zero-add i)

-- an item within a list, whatever stands for none
pub same_item : (xs : List ℕ) (i d e : ℕ) → i < length xs → get_or xs i d ≡ get_or xs i e
same_item xs i d e h = get_or_default xs i d e h
