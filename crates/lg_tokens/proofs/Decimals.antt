-- The text of a whole number is a JSON number of it.
use Rattle.std.proofs.Common.{◌≡◌, ℕ, ◌+◌, ◌-◌, ◌*◌, ◌/◌, ◌%◌, ◌^◌, ◌<◌, ◌≤◌, true, List, [], ◌∷◌, ◌++◌, inr, refl, sym, ap, ◌∙◌, arith}
use Rattle.std.specs.Prelude.{ℤ, pos, negsuc, decimal, neg_ℤ}
use Rattle.std.proofs.lemmas.Fmt.{decimal_by_steps_wide}
use Rattle.lg_json.specs.Grammar.{IsDigit, AreDigits, IsPositive, IsWhole, InRange, number_from}
use Rattle.lg_entry_lines.proofs.Numbers.{decimal_is_whole}
use native.Mathlib.Numerals.{unary_clauses}
use Rattle.lg_views.specs.Tokens.{whole_text}

number_more : (n d : ℕ) (ds : List ℕ) → number_from n (ds ++ d ∷ []) ≡ number_from n ds * 10 + (d - 48)
number_more n d [] = refl
number_more n d (b ∷ bs) = number_more (n * 10 + (b - 48)) d bs

digits_more : (d : ℕ) (ds : List ℕ) → AreDigits ds → IsDigit d → AreDigits (ds ++ d ∷ [])
digits_more d [] h k = (k, tt)
digits_more d (b ∷ bs) h k = (h.0, digits_more d bs h.1 k)

positive_more : (d : ℕ) (ds : List ℕ) → IsPositive ds → IsDigit d → IsPositive (ds ++ d ∷ [])
positive_more d [] h k = absurd h
positive_more d (b ∷ bs) h k = (h.0, h.1, digits_more d bs h.2 k)

-- the digits of a number from 1 on, of any width
record Writes (n : ℕ) (ds : List ℕ) : Type 0 where
  positive : 1 ≤ n → IsPositive ds
  value : number_from 0 ds ≡ n

one_digit : (n : ℕ) → n < 10 → Writes n ((48 + n) ∷ [])
one_digit n h = record { positive = λ k. (omega arith, omega arith, tt); value = omega arith }

more_digits : (n : ℕ) (ds : List ℕ) → 10 ≤ n → Writes (n / 10) ds → Writes n (ds ++ (48 + n % 10) ∷ [])
more_digits n ds h w =
    let front : number_from 0 ds ≡ n / 10 = w.value in
    record {
      positive = λ k. positive_more (48 + n % 10) ds (w.positive (omega arith)) (omega arith, omega arith);
      value = number_more 0 (48 + n % 10) ds ∙ ap (λ (k : ℕ). k * 10 + (48 + n % 10 - 48)) front ∙ omega arith;
    }

written : (n : ℕ) → n < 10 ^ 64 → Writes n (decimal n)
written n h = decimal_by_steps_wide Writes one_digit more_digits n h

-- so its digits are, for every number of the limits
pub wide_digits : (n : ℕ) → 1 ≤ n → n ≤ 2 ^ 127 → IsPositive (decimal n)
wide_digits n some h = (written n (omega arith)).positive some

below : (n : ℕ) → negsuc n ≡ neg_ℤ (pos (n + 1))
below n = simp unary_clauses refl

below_is_whole : (n : ℕ) → n < 2 ^ 127 → IsWhole (negsuc n) (whole_text (negsuc n))
below_is_whole n h =
    let w : Writes (n + 1) (decimal (n + 1)) = written (n + 1) (omega arith) in
    record { negative = true; digits = decimal (n + 1); is_int = inr (w.positive (omega arith)); value = below n ∙ ap (λ (k : ℕ). neg_ℤ (pos k)) (sym w.value); parts = refl }

-- a number within the limits
pub whole_is : (n : ℤ) → InRange n → IsWhole n (whole_text n)
whole_is (pos n) h = decimal_is_whole n h
whole_is (negsuc n) h = below_is_whole n h
