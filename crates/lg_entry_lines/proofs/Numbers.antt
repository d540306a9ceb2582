-- The decimal text of a number is a JSON number of it.
use Rattle.std.proofs.Common.{◌≡◌, ℕ, ◌+◌, ◌-◌, ◌*◌, ◌/◌, ◌%◌, ◌^◌, ◌<◌, ◌≤◌, false, List, [], ◌∷◌, ◌++◌, inl, inr, refl, sym, ap, subst, ◌∙◌, arith}
use Rattle.std.specs.Prelude.{pos, decimal}
use Rattle.std.proofs.lemmas.Bool.{cases_lt}
use Rattle.std.proofs.lemmas.Fmt.{decimal_by_steps_wide}
use Rattle.lg_json.specs.Grammar.{IsDigit, AreDigits, IsPositive, IsInt, IsWhole, number_from}

-- a digit more
number_more : (n d : ℕ) (ds : List ℕ) → number_from n (ds ++ d ∷ []) ≡ number_from n ds * 10 + (d - 48)
number_more n d [] = refl
number_more n d (b ∷ bs) = number_more (n * 10 + (b - 48)) d bs

digits_more : (d : ℕ) (ds : List ℕ) → AreDigits ds → IsDigit d → AreDigits (ds ++ d ∷ [])
digits_more d [] h k = (k, tt)
digits_more d (b ∷ bs) h k = (h.0, digits_more d bs h.1 k)

positive_more : (d : ℕ) (ds : List ℕ) → IsPositive ds → IsDigit d → IsPositive (ds ++ d ∷ [])
positive_more d [] h k = absurd h
positive_more d (b ∷ bs) h k = (h.0, h.1, digits_more d bs h.2 k)

-- the digits of a number, without leading zeros
record Writes (n : ℕ) (ds : List ℕ) : Type 0 where
  zero : n ≡ 0 → ds ≡ 48 ∷ []
  positive : 1 ≤ n → IsPositive ds
  value : number_from 0 ds ≡ n

one_digit : (n : ℕ) → n < 10 → Writes n ((48 + n) ∷ [])
one_digit n h = record {
  zero = λ e. ap (λ (k : ℕ). (48 + k) ∷ []) e;
  positive = λ k. (omega arith, omega arith, tt);
  value = omega arith;
}

more_digits : (n : ℕ) (ds : List ℕ) → 10 ≤ n → Writes (n / 10) ds → Writes n (ds ++ (48 + n % 10) ∷ [])
more_digits n ds h w =
    let front : number_from 0 ds ≡ n / 10 = w.value in
    record {
      zero = λ e. absurd (omega arith);
      positive = λ k. positive_more (48 + n % 10) ds (w.positive (omega arith)) (omega arith, omega arith);
      value = number_more 0 (48 + n % 10) ds ∙ ap (λ (k : ℕ). k * 10 + (48 + n % 10 - 48)) front ∙ omega arith;
    }

written : (n : ℕ) → n < 2 ^ 127 → Writes n (decimal n)
written n h = decimal_by_steps_wide Writes one_digit more_digits n (omega arith)

positive_digits : (ds : List ℕ) → IsPositive ds → AreDigits ds
positive_digits [] h = absurd h
positive_digits (b ∷ bs) h = ((omega (arith, h.0), h.1), h.2)

pub decimal_digits : (n : ℕ) → n < 2 ^ 127 → AreDigits (decimal n)
decimal_digits n h =
    let w : Writes n (decimal n) = written n h in
    elim (cases_lt 0 n) [
      | inl k ↦ positive_digits (decimal n) (w.positive k)
      | inr k ↦ subst AreDigits (sym (w.zero (omega arith))) ((omega arith, omega arith), tt)
    ]

is_int : (n : ℕ) (ds : List ℕ) → Writes n ds → IsInt ds
is_int n ds w = elim (cases_lt 0 n) [ inl k ↦ inr (w.positive k) | inr k ↦ inl (w.zero (omega arith)) ]

pub decimal_is_whole : (n : ℕ) → n < 2 ^ 127 → IsWhole (pos n) (decimal n)
decimal_is_whole n h =
    let w : Writes n (decimal n) = written n h in
    record { negative = false; digits = decimal n; is_int = is_int n (decimal n) w; value = ap pos (sym w.value); parts = refl }
