-- Numbers that are kept up to a limit while their digits are read.
use Rattle.std.proofs.Common.{◌≡◌, ℕ, ◌+◌, ◌*◌, ◌-◌, ◌<◌, ◌≤◌, true, List, length, take, drop, get_or, sym, ap, ◌∙◌, ⊎_elim, arith}
use Rattle.std.specs.Prelude.{min}
use Rattle.std.specs.Char.{digit_value}
use Rattle.std.specs.Str.{all_ascii_digits}
use Rattle.std.specs.Str.Parse.{digits_value}
use Rattle.std.proofs.Math.Nat.{min-eq_left, min-eq_right}
use Rattle.std.proofs.lemmas.Bool.{cases_lt}
use Rattle.std.proofs.lemmas.List.{drop_more}
use Rattle.std.proofs.lemmas.Int.Digits.{digits_value_more}
use Rattle.std.proofs.lemmas.Str.{digit_value_digit}
use Rattle.std.proofs.lemmas.Str.Parse.{tells_all_ascii_digits}

-- a number that was kept up to the limit is as good as the number itself
more_up_to : (x d limit : ℕ) → min (min x limit * 10 + d) limit ≡ min (x * 10 + d) limit
more_up_to x d limit = ⊎_elim
    (λ (h : limit < x). ap (λ (y : ℕ). min (y * 10 + d) limit) (min-eq_right (omega arith)) ∙ min-eq_right (omega arith) ∙ sym (min-eq_right (omega arith)))
    (λ (h : x ≤ limit). ap (λ (y : ℕ). min (y * 10 + d) limit) (min-eq_left h))
    (cases_lt limit x)

-- one digit more
pub digit_more : (digits : List ℕ) (i number d limit : ℕ) → i < length digits → all_ascii_digits (drop i digits) ≡ true
    → number ≡ min (digits_value 10 (take i digits)) limit → d ≡ get_or digits i 0 - 48
    → (min (number * 10 + d) limit ≡ min (digits_value 10 (take (i + 1) digits)) limit) × (all_ascii_digits (drop (i + 1) digits) ≡ true)
digit_more digits i number d limit l all is e =
    let first = tells_all_ascii_digits.parts (get_or digits i 0) (drop (i + 1) digits) (ap all_ascii_digits (sym (drop_more digits i 0 l)) ∙ all) in
    let value : d ≡ digit_value (get_or digits i 0) = omega (arith, digit_value_digit (get_or digits i 0) first.0) in (
      ap (λ (n : ℕ). min (n * 10 + d) limit) is
          ∙ more_up_to (digits_value 10 (take i digits)) d limit
          ∙ ap (λ (n : ℕ). min (digits_value 10 (take i digits) * 10 + n) limit) value
          ∙ ap (λ (n : ℕ). min n limit) (sym (digits_value_more 10 digits i l)),
      first.1,
    )
