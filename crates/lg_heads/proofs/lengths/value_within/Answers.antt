use Rattle.std.proofs.Common.{◌≡◌, ℕ, ◌-◌, get_or, true, arith}
use Rattle.std.specs.Char.{is_ascii_digit, digit_value}
use Rattle.std.proofs.lemmas.Bool.Decides.{nat_tests}
use Rattle.std.proofs.lemmas.Int.Digits.{digits_value_more}
use Rattle.std.proofs.lemmas.List.Sums.{AllPass-from_list_all}
use Rattle.lg_heads.proofs.FieldLemmas.{both_true}
use Rattle.lg_heads.proofs.lengths.value_within.Goals as goal

digit_is : (b : ℕ) → is_ascii_digit b ≡ true → digit_value b ≡ b - 48
digit_is b h = grind (arith, nat_tests)

pub digits-preserved : goal.digits-preserved
digits-preserved c =
    let digits = c.args.digits.now in
    let at = c.digits.digit-index in
    let passes : is_ascii_digit (get_or digits at 0) ≡ true = AllPass-from_list_all is_ascii_digit digits (both_true _ _ c.requires).1 at 0 c.digits-test.true in
    let digit = digit_is (get_or digits at 0) passes in
    let more = digits_value_more 10 digits at c.digits-test.true in
    omega (arith, digit, more)
