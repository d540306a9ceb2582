use Rattle.std.proofs.Common.{◌≡◌, take, drop}
use Rattle.std.specs.Prelude.{min, true}
use Rattle.std.specs.Str.{all_ascii_digits}
use Rattle.std.specs.Str.Parse.{digits_value}
use Rattle.lg_pages.proofs.numbers.digits_up_to.Given as goal

abbrev pub invariant-loop-digit : goal.invariant-loop-digit
invariant-loop-digit l = (l.number ≡ min (digits_value 10 (take l.digit-index l.digits)) l.limit) × (all_ascii_digits (drop l.digit-index l.digits) ≡ true)
