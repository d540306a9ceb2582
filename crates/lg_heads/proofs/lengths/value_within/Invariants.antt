use Rattle.std.proofs.Common.{◌≡◌, ◌^◌, ◌-◌, min, take}
use Rattle.std.specs.Str.Parse.{digits_value}
use Rattle.lg_heads.proofs.lengths.value_within.Given as goal

abbrev pub invariant-digits : goal.invariant-digits
invariant-digits l = l.value ≡ min (digits_value 10 (take l.digit-index l.digits)) (2 ^ 64 - 1)
