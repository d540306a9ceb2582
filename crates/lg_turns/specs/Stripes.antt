-- Sets of stripes.
use Rattle.std.specs.Prelude.{ℕ, Bool, ◌&&◌, nat_eq, nat_lt}
use Rattle.std.specs.Int.{bit_at}
use Rattle.lg_turns.specs.declared.stripes.StripeSet.{StripeSet}

-- whether the stripe of this number, below 16, is in the set
abbrev pub has : StripeSet → ℕ → Bool
has set stripe = nat_lt stripe 16 && nat_eq (bit_at set.bits stripe) 1
