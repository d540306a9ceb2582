-- Volumes of an account and an asset: what came in and what went out.
use Rattle.std.specs.Prelude.{ℤ, ◌+◌, ◌^◌, ◌<◌, pos, ◌-ℤ◌}
use Rattle.lg_base.specs.declared.amounts.Volumes.{Volumes}

-- both sums are at most 2 ^ 127 - 1
pub record IsWithinLimit (v : Volumes) : Type 0 where
  pub input : v.input < 2 ^ 127
  pub output : v.output < 2 ^ 127

-- inputs together, and outputs together
abbrev pub sum_of : Volumes → Volumes → Volumes
sum_of v w = record { input = v.input + w.input; output = v.output + w.output }

-- what is left: the input less the output
abbrev pub balance_of : Volumes → ℤ
balance_of v = pos v.input -ℤ pos v.output
