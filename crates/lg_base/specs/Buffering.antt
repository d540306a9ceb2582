-- A sink with bytes that wait in front of it.
use Rattle.std.specs.Prelude.{◌≡◌, ℕ, List, ◌++◌, Option, Some, None, Result}
use Rattle.lg_base.specs.Told.{Told}
use Rattle.lg_base.specs.Growth.{HasCause}

-- what the sink holds, where it tells it, followed by the bytes that wait
abbrev pub Ahead : Option (List ℕ) → List ℕ → List ℕ → Type 0
Ahead None held m = Unit {0}
Ahead (Some w) held m = (w ++ held) ≡ m

-- some front of the list is what the sink holds
abbrev pub ToldInPart : Option (List ℕ) → List ℕ → Type 0
ToldInPart written m = (front : List ℕ) × (rest : List ℕ) × (m ≡ front ++ rest) × Told written front

-- a call passes waiting bytes on to the sink: what stood in the sink and in front of it stands there still
pub record PassesOn {E : Type 0} (before after : Option (List ℕ)) (held left : List ℕ) (faults now : ℕ) (result : Result (Unit {0}) E) : Type 0 where
  pub same : (m : List ℕ) → Ahead before held m → Ahead after left m
  pub cause : HasCause faults now result
