-- What the values of parameters that are whole numbers are read as.
use Rattle.std.specs.Prelude.{ℕ, ◌≤◌, min, List, Option, Ok, codes}
use Rattle.lg_readings.specs.Answers.{Answer, known, ◌>>=◌}
use Rattle.lg_readings.specs.Parameters.{NumberIn}

abbrev pub SizeIn : Option (List ℕ) → Answer ℕ → Type 0
SizeIn value = NumberIn (codes "pageSize") (λ n. 1 ≤ n) 15 value >>= (λ n. known (Ok (min n 100)))

abbrev pub GroupIn : Option (List ℕ) → Answer ℕ → Type 0
GroupIn value = NumberIn (codes "groupBy") (λ n. n ≤ 4294967295) 0 value
