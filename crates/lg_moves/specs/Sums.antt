-- Sums over moves: inputs, outputs and how many.
use Rattle.std.specs.Prelude.{◌≡◌, ℕ, ◌+◌, ◌^◌, ◌<◌}
use Rattle.lg_types.specs.declared.moves.Move.{Move}
use Rattle.lg_moves.specs.declared.sums.Sums.{Sums}
use Rattle.lg_types.specs.Tally.{amount_in, amount_out}

-- the sums are those of a total, which gives the sum of each part of a move over some moves
pub record AreSums (s : Sums) (total : (Move → ℕ) → ℕ) : Type 0 where
  pub input : s.input ≡ total amount_in
  pub output : s.output ≡ total amount_out
  pub count : s.count ≡ total (λ _. 1)

-- the inputs and outputs of a total are within the limit of amounts, and its moves can be counted
pub record IsBounded (total : (Move → ℕ) → ℕ) : Type 0 where
  pub input : total amount_in < 2 ^ 127
  pub output : total amount_out < 2 ^ 127
  pub count : total (λ _. 1) < 2 ^ 64

-- the sums with one more move
abbrev pub sums_with : Sums → Move → Sums
sums_with s m = record { input = s.input + amount_in m; output = s.output + amount_out m; count = s.count + 1 }
