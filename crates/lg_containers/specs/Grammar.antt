-- The grammar of a name as a relation on whole lists of bytes, and the machine that reads it byte by byte.
--     Begins Names bytes           the bytes are a prefix of some name
--     IsFaultPlace Names bytes n   the bytes are no name, and n is the length of their longest prefix that is a prefix of some name
--     runs step s bytes            the state that the machine has after the bytes, from s on; none where it stops
--     Accepts, Lives               it ends well after the bytes;  after some bytes
use Rattle.std.specs.Prelude.{ℕ, ◌<◌, ◌≤◌, Bool, false, List, [], ◌∷◌, ◌++◌, length, take, IsTrue}
use Rattle.std.proofs.Common.{Option, Some, None, option_and_then}

abbrev pub Begins : (List ℕ → Type 0) → List ℕ → Type 0
Begins Names bytes = (rest : List ℕ) × Names (bytes ++ rest)

pub record IsFaultPlace (Names : List ℕ → Type 0) (bytes : List ℕ) (place : ℕ) : Type 0 where
  pub no_name : ¬ Names bytes
  pub within : place ≤ length bytes
  pub begins : Begins Names (take place bytes)
  pub longest : (n : ℕ) → place < n → n ≤ length bytes → ¬ Begins Names (take n bytes)

abbrev pub runs : {S : Type 0} → (S → ℕ → Option S) → S → List ℕ → Option S
runs step s [] = Some s
runs step s (b ∷ bs) = option_and_then (λ t. runs step t bs) (step s b)

abbrev pub ends_well : {S : Type 0} → (S → Bool) → Option S → Bool
ends_well ends None = false
ends_well ends (Some s) = ends s

abbrev pub Accepts : {S : Type 0} → (S → ℕ → Option S) → (S → Bool) → S → List ℕ → Type 0
Accepts step ends s bytes = IsTrue (ends_well ends (runs step s bytes))

abbrev pub Lives : {S : Type 0} → (S → ℕ → Option S) → (S → Bool) → S → Type 0
Lives step ends s = (rest : List ℕ) × Accepts step ends s rest
