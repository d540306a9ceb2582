-- What a source or a sink tells of its bytes: some tell nothing.
use Rattle.std.specs.Prelude.{◌≡◌, ℕ, List, [], ◌++◌, Option, Some, None}

-- the bytes are those that the object tells, where it tells them
abbrev pub Told : Option (List ℕ) → List ℕ → Type 0
Told None m = Unit {0}
Told (Some w) m = w ≡ m

-- what an object that held this holds after these bytes were added
abbrev pub added : Option (List ℕ) → List ℕ → Option (List ℕ)
added None bytes = None
added (Some w) bytes = Some (w ++ bytes)

-- what a source had left, where it gave these bytes and has this left
abbrev pub given : List ℕ → Option (List ℕ) → Option (List ℕ)
given bytes None = None
given bytes (Some rest) = Some (bytes ++ rest)

-- nothing is left, where the source tells what is left
abbrev pub IsAtEnd : Option (List ℕ) → Type 0
IsAtEnd None = Unit {0}
IsAtEnd (Some rest) = rest ≡ []
