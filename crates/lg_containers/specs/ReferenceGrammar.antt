-- The reference of a transaction: 1 to 255 bytes of UTF-8.
use Rattle.std.specs.Prelude.{ℕ, ◌≤◌, List, length, IsUtf8}

abbrev pub IsReference : List ℕ → Type 0
IsReference bytes = IsUtf8 bytes × (1 ≤ length bytes) × (length bytes ≤ 255)
