-- The address of an account: segments joined by `:`, at most 255 bytes. A segment is one or more letters, digits, `_` and `-`.
use Rattle.std.specs.Prelude.{ℕ, Bool, false, ◌&&◌, List, [], ◌∷◌, length, IsTrue, nat_le, ◌==◌}
use Rattle.std.specs.List.{list_all, slice_split}
use Rattle.lg_containers.specs.Bytes.{is_word_byte}

abbrev pub is_colon : ℕ → Bool
is_colon b = b == 58

abbrev pub is_segment : List ℕ → Bool
is_segment [] = false
is_segment (b ∷ bs) = list_all is_word_byte (b ∷ bs)

abbrev pub is_address : List ℕ → Bool
is_address bytes = nat_le (length bytes) 255 && list_all is_segment (slice_split is_colon bytes)

abbrev pub IsAddress : List ℕ → Type 0
IsAddress bytes = IsTrue (is_address bytes)
