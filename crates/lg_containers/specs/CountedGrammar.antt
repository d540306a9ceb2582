-- Names of a first byte of one kind and at most n further bytes of another: ledger names, buckets and keys.
use Rattle.std.specs.Prelude.{ℕ, Bool, false, ◌&&◌, List, [], ◌∷◌, length, IsTrue, nat_le}
use Rattle.std.specs.List.{list_all}
use Rattle.std.specs.Char.{is_ascii_alphanumeric, is_ascii_graphic}
use Rattle.lg_containers.specs.Bytes.{is_word_byte}

abbrev pub is_counted : (ℕ → Bool) → (ℕ → Bool) → ℕ → List ℕ → Bool
is_counted first more n [] = false
is_counted first more n (b ∷ bs) = first b && (nat_le (length bs) n && list_all more bs)

-- [A-Za-z0-9][A-Za-z0-9_-]{0,62}
abbrev pub IsLedgerName : List ℕ → Type 0
IsLedgerName bytes = IsTrue (is_counted is_ascii_alphanumeric is_word_byte 62 bytes)

-- [A-Za-z0-9_-]{1,63}
abbrev pub IsBucket : List ℕ → Type 0
IsBucket bytes = IsTrue (is_counted is_word_byte is_word_byte 62 bytes)

-- 1 to 255 bytes from 0x21 to 0x7E
abbrev pub IsKey : List ℕ → Type 0
IsKey bytes = IsTrue (is_counted is_ascii_graphic is_ascii_graphic 254 bytes)
