-- Tests of the bytes of names.
use Rattle.std.specs.Prelude.{ℕ, Bool, ◌||◌, ◌==◌}
use Rattle.std.specs.Char.{is_ascii_alphanumeric, is_ascii_digit, is_ascii_uppercase}

-- [A-Za-z0-9_-]
abbrev pub is_word_byte : ℕ → Bool
is_word_byte b = (is_ascii_alphanumeric b || b == 95) || b == 45

-- [A-Z0-9]
abbrev pub is_code_byte : ℕ → Bool
is_code_byte b = is_ascii_uppercase b || is_ascii_digit b
