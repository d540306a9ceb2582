-- The name of an asset: [A-Z][A-Z0-9]{0,16}(_[A-Z]{1,16})?(/[0-9]{1,6})?, with one test for each place where the expression may stand.
use Rattle.std.specs.Prelude.{ℕ, ◌-◌, Bool, false, true, ◌&&◌, List, [], ◌∷◌, IsTrue, nat_lt, ◌==◌, if◌then◌else◌}
use Rattle.std.specs.Char.{is_ascii_digit, is_ascii_uppercase}
use Rattle.lg_containers.specs.Bytes.{is_code_byte}

-- [0-9]{0,n}
abbrev pub is_digits : ℕ → List ℕ → Bool
is_digits n [] = true
is_digits n (b ∷ bs) = (nat_lt 0 n && is_ascii_digit b) && is_digits (n - 1) bs

-- [0-9]{1,6}
abbrev pub is_scale : List ℕ → Bool
is_scale [] = false
is_scale (b ∷ bs) = is_ascii_digit b && is_digits 5 bs

-- [A-Z]{0,n}(/[0-9]{1,6})?
abbrev pub is_letters_scaled : ℕ → List ℕ → Bool
is_letters_scaled n [] = true
is_letters_scaled n (b ∷ bs) = if nat_lt 0 n && is_ascii_uppercase b then is_letters_scaled (n - 1) bs else (b == 47 && is_scale bs)

-- [A-Z]{1,16}(/[0-9]{1,6})?
abbrev pub is_suffix_scaled : List ℕ → Bool
is_suffix_scaled [] = false
is_suffix_scaled (b ∷ bs) = is_ascii_uppercase b && is_letters_scaled 15 bs

-- [A-Z0-9]{0,n}(_[A-Z]{1,16})?(/[0-9]{1,6})?
abbrev pub is_code_rest : ℕ → List ℕ → Bool
is_code_rest n [] = true
is_code_rest n (b ∷ bs) =
    if nat_lt 0 n && is_code_byte b then is_code_rest (n - 1) bs else (if b == 95 then is_suffix_scaled bs else (b == 47 && is_scale bs))

abbrev pub is_asset : List ℕ → Bool
is_asset [] = false
is_asset (b ∷ bs) = is_ascii_uppercase b && is_code_rest 16 bs

abbrev pub IsAsset : List ℕ → Type 0
IsAsset bytes = IsTrue (is_asset bytes)
