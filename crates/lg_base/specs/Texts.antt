-- Texts that every layer prints: strings as RFC 8259, section 7 writes them.
use Rattle.std.specs.Prelude.{ℕ, ◌+◌, ◌/◌, ◌%◌, ◌==◌, nat_lt, if◌then◌else◌, List, [], ◌∷◌, ◌++◌, Bool, ◌&&◌, not, codes}
use Rattle.std.specs.List.{flat_map}

-- a hexadecimal digit in lower case
abbrev pub hex_digit : ℕ → ℕ
hex_digit n = (if nat_lt n 10 then 48 + n else 87 + n)

-- a byte that stands as it is: no quote, no backslash and no control character
abbrev pub is_plain : ℕ → Bool
is_plain b = not (b == 34) && not (b == 92) && not (nat_lt b 32)

-- how a byte that doesn't stand as it is is written: the quote and the backslash with a backslash, five control
-- characters by a letter, the others by four hexadecimal digits
abbrev pub escape : ℕ → List ℕ
escape b =
    (if b == 34 then codes "\\\""
    else (if b == 92 then codes "\\\\"
    else (if b == 8 then codes "\\b"
    else (if b == 9 then codes "\\t"
    else (if b == 10 then codes "\\n"
    else (if b == 12 then codes "\\f"
    else (if b == 13 then codes "\\r"
    else codes "\\u00" ++ (hex_digit (b / 16) ∷ hex_digit (b % 16) ∷ []))))))))

-- a byte of a string
abbrev pub escaped : ℕ → List ℕ
escaped b = (if is_plain b then b ∷ [] else escape b)

-- a string between its quotes
abbrev pub quoted : List ℕ → List ℕ
quoted text = (34 ∷ []) ++ (flat_map escaped text ++ (34 ∷ []))
