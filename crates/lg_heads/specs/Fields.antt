-- What the fields of a head say of its message (RFC 9110, sections 7.6.1 and 8.6; RFC 9112, sections 6 and 9.3).
use Rattle.std.specs.Prelude.{ℕ, ◌^◌, ◌-◌, min, ◌==◌, nat_lt, Bool, not, ◌&&◌, ◌||◌, if◌then◌else◌, List, [], ◌∷◌, length, find, codes, bytes_eq, Option, Some, None, is_some}
use Rattle.std.specs.List.{list_all}
use Rattle.std.specs.Option.{option_map}
use Rattle.std.specs.Char.{is_ascii_digit}
use Rattle.std.specs.Str.Parse.{digits_value}
use Rattle.http1.specs.Fields.{Header, is_named, elements_named, has_option}
use Rattle.lg_heads.specs.declared.framing.Framing.{Framing}
use Rattle.lg_heads.specs.declared.framing.Framing.TheVariants.{Bad, Coded, Length}

-- the value of the first field with the name, in any letter case
abbrev pub first_value : List ℕ → List Header → Option (List ℕ)
first_value name fields = option_map (λ (field : Header). field.1) (find (is_named name) fields)

-- one or more decimal digits
abbrev pub is_whole_number : List ℕ → Bool
is_whole_number value = nat_lt 0 (length value) && list_all is_ascii_digit value

-- the digits without the zeros in front
abbrev pub significant_digits : List ℕ → List ℕ
significant_digits [] = []
significant_digits (digit ∷ digits) = (if digit == 48 then significant_digits digits else digit ∷ digits)

-- a whole number with the same value as the digits
abbrev pub is_same_number : List ℕ → List ℕ → Bool
is_same_number digits value = is_whole_number value && bytes_eq (significant_digits digits) (significant_digits value)

-- the field isn't a Content-Length, or is this number
abbrev pub keeps_length : List ℕ → Header → Bool
keeps_length digits field = not (is_named (codes "content-length") field) || is_same_number digits field.1

-- the length that the Content-Length fields state, the first of them with these digits: none where one of them is no
-- whole number or another number
abbrev pub length_from : List Header → Option (List ℕ) → Option ℕ
length_from fields None = Some 0
length_from fields (Some digits) = (if list_all (keeps_length digits) fields then Some (digits_value 10 digits) else None)

-- the same of all fields; the length is 0 where there is no Content-Length
abbrev pub stated_length : List Header → Option ℕ
stated_length fields = length_from fields (first_value (codes "content-length") fields)

-- there is a Transfer-Encoding
abbrev pub is_coded : List Header → Bool
is_coded fields = is_some (first_value (codes "transfer-encoding") fields)

-- a bad length comes before a coding, and a coding before a length; 2 ^ 64 - 1 stands for that length and all above
abbrev pub framing_from : Option ℕ → Bool → Framing
framing_from None coded = Bad
framing_from (Some n) coded = (if coded then Coded else Length (min n (2 ^ 64 - 1)))

-- what follows the head
abbrev pub framing_of : List Header → Framing
framing_of fields = framing_from (stated_length fields) (is_coded fields)

-- the connection closes behind the message: in HTTP/1.0, and where a Connection field lists `close`
abbrev pub closes_after : ℕ → List Header → Bool
closes_after minor fields = (minor == 0) || has_option (codes "close") (elements_named (codes "connection") fields)
