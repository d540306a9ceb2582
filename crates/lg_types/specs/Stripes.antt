-- Which of the sixteen stripes a resource belongs to: FNV-1a of 32 bits, modulo 16.
use Rattle.std.specs.Prelude.{ℕ, ◌*◌, ◌%◌, ◌^◌, bit_xor, List, ◌∷◌, ◌++◌}
use Rattle.std.specs.List.{fold}
use Rattle.lg_types.specs.declared.classes.Class.{Class}
use Rattle.lg_types.specs.declared.classes.Class.TheVariants.{Account, Key, Reference}

-- one byte more: offset 2166136261, prime 16777619
abbrev pub fnv_step : ℕ → ℕ → ℕ
fnv_step hash byte = (bit_xor hash byte * 16777619) % 2 ^ 32

abbrev pub fnv1a : List ℕ → ℕ
fnv1a bytes = fold fnv_step 2166136261 bytes

-- `a`, `k` and `r`
abbrev pub class_letter : Class → ℕ
class_letter Account = 97
class_letter Key = 107
class_letter Reference = 114

-- the bytes that name a resource of a ledger: the letter of its class, the ledger's name, a newline, its own name
abbrev pub resource_bytes : Class → List ℕ → List ℕ → List ℕ
resource_bytes class ledger name = class_letter class ∷ (ledger ++ (10 ∷ name))

unfoldable pub stripe : Class → List ℕ → List ℕ → ℕ
stripe class ledger name = fnv1a (resource_bytes class ledger name) % 16
