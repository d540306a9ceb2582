-- The texts that a canonical text is made of.
use Rattle.std.specs.Prelude.{ℕ, ℤ, List, [], ◌∷◌, ◌++◌, Option, Some, None, decimal}
use Rattle.base64.specs.GeneralPurpose.{encode_of}
use Rattle.base64.specs.Engines.{standard}
use Rattle.lg_base.specs.Texts.{quoted}
use Rattle.lg_time.specs.Canonical.{moment_text}
use Rattle.lg_types.specs.Moments.{brought}
use Rattle.lg_types.specs.declared.parts.Part.{Part}
use Rattle.lg_types.specs.declared.parts.Part.TheVariants.{Plain, Address, Asset, LedgerName, Bucket, Key, Reference, Text, Number, Amount, Moment, Hash}

-- a hash in base64 with padding (RFC 4648, section 4), as a string
unfoldable pub hash_text : List ℕ → List ℕ
hash_text hash = (34 ∷ []) ++ (encode_of standard hash ++ (34 ∷ []))

-- a date as a string (RFC 3339); outside the range of moments, its nearer end
unfoldable pub date_text : ℤ → List ℕ
date_text moment = (34 ∷ []) ++ (moment_text (brought moment) ++ (34 ∷ []))

abbrev pub part_text : Part → List ℕ
part_text (Plain bytes) = bytes.now
part_text (Address name) = quoted name.now
part_text (Asset name) = quoted name.now
part_text (LedgerName name) = quoted name.now
part_text (Bucket name) = quoted name.now
part_text (Key name) = quoted name.now
part_text (Reference name) = quoted name.now
part_text (Text name) = quoted name.now
part_text (Number n) = decimal n
part_text (Amount n) = decimal n
part_text (Moment moment) = date_text moment.now
part_text (Hash hash) = hash_text hash.now

-- a member that is left out where it has no value
abbrev pub optional_text : {X : Type 0} → (X → List ℕ) → Option X → List ℕ
optional_text text None = []
optional_text text (Some x) = text x
