-- The chain of a log: each entry's hash is taken over the hash of the entry before and its own text (SHA-256, FIPS 180-4).
use Rattle.std.specs.Prelude.{ℕ, if◌then◌else◌, nat_eq, List, [], ◌∷◌, ◌++◌, Option, Some, None}
use Rattle.std.specs.Option.{option_map}
use Rattle.sha2.specs.Sha256.{sha256}
use Rattle.lg_types.specs.declared.records.Entry.{Entry}
use Rattle.lg_types.specs.declared.calls.Write.{Write}
use Rattle.lg_types.specs.declared.forms.EntryForm.{EntryForm}
use Rattle.lg_types.specs.declared.forms.EntryForm.TheVariants.{Chained, FirstChained}
use Rattle.lg_types.specs.Lists.{last_of}
use Rattle.lg_types.specs.PartTexts.{hash_text}
use Rattle.lg_types.specs.EntryTexts.{entry_text}
use Rattle.lg_types.specs.CallTexts.{call_text}

-- the hash of the entry before, as a string, and a newline; nothing for a ledger's first entry
abbrev pub before_text : Option (List ℕ) → List ℕ
before_text None = []
before_text (Some hash) = hash_text hash ++ (10 ∷ [])

-- what is hashed of an entry: what comes before it, its own text without the hash, and a newline
abbrev pub sealed_text : EntryForm → Option (List ℕ) → Entry → List ℕ
sealed_text form before e = before_text before ++ (entry_text e form ++ (10 ∷ []))

-- the hash of an entry after another hash, by the text of one log form. It doesn't look at the hash that the entry has
unfoldable pub line_hash : EntryForm → Option (List ℕ) → Entry → List ℕ
line_hash form before e = sha256 (sealed_text form before e)

-- the text that a line of log form 1 or 2 is hashed by
abbrev pub chained_by : ℕ → EntryForm
chained_by form = if nat_eq form 1 then FirstChained else Chained

abbrev pub entry_hash : Entry → List ℕ
entry_hash e = e.hash

abbrev pub head : List Entry → Option (List ℕ)
head g = option_map entry_hash (last_of g)

-- the hash that an entry has after a log
abbrev pub own_hash : List Entry → Entry → List ℕ
own_hash g e = line_hash Chained (head g) e

-- the hash of what a write asks
unfoldable pub input_hash : Write → List ℕ
input_hash write = sha256 (call_text write)
