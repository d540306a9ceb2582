-- A SHA-256 has 32 bytes.
use Rattle.std.proofs.Common.{ℕ, zero, suc, ◌<◌, List, [], ◌∷◌, ◌++◌, arith}
use Rattle.std.specs.Prelude.{slice_index}
use Rattle.std.specs.Int.{w32, to_be_bytes}
use Rattle.std.specs.List.{AllByRecursion}
use Rattle.base64.specs.GeneralPurpose.{IsBytes}
use Rattle.sha2.specs.Sha256.{sha256, digest_bytes, final_hash, initial_hash_256}
use Rattle.sha2.proofs.Facts256.{length-sha256}
use Rattle.lg_types.specs.declared.calls.Write.{Write}
use Rattle.lg_types.specs.declared.records.Entry.{Entry}
use Rattle.lg_types.specs.Chain.{line_hash, own_hash, input_hash}
use Rattle.lg_types.specs.Records.{IsHash}

abbrev AreBytes : List ℕ → Type 0
AreBytes bytes = AllByRecursion (λ b. b < 256) bytes

bytes-append : (xs ys : List ℕ) → AreBytes xs → AreBytes ys → AreBytes (xs ++ ys)
bytes-append [] ys h k = k
bytes-append (x ∷ xs) ys h k = (h.0, bytes-append xs ys h.1 k)

bytes-at : (bytes : List ℕ) → AreBytes bytes → IsBytes bytes
bytes-at [] h i = omega arith
bytes-at (b ∷ bs) h zero = h.0
bytes-at (b ∷ bs) h (suc i) = bytes-at bs h.1 i

word-bytes : (n : ℕ) → AreBytes (to_be_bytes w32 n)
word-bytes n = (omega arith, (omega arith, (omega arith, (omega arith, tt))))

digest-bytes : (words : List ℕ) (n : ℕ) → AreBytes (digest_bytes words n)
unfolding digest_bytes
digest-bytes words zero = tt
digest-bytes words (suc n) = bytes-append (digest_bytes words n) (to_be_bytes w32 (slice_index words n)) (digest-bytes words n) (word-bytes (slice_index words n))

digest-is_hash : (m : List ℕ) → IsHash (sha256 m)
unfolding sha256
digest-is_hash m = record { long = length-sha256 m; bytes = bytes-at (sha256 m) (digest-bytes (final_hash initial_hash_256 m) 8) }

-- the hash of an entry in a chain, and the hash of what a write asks
pub own_hash-is_hash : (g : List Entry) (e : Entry) → IsHash (own_hash g e)
unfolding line_hash
own_hash-is_hash g e = digest-is_hash _

pub input_hash-is_hash : (write : Write) → IsHash (input_hash write)
unfolding input_hash
input_hash-is_hash write = digest-is_hash _
