-- The text of a hash is a JSON string, and stands for that hash alone.
use Rattle.std.proofs.Common.{◌≡◌, ℕ, zero, suc, ◌+◌, ◌*◌, ◌/◌, ◌%◌, ◌<◌, Bool, ◌&&◌, nat_lt, List, [], ◌∷◌, ◌++◌, length, refl, sym, ap, ◌∙◌, arith, ltb-true}
use Rattle.std.specs.Prelude.{Result, Ok, slice_index, replicate}
use Rattle.std.specs.List.{AllByRecursion}
use Rattle.std.proofs.lemmas.Bool.{and_parts}
use Rattle.base64.specs.GeneralPurpose.{IsBytes, encode_of, decode_of}
use Rattle.base64.specs.Engines.{standard}
use Rattle.base64.specs.Rfc4648.{encode_symbols, padding_len}
use Rattle.base64.specs.declared.decode.DecodeError.{DecodeError}
use Rattle.base64.proofs.EngineFacts.{decode_of-encode_of}
use Rattle.base64.proofs.Tables.{all_below_at}
use Rattle.lg_base.specs.Texts.{is_plain}
use Rattle.lg_json.specs.Grammar.{IsString}
use Rattle.lg_types.specs.PartTexts.{hash_text}
use Rattle.lg_entry_lines.proofs.Strings.{IsPlain, plain_is_string, plain_from}

is_plain_symbol : ℕ → Bool
is_plain_symbol k = nat_lt (slice_index standard.encode_table k) 128 && is_plain (slice_index standard.encode_table k)

symbol : (k : ℕ) → k < 64 → IsPlain (slice_index standard.encode_table k)
unfolding is_plain_symbol
symbol k h =
    let p = and_parts (nat_lt (slice_index standard.encode_table k) 128) (is_plain (slice_index standard.encode_table k)) (all_below_at is_plain_symbol 64 k refl h) in
    record { small = ltb-true (slice_index standard.encode_table k) 128 p.0; plain = p.1 }

all_append : (P : ℕ → Type 0) (xs ys : List ℕ) → AllByRecursion P xs → AllByRecursion P ys → AllByRecursion P (xs ++ ys)
all_append P [] ys h k = k
all_append P (x ∷ xs) ys h k = (h.0, all_append P xs ys h.1 k)

all_equals : (n : ℕ) → AllByRecursion IsPlain (replicate n 61)
all_equals zero = tt
all_equals (suc n) = (plain_from 61 (omega arith) (omega arith) (omega arith) (omega arith), all_equals n)

symbols_plain : (bytes : List ℕ) → IsBytes bytes → AllByRecursion IsPlain (encode_symbols standard.encode_table bytes)
unfolding encode_symbols
symbols_plain [] h = tt
symbols_plain (a ∷ []) h =
    let ha : a < 256 = h 0 in
    (symbol (a / 4) (omega arith), (symbol (a % 4 * 16) (omega arith), tt))
symbols_plain (a ∷ b ∷ []) h =
    let ha : a < 256 = h 0 in
    let hb : b < 256 = h 1 in
    (symbol (a / 4) (omega arith), (symbol (a % 4 * 16 + b / 16) (omega arith), (symbol (b % 16 * 4) (omega arith), tt)))
symbols_plain (a ∷ b ∷ c ∷ rest) h =
    let ha : a < 256 = h 0 in
    let hb : b < 256 = h 1 in
    let hc : c < 256 = h 2 in
    (symbol (a / 4) (omega arith), (symbol (a % 4 * 16 + b / 16) (omega arith), (symbol (b % 16 * 4 + c / 64) (omega arith), (symbol (c % 64) (omega arith), symbols_plain rest (λ i. h (suc (suc (suc i))))))))

pub hash_plain : (hash : List ℕ) → IsBytes hash → AllByRecursion IsPlain (encode_of standard hash)
hash_plain hash h = all_append IsPlain (encode_symbols standard.encode_table hash) (replicate (padding_len (length hash)) 61) (symbols_plain hash h) (all_equals (padding_len (length hash)))

pub hash_is_string : (hash : List ℕ) → IsBytes hash → IsString (encode_of standard hash) (hash_text hash)
unfolding hash_text
hash_is_string hash h = plain_is_string (encode_of standard hash) (hash_plain hash h)

same_ok : {A E : Type 0} (x y : A) → ◌≡◌ {A = Result A E} (Ok x) (Ok y) → x ≡ y
same_ok x y e = cc

-- equal texts, equal hashes
pub same_hash : (a b : List ℕ) → IsBytes a → IsBytes b → encode_of standard a ≡ encode_of standard b → a ≡ b
same_hash a b ha hb e =
    let da : decode_of standard (encode_of standard a) ≡ Ok a = decode_of-encode_of standard a refl ha in
    let db : decode_of standard (encode_of standard b) ≡ Ok b = decode_of-encode_of standard b refl hb in
    same_ok {E = DecodeError} a b (sym da ∙ ap (decode_of standard) e ∙ db)
