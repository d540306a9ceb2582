-- The decimal text of a number, read again.
use Rattle.std.proofs.Common.{◌≡◌, ℕ, ◌<◌, ◌^◌, Bool, true, false, List, Option, Some, None, Decides, MatchOption, refl, sym, ap, subst, arith}
use Rattle.std.specs.Prelude.{Result, Ok, Err, decimal}
use Rattle.std.specs.Str.{bytes_eq, IsUtf8}
use Rattle.std.specs.Str.Parse.{ParsesUnsigned}
use Rattle.std.proofs.lemmas.Bool.{false≢true}
use Rattle.std.proofs.lemmas.Fmt.{parse-decimal, IsAscii-decimal}
use Rattle.std.proofs.lemmas.Slice.Eq.{bytes_eq-Decides}
use Rattle.std.proofs.lemmas.Str.{IsUtf8-from_ascii}

abbrev pub IsNumber : List ℕ → Option ℕ → Type 0
IsNumber bytes r = MatchOption r ((n : ℕ) → n < 2 ^ 64 → ¬ (bytes ≡ decimal n)) (λ n. bytes ≡ decimal n)

equal : (bytes : List ℕ) (n : ℕ) → bytes ≡ decimal n → bytes_eq (decimal n) bytes ≡ true
equal bytes n e = (bytes_eq-Decides (decimal n) bytes).1 (sym e)

pub compared : {E : Type 0} (bytes : List ℕ) (number : ℕ) (parsed : Result ℕ E) (r : Option ℕ) → ParsesUnsigned 64 10 bytes parsed → parsed ≡ Ok number
    → MatchOption r (bytes_eq (decimal number) bytes ≡ false) (λ n. (n ≡ number) × (bytes ≡ decimal n)) → IsNumber bytes r
compared bytes number parsed (Some n) p is h = h.1
compared bytes number parsed None p is h = λ n small e.
    let ok : parsed ≡ Ok n = parse-decimal 64 n bytes parsed small small e p in
    let same : number ≡ n = cc in
    absurd (false≢true (subst (λ (b : Bool). b ≡ true) h (equal bytes number (subst (λ (m : ℕ). bytes ≡ decimal m) (sym same) e))))

pub unparsed : {E : Type 0} (bytes : List ℕ) (parsed : Result ℕ E) (fault : E) → ParsesUnsigned 64 10 bytes parsed → parsed ≡ Err fault → (n : ℕ) → n < 2 ^ 64 → ¬ (bytes ≡ decimal n)
unparsed bytes parsed fault p is n small e = absurd (let ok : parsed ≡ Ok n = parse-decimal 64 n bytes parsed small small e p in cc)

pub decimal_is_text : (bytes : List ℕ) (n : ℕ) → n < 2 ^ 64 → bytes ≡ decimal n → IsUtf8 bytes
decimal_is_text bytes n small e = subst IsUtf8 (sym e) (IsUtf8-from_ascii (decimal n) (IsAscii-decimal n small))
