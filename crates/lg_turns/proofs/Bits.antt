-- The bits of a set of stripes.
use Rattle.std.specs.Prelude.{nat_eq, nat_lt}
use Rattle.std.proofs.Common.{◌≡◌, ℕ, ◌*◌, ◌%◌, ◌^◌, ◌<◌, ◌≢◌, Bool, true, false, ◌&&◌, ◌||◌, bit_or, refl, ap, ◌∙◌, arith, w16}
use Rattle.std.proofs.lemmas.Bool.Decides.{nat_tests}
use Rattle.std.proofs.lemmas.Nat.Bits.{bit_at_set_same, bit_at_set_other, bit_at_ones}
use Rattle.std.specs.Int.{bit_at}
use Rattle.lg_turns.specs.Stripes.{has}

all_by : (k : ℕ) (b : Bool) → nat_lt k 16 ≡ b → (b && nat_eq (bit_at 65535 k) 1) ≡ b
all_by k true e = ap (λ n. nat_eq n 1) (bit_at_ones 16 k (grind (arith, nat_tests, e)))
all_by k false e = refl

pub has-all : (k : ℕ) → has record { bits = 65535 } k ≡ nat_lt k 16
has-all k = all_by k (nat_lt k 16) refl

with_by : (n k i : ℕ) → k < 16 → (b : Bool) → nat_eq i k ≡ b → (nat_lt i 16 && nat_eq (bit_at (bit_or n (1 * 2 ^ k % 65536)) i) 1) ≡ (b || (nat_lt i 16 && nat_eq (bit_at n i) 1))
with_by n k i lt true e =
    let same : i ≡ k = grind (arith, nat_tests, e) in
    let bit : bit_at (bit_or n (1 * 2 ^ k % 65536)) i ≡ 1 = ap (bit_at (bit_or n (1 * 2 ^ k % 65536))) same ∙ bit_at_set_same w16 n k lt in
    let low : nat_lt i 16 ≡ true = grind (arith, nat_tests) in
    rw (low, bit) refl
with_by n k i lt false e =
    let other : i ≢ k = grind (arith, nat_tests, e) in
    ap (λ m. nat_lt i 16 && nat_eq m 1) (bit_at_set_other w16 n k lt i other)

pub has-with : (n k : ℕ) → k < 16 → (i : ℕ) → has record { bits = bit_or n (1 * 2 ^ k % 65536) } i ≡ (nat_eq i k || has record { bits = n } i)
has-with n k lt i = with_by n k i lt (nat_eq i k) refl
