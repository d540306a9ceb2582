-- The names of each grammar are UTF-8.
use Rattle.std.proofs.Common.{◌≡◌, ℕ, ◌<◌, ◌≤◌, Bool, true, ◌&&◌, ◌||◌, IsTrue, nat_lt, nat_le, List, [], ◌∷◌, length, Option, Some, None, option_and_then, inl, inr, refl, arith, eqb-true, leb-true}
use Rattle.std.specs.Prelude.{◌==◌, IsUtf8}
use Rattle.std.specs.Int.{is_in_range}
use Rattle.std.specs.List.{list_all}
use Rattle.std.specs.Char.{is_ascii_digit, is_ascii_uppercase, is_ascii_graphic}
use Rattle.std.proofs.lemmas.Bool.{cond_both, and_parts, or_cases}
use Rattle.std.proofs.lemmas.Str.{IsUtf8-nil}
use Rattle.lg_containers.specs.AddressGrammar.{IsAddress, is_colon}
use Rattle.lg_containers.specs.AddressLaws.{address_first, address_step, address_ends, address_accepts}
use Rattle.lg_containers.specs.AssetGrammar.{IsAsset}
use Rattle.lg_containers.specs.AssetLaws.{asset_step, asset_ends, asset_accepts}
use Rattle.lg_containers.specs.Bytes.{is_word_byte, is_code_byte}
use Rattle.lg_containers.specs.CountedGrammar.{IsKey}
use Rattle.lg_containers.specs.Grammar.{runs, ends_well, Accepts}
use Rattle.lg_containers.specs.TextLaws.{ascii_utf8}
use Rattle.lg_containers.specs.declared.address.AddressState.{AddressState}
use Rattle.lg_containers.specs.declared.asset.AssetState.{AssetState}
use Rattle.lg_containers.specs.declared.asset.AssetState.TheVariants.{Start, Code, Underscore, Suffix, Slash, Scale}

-- a machine that goes on at ASCII bytes alone accepts ASCII alone
abbrev GoesOnAt : {S : Type 0} → ℕ → Option S → Type 0
GoesOnAt b None = Unit {0}
GoesOnAt b (Some s) = b < 128

module _ {S : Type 0} (step : S → ℕ → Option S) (ends : S → Bool) (ascii : (s : S) (b : ℕ) → GoesOnAt b (step s b)) where
  accepted_after : (b : ℕ) (bs : List ℕ) → ((s : S) → Accepts step ends s bs → IsUtf8 bs) → (o : Option S) → GoesOnAt b o → IsTrue (ends_well ends (option_and_then (λ t. runs step t bs) o)) → IsUtf8 (b ∷ bs)
  accepted_after b bs ih None g k = absurd cc
  accepted_after b bs ih (Some t) g k = ascii_utf8 b bs g (ih t k)

  accepted : (bytes : List ℕ) (s : S) → Accepts step ends s bytes → IsUtf8 bytes
  accepted [] s h = IsUtf8-nil
  accepted (b ∷ bs) s h = accepted_after b bs (accepted bs) (step s b) (ascii s b) h

-- ---- the bytes of names are ASCII

ranged : (lo hi b : ℕ) → hi < 128 → is_in_range lo hi b ≡ true → b < 128
ranged lo hi b h e = let p = and_parts (nat_le lo b) (nat_le b hi) e in let k : b ≤ hi = leb-true b hi p.1 in omega arith

same : (b n : ℕ) → n < 128 → (b == n) ≡ true → b < 128
same b n h e = let k : b ≡ n = eqb-true b n e in omega arith

digit : (b : ℕ) → is_ascii_digit b ≡ true → b < 128
digit b e = ranged 48 57 b (omega arith) e

upper : (b : ℕ) → is_ascii_uppercase b ≡ true → b < 128
upper b e = ranged 65 90 b (omega arith) e

either : (x y : Bool) (b : ℕ) → (x ≡ true → b < 128) → (y ≡ true → b < 128) → (x || y) ≡ true → b < 128
either x y b p q e = elim (or_cases x y e) [ inl k ↦ p k | inr k ↦ q k ]

code : (b : ℕ) → is_code_byte b ≡ true → b < 128
code b = either (is_ascii_uppercase b) (is_ascii_digit b) b (upper b) (digit b)

word : (b : ℕ) → is_word_byte b ≡ true → b < 128
word b =
    either _ (b == 45) b
    (either _ (b == 95) b (either _ (is_in_range 97 122 b) b (either (is_in_range 48 57 b) (is_in_range 65 90 b) b (digit b) (upper b)) (ranged 97 122 b (omega arith))) (same b 95 (omega arith)))
    (same b 45 (omega arith))

address_goes_on : (s : AddressState) (b : ℕ) → GoesOnAt b (address_step s b)
address_goes_on s b =
    cond_both (is_colon b) _ _ (GoesOnAt b)
    (λ e. cond_both (s.fresh || nat_le 254 s.length) _ _ (GoesOnAt b) (λ _. tt) (λ _. same b 58 (omega arith) e))
    (λ _. cond_both (is_word_byte b && nat_lt s.length 255) _ _ (GoesOnAt b) (λ e. word b (and_parts (is_word_byte b) _ e).0) (λ _. tt))

pub address_utf8 : (bytes : List ℕ) → IsAddress bytes → IsUtf8 bytes
address_utf8 bytes h = accepted address_step address_ends address_goes_on bytes address_first ((address_accepts bytes).0 h)

asset_goes_on : (s : AssetState) (b : ℕ) → GoesOnAt b (asset_step s b)
asset_goes_on Start b = cond_both (is_ascii_uppercase b) _ _ (GoesOnAt b) (upper b) (λ _. tt)
asset_goes_on (Code n) b =
    cond_both (nat_lt 0 n && is_code_byte b) _ _ (GoesOnAt b) (λ e. code b (and_parts (nat_lt 0 n) _ e).1)
    (λ _. cond_both (b == 95) _ _ (GoesOnAt b) (same b 95 (omega arith)) (λ _. cond_both (b == 47) _ _ (GoesOnAt b) (same b 47 (omega arith)) (λ _. tt)))
asset_goes_on Underscore b = cond_both (is_ascii_uppercase b) _ _ (GoesOnAt b) (upper b) (λ _. tt)
asset_goes_on (Suffix n) b =
    cond_both (nat_lt 0 n && is_ascii_uppercase b) _ _ (GoesOnAt b) (λ e. upper b (and_parts (nat_lt 0 n) _ e).1)
    (λ _. cond_both (b == 47) _ _ (GoesOnAt b) (same b 47 (omega arith)) (λ _. tt))
asset_goes_on Slash b = cond_both (is_ascii_digit b) _ _ (GoesOnAt b) (digit b) (λ _. tt)
asset_goes_on (Scale n) b = cond_both (nat_lt 0 n && is_ascii_digit b) _ _ (GoesOnAt b) (λ e. digit b (and_parts (nat_lt 0 n) _ e).1) (λ _. tt)

pub asset_utf8 : (bytes : List ℕ) → IsAsset bytes → IsUtf8 bytes
asset_utf8 bytes h = accepted asset_step asset_ends asset_goes_on bytes Start ((asset_accepts bytes).0 h)

graphic_utf8 : (bytes : List ℕ) → list_all is_ascii_graphic bytes ≡ true → IsUtf8 bytes
graphic_utf8 [] h = IsUtf8-nil
graphic_utf8 (b ∷ bs) h = let p = and_parts (is_ascii_graphic b) (list_all is_ascii_graphic bs) h in ascii_utf8 b bs (ranged 33 126 b (omega arith) p.0) (graphic_utf8 bs p.1)

pub key_utf8 : (bytes : List ℕ) → IsKey bytes → IsUtf8 bytes
key_utf8 [] h = IsUtf8-nil
key_utf8 (b ∷ bs) h =
    let p = and_parts (is_ascii_graphic b) (nat_le (length bs) 254 && list_all is_ascii_graphic bs) h in
    let q = and_parts (nat_le (length bs) 254) (list_all is_ascii_graphic bs) p.1 in
    ascii_utf8 b bs (ranged 33 126 b (omega arith) p.0) (graphic_utf8 bs q.1)

-- a key isn't empty
pub key_some : (bytes : List ℕ) → IsKey bytes → (b : ℕ) × (bs : List ℕ) × (bytes ≡ b ∷ bs)
key_some [] h = absurd cc
key_some (b ∷ bs) h = (b, bs, refl)
