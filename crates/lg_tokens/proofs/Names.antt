-- The bytes of names, numbers and dates: what is quoted stands as it is, and has no comma, no blank and no quote.
use Rattle.std.proofs.Common.{◌≡◌, ◌≢◌, ◌⊎◌, ℕ, suc, ◌+◌, ◌%◌, ◌^◌, ◌<◌, ◌≤◌, Bool, true, ◌&&◌, ◌||◌, IsTrue, nat_lt, nat_le, List, [], ◌∷◌, ◌++◌, Option, Some, None, option_and_then, inl, inr, refl, ap, ◌∙◌, arith, append_assoc, eqb-true, leb-true}
use Rattle.std.specs.Prelude.{◌==◌, All, decimal}
use Rattle.std.specs.Int.{is_in_range, IsInRange}
use Rattle.std.specs.List.{AllByRecursion, flat_map}
use Rattle.std.specs.Char.{is_ascii_digit, is_ascii_uppercase}
use Rattle.std.proofs.lemmas.Bool.{cond_both, and_parts, or_cases}
use Rattle.std.proofs.lemmas.Bool.Decides.{nat_tests}
use Rattle.std.proofs.lemmas.Fmt.{decimal_by_steps}
use Rattle.std.proofs.lemmas.Grind.{flat_map-append}
use Rattle.lg_base.specs.Texts.{is_plain, escaped, quoted}
use Rattle.lg_containers.specs.AddressGrammar.{IsAddress, is_colon}
use Rattle.lg_containers.specs.AddressLaws.{address_first, address_step, address_ends, address_accepts}
use Rattle.lg_containers.specs.AssetGrammar.{IsAsset}
use Rattle.lg_containers.specs.AssetLaws.{asset_step, asset_ends, asset_accepts}
use Rattle.lg_containers.specs.Bytes.{is_word_byte, is_code_byte}
use Rattle.lg_containers.specs.Grammar.{runs, ends_well, Accepts}
use Rattle.lg_containers.specs.declared.address.AddressState.{AddressState}
use Rattle.lg_containers.specs.declared.asset.AssetState.{AssetState}
use Rattle.lg_containers.specs.declared.asset.AssetState.TheVariants.{Start, Code, Underscore, Suffix, Slash, Scale}
use Rattle.lg_tokens.specs.Parts.{Lacks}

-- a byte from `-` on that is no backslash
pub record IsNameByte (b : ℕ) : Type 0 where
  pub low : 45 ≤ b
  pub no_backslash : b ≢ 92

pub lacks_all : (mark : ℕ) (bytes : List ℕ) → mark < 45 → AllByRecursion IsNameByte bytes → Lacks mark bytes
lacks_all mark [] lt h = tt
lacks_all mark (b ∷ bs) lt h = (let low : 45 ≤ b = h.0.low in omega arith, lacks_all mark bs lt h.1)

pub lacks_append : (mark : ℕ) (a b : List ℕ) → Lacks mark a → Lacks mark b → Lacks mark (a ++ b)
lacks_append mark [] b h k = k
lacks_append mark (x ∷ xs) b h k = (h.0, lacks_append mark xs b h.1 k)

plain_byte : (b : ℕ) → 45 ≤ b → b ≢ 92 → is_plain b ≡ true
plain_byte b low other = grind (arith, nat_tests)

stands : (b : ℕ) → is_plain b ≡ true → escaped b ≡ b ∷ []
stands b h = rw h refl

pub stands_all : (bytes : List ℕ) → AllByRecursion IsNameByte bytes → flat_map escaped bytes ≡ bytes
stands_all [] h = refl
stands_all (b ∷ bs) h =
    ap (λ (l : List ℕ). l ++ flat_map escaped bs) (stands b (plain_byte b h.0.low h.0.no_backslash)) ∙ ap (λ (l : List ℕ). b ∷ l) (stands_all bs h.1)

pub quoted_before : (bytes more : List ℕ) → flat_map escaped bytes ≡ bytes → quoted bytes ++ more ≡ 34 ∷ (bytes ++ 34 ∷ more)
quoted_before bytes more h =
    ap (λ (l : List ℕ). (34 ∷ (l ++ 34 ∷ [])) ++ more) h ∙ ap (λ (l : List ℕ). 34 ∷ l) (append_assoc bytes (34 ∷ []) more)

-- two names on both sides of a blank
pub pair_stands : (a b : List ℕ) → AllByRecursion IsNameByte a → AllByRecursion IsNameByte b → flat_map escaped (a ++ 32 ∷ b) ≡ a ++ 32 ∷ b
pair_stands a b h k =
    flat_map-append escaped a (32 ∷ b) ∙ (ap (λ (l : List ℕ). l ++ 32 ∷ flat_map escaped b) (stands_all a h) ∙ ap (λ (l : List ℕ). a ++ 32 ∷ l) (stands_all b k))

-- ---- what a machine takes

abbrev GoesOnAt : {S : Type 0} → ℕ → Option S → Type 0
GoesOnAt b None = Unit {0}
GoesOnAt b (Some s) = IsNameByte b

module _ {S : Type 0} (step : S → ℕ → Option S) (ends : S → Bool) (fine : (s : S) (b : ℕ) → GoesOnAt b (step s b)) where
  accepted_after : (b : ℕ) (bs : List ℕ) → ((s : S) → Accepts step ends s bs → AllByRecursion IsNameByte bs) → (o : Option S) → GoesOnAt b o → IsTrue (ends_well ends (option_and_then (λ t. runs step t bs) o)) → AllByRecursion IsNameByte (b ∷ bs)
  accepted_after b bs ih None g k = absurd cc
  accepted_after b bs ih (Some t) g k = (g, ih t k)

  accepted : (bytes : List ℕ) (s : S) → Accepts step ends s bytes → AllByRecursion IsNameByte bytes
  accepted [] s h = tt
  accepted (b ∷ bs) s h = accepted_after b bs (accepted bs) (step s b) (fine s b) h

ranged : (lo hi b : ℕ) → 45 ≤ lo → (92 < lo) ⊎ (hi < 92) → is_in_range lo hi b ≡ true → IsNameByte b
ranged lo hi b l h e =
    let p = and_parts (nat_le lo b) (nat_le b hi) e in
    let low : lo ≤ b = leb-true lo b p.0 in
    let high : b ≤ hi = leb-true b hi p.1 in
    record { low = omega arith; no_backslash = λ (k : b ≡ 92). elim h [ inl x ↦ (omega arith) | inr x ↦ (omega arith) ] }

same : (b n : ℕ) → 45 ≤ n → n ≢ 92 → (b == n) ≡ true → IsNameByte b
same b n low other e = let k : b ≡ n = eqb-true b n e in record { low = omega arith; no_backslash = omega arith }

digit : (b : ℕ) → is_ascii_digit b ≡ true → IsNameByte b
digit b e = ranged 48 57 b (omega arith) (inr (omega arith)) e

upper : (b : ℕ) → is_ascii_uppercase b ≡ true → IsNameByte b
upper b e = ranged 65 90 b (omega arith) (inr (omega arith)) e

either : (x y : Bool) (b : ℕ) → (x ≡ true → IsNameByte b) → (y ≡ true → IsNameByte b) → (x || y) ≡ true → IsNameByte b
either x y b p q e = elim (or_cases x y e) [ inl k ↦ p k | inr k ↦ q k ]

code : (b : ℕ) → is_code_byte b ≡ true → IsNameByte b
code b = either (is_ascii_uppercase b) (is_ascii_digit b) b (upper b) (digit b)

word : (b : ℕ) → is_word_byte b ≡ true → IsNameByte b
word b =
    either _ (b == 45) b
    (either _ (b == 95) b (either _ (is_in_range 97 122 b) b (either (is_in_range 48 57 b) (is_in_range 65 90 b) b (digit b) (upper b)) (ranged 97 122 b (omega arith) (inl (omega arith)))) (same b 95 (omega arith) (omega arith)))
    (same b 45 (omega arith) (omega arith))

address_goes_on : (s : AddressState) (b : ℕ) → GoesOnAt b (address_step s b)
address_goes_on s b =
    cond_both (is_colon b) _ _ (GoesOnAt b)
    (λ e. cond_both (s.fresh || nat_le 254 s.length) _ _ (GoesOnAt b) (λ _. tt) (λ _. same b 58 (omega arith) (omega arith) e))
    (λ _. cond_both (is_word_byte b && nat_lt s.length 255) _ _ (GoesOnAt b) (λ e. word b (and_parts (is_word_byte b) _ e).0) (λ _. tt))

pub address_bytes : (bytes : List ℕ) → IsAddress bytes → AllByRecursion IsNameByte bytes
address_bytes bytes h = accepted address_step address_ends address_goes_on bytes address_first ((address_accepts bytes).0 h)

asset_goes_on : (s : AssetState) (b : ℕ) → GoesOnAt b (asset_step s b)
asset_goes_on Start b = cond_both (is_ascii_uppercase b) _ _ (GoesOnAt b) (upper b) (λ _. tt)
asset_goes_on (Code n) b =
    cond_both (nat_lt 0 n && is_code_byte b) _ _ (GoesOnAt b) (λ e. code b (and_parts (nat_lt 0 n) _ e).1)
    (λ _. cond_both (b == 95) _ _ (GoesOnAt b) (same b 95 (omega arith) (omega arith)) (λ _. cond_both (b == 47) _ _ (GoesOnAt b) (same b 47 (omega arith) (omega arith)) (λ _. tt)))
asset_goes_on Underscore b = cond_both (is_ascii_uppercase b) _ _ (GoesOnAt b) (upper b) (λ _. tt)
asset_goes_on (Suffix n) b =
    cond_both (nat_lt 0 n && is_ascii_uppercase b) _ _ (GoesOnAt b) (λ e. upper b (and_parts (nat_lt 0 n) _ e).1)
    (λ _. cond_both (b == 47) _ _ (GoesOnAt b) (same b 47 (omega arith) (omega arith)) (λ _. tt))
asset_goes_on Slash b = cond_both (is_ascii_digit b) _ _ (GoesOnAt b) (digit b) (λ _. tt)
asset_goes_on (Scale n) b = cond_both (nat_lt 0 n && is_ascii_digit b) _ _ (GoesOnAt b) (λ e. digit b (and_parts (nat_lt 0 n) _ e).1) (λ _. tt)

pub asset_bytes : (bytes : List ℕ) → IsAsset bytes → AllByRecursion IsNameByte bytes
asset_bytes bytes h = accepted asset_step asset_ends asset_goes_on bytes Start ((asset_accepts bytes).0 h)

-- ---- numbers and dates

pub record IsDigitByte (b : ℕ) : Type 0 where
  pub low : 48 ≤ b
  pub high : b ≤ 57

all_snoc : (bs : List ℕ) (b : ℕ) → AllByRecursion IsDigitByte bs → IsDigitByte b → AllByRecursion IsDigitByte (bs ++ b ∷ [])
all_snoc [] b h k = (k, tt)
all_snoc (x ∷ xs) b h k = (h.0, all_snoc xs b h.1 k)

pub decimal_bytes : (n : ℕ) → n < 2 ^ 64 → AllByRecursion IsDigitByte (decimal n)
decimal_bytes n h =
    decimal_by_steps (λ _ ds. AllByRecursion IsDigitByte ds)
    (λ m lt. (record { low = omega arith; high = omega arith }, tt))
    (λ m ds le ih. all_snoc ds (48 + m % 10) ih (record { low = omega arith; high = omega arith }))
    n h

lacks_digits : (mark : ℕ) (bytes : List ℕ) → (mark < 48) ⊎ (57 < mark) → AllByRecursion IsDigitByte bytes → Lacks mark bytes
lacks_digits mark [] other h = tt
lacks_digits mark (b ∷ bs) other h = (
  λ (e : b ≡ mark). let low : 48 ≤ b = h.0.low in let high : b ≤ 57 = h.0.high in elim other [ inl x ↦ (omega arith) | inr x ↦ (omega arith) ],
  lacks_digits mark bs other h.1,
)

pub decimal_lacks : (mark n : ℕ) → (mark < 48) ⊎ (57 < mark) → n < 2 ^ 64 → Lacks mark (decimal n)
decimal_lacks mark n other h = lacks_digits mark (decimal n) other (decimal_bytes n h)

pub ranged_lacks : (mark : ℕ) (bytes : List ℕ) → mark < 45 → All (IsInRange 45 90) bytes → Lacks mark bytes
ranged_lacks mark [] lt h = tt
ranged_lacks mark (b ∷ bs) lt h =
    (let low : 45 ≤ b = (h 0 0 (omega arith)).0 in omega arith, ranged_lacks mark bs lt (λ k d le. h (suc k) d (omega arith)))
