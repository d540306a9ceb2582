-- The machine that reads the name of an asset, and why it accepts what the grammar does.
use Rattle.std.specs.Prelude.{◌≡◌, ℕ, ◌-◌, Bool, true, false, ◌&&◌, List, [], ◌∷◌, ◌↔◌, nat_lt, cond, if◌then◌else◌, ◌==◌}
use Rattle.std.proofs.Common.{Option, Some, None, option_and_then, refl}
use Rattle.std.specs.Char.{is_ascii_digit, is_ascii_uppercase}
use Rattle.lg_containers.specs.Bytes.{is_code_byte}
use Rattle.lg_containers.specs.Grammar.{runs, ends_well, Accepts, Lives}
use Rattle.lg_containers.specs.GrammarLaws.{same_test}
use Rattle.lg_containers.specs.AssetGrammar.{is_digits, is_scale, is_letters_scaled, is_suffix_scaled, is_code_rest, is_asset, IsAsset}
use Rattle.lg_containers.specs.declared.asset.AssetState.{AssetState}
use Rattle.lg_containers.specs.declared.asset.AssetState.TheVariants.{Start, Code, Underscore, Suffix, Slash, Scale}

abbrev pub asset_step : AssetState → ℕ → Option AssetState
asset_step Start b = if is_ascii_uppercase b then Some (Code 16) else None
asset_step (Code n) b =
    if nat_lt 0 n && is_code_byte b then Some (Code (n - 1)) else (if b == 95 then Some Underscore else (if b == 47 then Some Slash else None))
asset_step Underscore b = if is_ascii_uppercase b then Some (Suffix 15) else None
asset_step (Suffix n) b = if nat_lt 0 n && is_ascii_uppercase b then Some (Suffix (n - 1)) else (if b == 47 then Some Slash else None)
asset_step Slash b = if is_ascii_digit b then Some (Scale 5) else None
asset_step (Scale n) b = if nat_lt 0 n && is_ascii_digit b then Some (Scale (n - 1)) else None

abbrev pub asset_ends : AssetState → Bool
asset_ends Start = false
asset_ends (Code n) = true
asset_ends Underscore = false
asset_ends (Suffix n) = true
asset_ends Slash = false
asset_ends (Scale n) = true

abbrev after : Option AssetState → List ℕ → Bool
after o bytes = ends_well asset_ends (option_and_then (λ t. runs asset_step t bytes) o)

-- what may follow in each state
abbrev follows : AssetState → List ℕ → Bool
follows Start bytes = is_asset bytes
follows (Code n) bytes = is_code_rest n bytes
follows Underscore bytes = is_suffix_scaled bytes
follows (Suffix n) bytes = is_letters_scaled n bytes
follows Slash bytes = is_scale bytes
follows (Scale n) bytes = is_digits n bytes

reads : (s : AssetState) (bytes : List ℕ) → after (Some s) bytes ≡ follows s bytes
reads Start [] = refl
reads Start (b ∷ bs) = elim (is_ascii_uppercase b) as (λ t. after (cond t (Some (Code 16)) None) bs ≡ (t && is_code_rest 16 bs)) [ true ↦ reads (Code 16) bs | false ↦ refl ]
reads (Code n) [] = refl
reads (Code n) (b ∷ bs) =
    elim (nat_lt 0 n && is_code_byte b) as (λ t. after (cond t (Some (Code (n - 1))) (cond (b == 95) (Some Underscore) (cond (b == 47) (Some Slash) None))) bs ≡ cond t (is_code_rest (n - 1) bs) (cond (b == 95) (is_suffix_scaled bs) (b == 47 && is_scale bs))) [
      | true ↦ reads (Code (n - 1)) bs
      | false ↦ elim (b == 95) as (λ t. after (cond t (Some Underscore) (cond (b == 47) (Some Slash) None)) bs ≡ cond t (is_suffix_scaled bs) (b == 47 && is_scale bs)) [
        | true ↦ reads Underscore bs
        | false ↦ elim (b == 47) as (λ t. after (cond t (Some Slash) None) bs ≡ (t && is_scale bs)) [ true ↦ reads Slash bs | false ↦ refl ]
      ]
    ]
reads Underscore [] = refl
reads Underscore (b ∷ bs) = elim (is_ascii_uppercase b) as (λ t. after (cond t (Some (Suffix 15)) None) bs ≡ (t && is_letters_scaled 15 bs)) [ true ↦ reads (Suffix 15) bs | false ↦ refl ]
reads (Suffix n) [] = refl
reads (Suffix n) (b ∷ bs) =
    elim (nat_lt 0 n && is_ascii_uppercase b) as (λ t. after (cond t (Some (Suffix (n - 1))) (cond (b == 47) (Some Slash) None)) bs ≡ cond t (is_letters_scaled (n - 1) bs) (b == 47 && is_scale bs)) [
      | true ↦ reads (Suffix (n - 1)) bs
      | false ↦ elim (b == 47) as (λ t. after (cond t (Some Slash) None) bs ≡ (t && is_scale bs)) [ true ↦ reads Slash bs | false ↦ refl ]
    ]
reads Slash [] = refl
reads Slash (b ∷ bs) = elim (is_ascii_digit b) as (λ t. after (cond t (Some (Scale 5)) None) bs ≡ (t && is_digits 5 bs)) [ true ↦ reads (Scale 5) bs | false ↦ refl ]
reads (Scale n) [] = refl
reads (Scale n) (b ∷ bs) =
    elim (nat_lt 0 n && is_ascii_digit b) as (λ t. after (cond t (Some (Scale (n - 1))) None) bs ≡ (t && is_digits (n - 1) bs)) [ true ↦ reads (Scale (n - 1)) bs | false ↦ refl ]

pub asset_accepts : (bytes : List ℕ) → IsAsset bytes ↔ Accepts asset_step asset_ends Start bytes
asset_accepts bytes = same_test (after (Some Start) bytes) (is_asset bytes) (reads Start bytes)

-- a letter or a digit, where one is wanted, completes a name
lives_at : (s : AssetState) → Lives asset_step asset_ends s
lives_at Start = (65 ∷ [], refl)
lives_at (Code n) = ([], refl)
lives_at Underscore = (65 ∷ [], refl)
lives_at (Suffix n) = ([], refl)
lives_at Slash = (48 ∷ [], refl)
lives_at (Scale n) = ([], refl)

pub asset_lives : (bytes : List ℕ) (s : AssetState) → runs asset_step Start bytes ≡ Some s → Lives asset_step asset_ends s
asset_lives bytes s e = lives_at s
