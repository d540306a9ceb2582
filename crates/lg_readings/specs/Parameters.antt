-- What the parameters of a query are read as. One that can't be read is refused by its name.
use Rattle.std.specs.Prelude.{◌≡◌, ◌⊎◌, ℕ, ◌+◌, ◌<◌, ◌≤◌, min, ℤ, Bool, true, false, ◌&&◌, ◌||◌, nat_le, if◌then◌else◌, List, [], ◌∷◌, map, length, slice_index_or, Option, Some, None, is_some, Ok, Err, codes}
use Rattle.std.specs.List.{list_any, list_all}
use Rattle.std.specs.Str.{bytes_eq, all_ascii_digits}
use Rattle.std.specs.Str.Parse.{digits_value}
use Rattle.lg_time.specs.Moment.{IsMoment}
use Rattle.lg_types.specs.declared.queries.Expand.{Expand}
use Rattle.lg_types.specs.declared.refusals.Refusal.TheVariants.{Parameter as ParameterRefusal}
use Rattle.lg_readings.specs.Answers.{Answer, known, ◌>>=◌}
use Rattle.lg_readings.specs.Targets.{Parameter, first_value, all_values}

abbrev pub bad_parameter : {A : Type 0} → List ℕ → Answer A
bad_parameter name = Err (ParameterRefusal name)

-- ---- moments

abbrev pub MomentValue : List ℕ → Option (List ℕ) → Answer (Option ℤ) → Type 0
MomentValue name None r = r ≡ Ok None
MomentValue name (Some t) r = ((moment : ℤ) × IsMoment t moment × (r ≡ Ok (Some moment))) ⊎ (((moment : ℤ) → ¬ (IsMoment t moment)) × (r ≡ bad_parameter name))

abbrev pub MomentParameter : List ℕ → List Parameter → Answer (Option ℤ) → Type 0
MomentParameter name ps = MomentValue name (first_value name ps)

-- ---- truths: `true` or `1`, `false` or `0`, in any letter case

abbrev pub lower_byte : ℕ → ℕ
lower_byte b = if nat_le 65 b && nat_le b 90 then b + 32 else b

abbrev pub says_true : List ℕ → Bool
says_true t = bytes_eq (map lower_byte t) (codes "true") || bytes_eq t (codes "1")

abbrev pub says_false : List ℕ → Bool
says_false t = bytes_eq (map lower_byte t) (codes "false") || bytes_eq t (codes "0")

-- false where it is absent
abbrev pub truth_in : List ℕ → Option (List ℕ) → Answer Bool
truth_in name None = Ok false
truth_in name (Some t) = if says_true t then Ok true else (if says_false t then Ok false else bad_parameter name)

abbrev pub truth_parameter : List ℕ → List Parameter → Answer Bool
truth_parameter name ps = truth_in name (first_value name ps)

-- a truth that may not be true
abbrev pub unless_true : List ℕ → Bool → Answer (Unit {0})
unless_true name b = if b then bad_parameter name else Ok tt

-- ---- whole numbers: decimal, without leading zeros, of any length

pub record IsNumberText (t : List ℕ) (n : ℕ) : Type 0 where
  pub some : 0 < length t
  pub digits : all_ascii_digits t ≡ true
  pub no_leading_zero : slice_index_or t 0 0 ≡ 48 → length t ≡ 1
  pub value : n ≡ digits_value 10 t

abbrev pub NumberIn : List ℕ → (ℕ → Type 0) → ℕ → Option (List ℕ) → Answer ℕ → Type 0
NumberIn name Fits absent None r = r ≡ Ok absent
NumberIn name Fits absent (Some t) r = ((n : ℕ) × IsNumberText t n × Fits n × (r ≡ Ok n)) ⊎ (((n : ℕ) → IsNumberText t n → ¬ (Fits n)) × (r ≡ bad_parameter name))

-- from 1; a larger number counts as 100; 15 where it is absent
abbrev pub PageSize : List Parameter → Answer ℕ → Type 0
PageSize ps = NumberIn (codes "pageSize") (λ n. 1 ≤ n) 15 (first_value (codes "pageSize") ps) >>= (λ n. known (Ok (min n 100)))

-- 0 where it is absent
abbrev pub GroupBy : List Parameter → Answer ℕ → Type 0
GroupBy ps = NumberIn (codes "groupBy") (λ n. n ≤ 4294967295) 0 (first_value (codes "groupBy") ps)

-- ---- words

abbrev pub expand_words : List (List ℕ)
expand_words = codes "volumes" ∷ codes "effectiveVolumes" ∷ []

abbrev pub is_word_of : List (List ℕ) → List ℕ → Bool
is_word_of words t = list_any (bytes_eq t) words

-- each `expand` counts
abbrev pub expand_of : List (List ℕ) → Answer Expand
expand_of words =
    if list_all (is_word_of expand_words) words
    then Ok (record { volumes = list_any (bytes_eq (codes "volumes")) words; effective = list_any (bytes_eq (codes "effectiveVolumes")) words })
    else bad_parameter (codes "expand")

abbrev pub expand_parameter : List Parameter → Answer Expand
expand_parameter ps = expand_of (all_values (codes "expand") ps)

abbrev pub hash_words : List (List ℕ)
hash_words = codes "recompute" ∷ codes "check" ∷ []

abbrev pub hashes_in : Option (List ℕ) → Answer (Unit {0})
hashes_in None = Ok tt
hashes_in (Some t) = if is_word_of hash_words t then Ok tt else bad_parameter (codes "hashes")

abbrev pub hashes_parameter : List Parameter → Answer (Unit {0})
hashes_parameter ps = hashes_in (first_value (codes "hashes") ps)

-- whether an import recomputes its hashes
abbrev pub is_recompute : Option (List ℕ) → Bool
is_recompute None = false
is_recompute (Some t) = bytes_eq t (codes "recompute")

-- ---- parameters that no request may have

abbrev pub has_parameter : List ℕ → List Parameter → Bool
has_parameter name ps = is_some (first_value name ps)

abbrev pub no_order : List Parameter → Answer (Unit {0})
no_order ps =
    if has_parameter (codes "order") ps then bad_parameter (codes "order")
    else (if has_parameter (codes "sort") ps then bad_parameter (codes "sort")
    else (if has_parameter (codes "reverse") ps then bad_parameter (codes "reverse")
    else Ok tt))
