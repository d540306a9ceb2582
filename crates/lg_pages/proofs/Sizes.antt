-- What a page size is read as.
use Rattle.std.proofs.Common.{◌≡◌, ℕ, ◌<◌, ◌≤◌, List, Option, Some, None, inl, inr, refl, sym, ap, subst, ◌∙◌, ⊎_elim, arith}
use Rattle.std.specs.Prelude.{min, Ok, Err, codes}
use Rattle.std.specs.Str.Parse.{digits_value}
use Rattle.std.proofs.Math.Nat.{min-eq_left, min-eq_right}
use Rattle.std.proofs.lemmas.Bool.{cases_lt}
use Rattle.lg_codec.proofs.Readings.{refused}
use Rattle.lg_codec.specs.Results.{Reads}
use Rattle.lg_codec.specs.Stops.{StopsWith}
use Rattle.lg_codec.specs.declared.stop.CodecStop.{CodecStop}
use Rattle.lg_pages.specs.Numbers.{SizeIn}
use Rattle.lg_types.specs.declared.refusals.Refusal.TheVariants.{Parameter as ParameterRefusal}
use Rattle.lg_readings.specs.Parameters.{IsNumberText, PageSize, bad_parameter}
use Rattle.lg_readings.specs.Targets.{Parameter, first_value}

none_of : (x : ℕ) → 0 ≡ min x 100 → ¬ (1 ≤ x)
none_of x is some = ⊎_elim
    (λ (h : 100 < x). absurd (let e : min x 100 ≡ 100 = min-eq_right (omega arith) in omega (arith, e, is)))
    (λ (h : x ≤ 100). absurd (let e : min x 100 ≡ x = min-eq_left h in omega (arith, e, is)))
    (cases_lt 100 x)

some_of : (x size : ℕ) → size ≡ min x 100 → ¬ (size ≡ 0) → 1 ≤ x
some_of x size is h = ⊎_elim
    (λ (l : 0 < x). l)
    (λ (l : x ≤ 0). absurd (h (is ∙ (let e : min x 100 ≡ x = min-eq_left (omega arith) in omega (arith, e)))))
    (cases_lt 0 x)

module _ (bytes : List ℕ) where
  refused_size : {e : CodecStop} → ((n : ℕ) → IsNumberText bytes n → ¬ (1 ≤ n)) → StopsWith (ParameterRefusal (codes "pageSize")) e → Reads {A = ℕ} (SizeIn (Some bytes)) (Err e)
  refused_size h stops = refused (SizeIn (Some bytes)) stops (record { answer = bad_parameter (codes "pageSize"); is_first = inr (h, refl); goes_on = refl })

  pub no_number : {e : CodecStop} → ((n : ℕ) → ¬ (IsNumberText bytes n)) → StopsWith (ParameterRefusal (codes "pageSize")) e → Reads {A = ℕ} (SizeIn (Some bytes)) (Err e)
  no_number h stops = refused_size (λ n is some. h n is) stops

  pub zero_size : {e : CodecStop} (size : ℕ) → size ≡ min (digits_value 10 bytes) 100 → size ≡ 0 → StopsWith (ParameterRefusal (codes "pageSize")) e → Reads {A = ℕ} (SizeIn (Some bytes)) (Err e)
  zero_size size is zero stops = refused_size (λ n text. subst (λ (x : ℕ). ¬ (1 ≤ x)) (sym text.value) (none_of (digits_value 10 bytes) (sym zero ∙ is))) stops

  pub some_size : (size : ℕ) → IsNumberText bytes (digits_value 10 bytes) → size ≡ min (digits_value 10 bytes) 100 → ¬ (size ≡ 0) → Reads {A = ℕ} (SizeIn (Some bytes)) (Ok size)
  some_size size text is h = record {
    answers = record { answer = Ok (digits_value 10 bytes); is_first = inl (digits_value 10 bytes, text, some_of (digits_value 10 bytes) size is h, refl); goes_on = ap (λ (n : ℕ). Ok n) is };
  }

pub absent_size : (ps : List Parameter) → None ≡ first_value (codes "pageSize") ps → Reads {A = ℕ} (PageSize ps) (Ok 15)
absent_size ps is = subst (λ (value : Option (List ℕ)). Reads {A = ℕ} (SizeIn value) (Ok 15)) is (record { answers = record { answer = Ok 15; is_first = refl; goes_on = refl } })
