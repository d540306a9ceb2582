-- What the parts of stripes say of keys and references is what the log says.
use Rattle.std.proofs.Common.{◌≡◌, ℕ, List, Option, Some, refl, ◌∙◌, ap, subst}
use Rattle.std.specs.Prelude.{IsSomeAnd}
use Rattle.std.specs.Option.{option_map}
use Rattle.lg_keys.specs.declared.kept.Kept.{Kept}
use Rattle.lg_shard.specs.Shown.{kept_of, kept_under, used_under}
use Rattle.lg_shard.specs.State.{StripeState}
use Rattle.lg_types.specs.declared.classes.Class.TheVariants.{Key as KeyClass, Reference as ReferenceClass}
use Rattle.lg_types.specs.declared.records.Event.{Event}
use Rattle.lg_types.specs.declared.refusals.Refusal.{Refusal}
use Rattle.lg_types.specs.Known.{used, transaction_of}
use Rattle.lg_types.specs.Log.{log}
use Rattle.lg_types.specs.Parts.{part_of}
use Rattle.lg_types.specs.Stripes.{stripe}
use Rattle.lg_types.proofs.StripeKnows.{knows-keys, knows-references}
use Rattle.lg_weigh.specs.declared.weighed.Weighed.{Weighed}
use Rattle.lg_weigh.specs.Weighing.{kept_in}
use Rattle.lg_weigh.proofs.KeptLemmas.{kept_mark}

module _ (ledger name : List ℕ) (events : List Event) (state : StripeState) where
  pub key_known : (o : Option StripeState) → o ≡ Some state → IsSomeAnd o (λ s. s.shares ≡ part_of (stripe KeyClass ledger name) events) → kept_under state.shares ledger name ≡ kept_in (log events ledger) name
  key_known o is part =
      let same : state.shares ≡ part_of (stripe KeyClass ledger name) events = subst (λ q. IsSomeAnd q (λ s. s.shares ≡ part_of (stripe KeyClass ledger name) events)) is part in
      ap (λ shares. kept_under shares ledger name) same
      ∙ ap (option_map kept_of) (knows-keys (stripe KeyClass ledger name) ledger name events refl)
      ∙ kept_mark (log events ledger) name

  pub reference_known : (o : Option StripeState) → o ≡ Some state → IsSomeAnd o (λ s. s.shares ≡ part_of (stripe ReferenceClass ledger name) events) → used_under state.shares ledger name ≡ used (log events ledger) name
  reference_known o is part =
      let same : state.shares ≡ part_of (stripe ReferenceClass ledger name) events = subst (λ q. IsSomeAnd q (λ s. s.shares ≡ part_of (stripe ReferenceClass ledger name) events)) is part in
      ap (λ shares. used_under shares ledger name) same
      ∙ ap (option_map transaction_of) (knows-references (stripe ReferenceClass ledger name) ledger name events refl)

pub same_weighed : {a b : Option (List ℕ)} {c d : Option Kept} {e f : Option ℕ} {p q : Option Refusal} → a ≡ b → c ≡ d → e ≡ f → p ≡ q
    → ◌≡◌ {A = Weighed} (record { input_hash = a; kept = c; used = e; trial = p }) (record { input_hash = b; kept = d; used = f; trial = q })
same_weighed h k u t = λ i. record { input_hash = h i; kept = k i; used = u i; trial = t i }
