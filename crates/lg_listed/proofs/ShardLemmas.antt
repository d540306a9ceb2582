-- What the shard of a key or a reference knows of it is what the log knows.
use Rattle.std.proofs.Common.{◌≡◌, ℕ, List, Option, Some}
use Rattle.lg_shard.specs.Shown.{kept_under, used_under}
use Rattle.lg_shard.specs.State.{StripeState}
use Rattle.lg_types.specs.declared.classes.Class.TheVariants.{Key as KeyClass, Reference as ReferenceClass}
use Rattle.lg_types.specs.declared.records.Event.{Event}
use Rattle.lg_types.specs.Known.{used}
use Rattle.lg_types.specs.Log.{log}
use Rattle.lg_types.specs.Stripes.{stripe}
use Rattle.lg_weigh.specs.Lent.{AreParts}
use Rattle.lg_weigh.specs.Weighing.{kept_in}
use Rattle.lg_weigh.proofs.WeighLemmas.{key_known, reference_known}
use Rattle.lg_listed.specs.Elements.{every_stripe}
use Rattle.lg_listed.proofs.TotalLemmas.{in_every}

module _ (lent : ℕ → Option StripeState) (ledger name : List ℕ) (events : List Event) (parts : AreParts every_stripe lent events) (state : StripeState) where
  pub key_in_log : lent (stripe KeyClass ledger name) ≡ Some state → kept_under state.shares ledger name ≡ kept_in (log events ledger) name
  key_in_log there = key_known ledger name events state (lent (stripe KeyClass ledger name)) there (parts.each (stripe KeyClass ledger name) (in_every KeyClass ledger name))

  pub reference_in_log : lent (stripe ReferenceClass ledger name) ≡ Some state → used_under state.shares ledger name ≡ used (log events ledger) name
  reference_in_log there = reference_known ledger name events state (lent (stripe ReferenceClass ledger name)) there (parts.each (stripe ReferenceClass ledger name) (in_every ReferenceClass ledger name))
