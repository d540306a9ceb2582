-- Payments on the ledger `default`.
use Rattle.std.specs.Prelude.{◌≡◌, ℕ, ◌||◌, nat_eq, List, codes}
use Rattle.lg_types.specs.declared.classes.Class.TheVariants.{Account as AccountClass}
use Rattle.lg_types.specs.declared.records.Event.{Event}
use Rattle.lg_types.specs.Stripes.{stripe}
use Rattle.lg_types.specs.Parts.{touches}

abbrev pub account_stripe : List ℕ → ℕ
account_stripe name = stripe AccountClass (codes "default") name

-- the event touches these two stripes and no other
abbrev pub TouchesBoth : ℕ → ℕ → Event → Type 0
TouchesBoth m n event = (k : ℕ) → touches k event ≡ (nat_eq m k || nat_eq n k)
