-- The totals of accounts over shards that are lent.
use Rattle.std.proofs.Common.{◌≡◌, ℕ, List, [], map, Option, Some, None, refl, sym, ◌∙◌, ap, subst, arith}
use Rattle.std.specs.Prelude.{IsTrue, IsSomeAnd, IfSome}
use Rattle.lg_base.specs.declared.amounts.Volumes.{Volumes}
use Rattle.lg_base.specs.Volumes.{IsWithinLimit, sum_of}
use Rattle.lg_shard.specs.Shown.{AreWithinLimit}
use Rattle.lg_shard.specs.State.{StripeState}
use Rattle.lg_sheet.specs.Working.{Working, worked}
use Rattle.lg_sheet.specs.Trials.{present, MayTry, HaveTotals, Accepted}
use Rattle.lg_types.specs.declared.calls.Write.{Write}
use Rattle.lg_types.specs.declared.classes.Class.TheVariants.{Account as AccountClass}
use Rattle.lg_types.specs.declared.records.Event.{Event}
use Rattle.lg_types.specs.declared.records.Transaction.{Transaction}
use Rattle.lg_types.specs.Log.{log}
use Rattle.lg_types.specs.Moves.{moves, pair_moves, total}
use Rattle.lg_types.specs.Parts.{account_resource, part_of, part_moves}
use Rattle.lg_types.specs.Stripes.{stripe}
use Rattle.lg_types.specs.Tally.{total_of}
use Rattle.lg_types.proofs.StripeKnows.{knows-moves}
use Rattle.lg_weigh.specs.Lent.{stripes_with, AreLent, AreParts}
use Rattle.lg_weigh.specs.Reach.{write_accounts}
use Rattle.lg_weigh.specs.Totals.{known_total, lent_total, lends_account, AreShardsWithin}
use Rattle.lg_weigh.specs.Trials.{named_postings}
use Rattle.lg_weigh.proofs.LentLemmas.{stripe_below, of_postings, named_wanted}

module _ (lent : ℕ → Option StripeState) (ledger : List ℕ) where
  within_of : (o : Option StripeState) (account asset : List ℕ) → IfSome o (λ state. AreWithinLimit state.shares) → IsWithinLimit (known_total o ledger account asset)
  within_of None account asset h = record { input = omega arith; output = omega arith }
  within_of (Some state) account asset h = h ledger account asset

  pub total_within : AreShardsWithin lent → (account asset : List ℕ) → IsWithinLimit (lent_total lent ledger account asset)
  total_within h account asset = within_of (lent (stripe AccountClass ledger account)) account asset (h.each (stripe AccountClass ledger account) (stripe_below AccountClass ledger account))

  -- what nothing was added to stays within the limit
  none_added : (v none : Volumes) → none ≡ record { input = 0; output = 0 } → IsWithinLimit v → IsWithinLimit (sum_of v none)
  none_added v none is h =
      subst (λ w. IsWithinLimit (sum_of v w)) (sym is)
      (let input = h.input in let output = h.output in record { input = omega arith; output = omega arith })

  module _ (write : Write) (known : Option Transaction) where
    -- the postings that a write names may be tried over the shards that it needs
    pub may_try : (sheet : Working) → AreLent (stripes_with ledger (map account_resource (write_accounts write known))) lent → AreShardsWithin lent → Accepted sheet []
        → MayTry (lends_account lent ledger) (lent_total lent ledger) sheet (named_postings write known)
    may_try sheet are within empty = record {
      lent = of_postings ledger (λ account asset. IsTrue (lends_account lent ledger account)) (named_postings write known)
          (λ account asset wanted. are.each (stripe AccountClass ledger account) (named_wanted ledger write known (stripe AccountClass ledger account) wanted));
      within = of_postings ledger (λ account asset. IsWithinLimit (present (lent_total lent ledger) sheet account asset)) (named_postings write known)
          (λ account asset wanted. none_added (lent_total lent ledger account asset) (worked sheet account asset) (empty.each account asset) (total_within within account asset));
    }

    module _ (events : List Event) where
      total_of_part : (o : Option StripeState) (account asset : List ℕ) → IsSomeAnd o (λ state. state.shares ≡ part_of (stripe AccountClass ledger account) events)
          → total (moves (log events ledger)) account asset ≡ known_total o ledger account asset
      total_of_part None account asset h = absurd h
      total_of_part (Some state) account asset h =
          ap total_of (sym (ap (λ shares. pair_moves (part_moves ledger shares) account asset) h ∙ knows-moves (stripe AccountClass ledger account) ledger account asset events refl))

      -- the lent totals are those of the log
      pub have_totals : AreParts (stripes_with ledger (map account_resource (write_accounts write known))) lent events
          → HaveTotals (lent_total lent ledger) (named_postings write known) (moves (log events ledger))
      have_totals parts = record {
        each = of_postings ledger (λ account asset. total (moves (log events ledger)) account asset ≡ lent_total lent ledger account asset) (named_postings write known)
            (λ account asset wanted. total_of_part (lent (stripe AccountClass ledger account)) account asset
            (parts.each (stripe AccountClass ledger account) (named_wanted ledger write known (stripe AccountClass ledger account) wanted)));
      }
