-- The totals of lent shards and earlier entries are those of the log with the entries, and stay within the limit.
use Rattle.std.proofs.Common.{◌≡◌, ℕ, ◌<◌, true, false, List, [], ◌∷◌, ◌++◌, Option, Some, None, refl, sym, ap, subst, ◌∙◌, append_assoc, arith}
use Rattle.std.specs.Prelude.{IsTrue, IsSome, IsSomeAnd, nat_lt}
use Rattle.std.proofs.lemmas.Bool.Decides.{nat_tests}
use Rattle.std.proofs.lemmas.List.{append-nil}
use Rattle.lg_base.specs.Volumes.{IsWithinLimit, sum_of}
use Rattle.lg_commit_volumes.proofs.SumLemmas.{nothing_last}
use Rattle.lg_plan.proofs.Entering.{part-totals, totals-stay-within}
use Rattle.lg_shard.specs.Shown.{account_moves}
use Rattle.lg_shard.specs.State.{StripeState}
use Rattle.lg_sheet.specs.Trials.{MayTry, HaveTotals, Accepted}
use Rattle.lg_sheet.specs.Working.{Working, worked}
use Rattle.lg_types.specs.declared.classes.Class.{Class}
use Rattle.lg_types.specs.declared.classes.Class.TheVariants.{Account as AccountClass}
use Rattle.lg_types.specs.declared.records.Entry.{Entry}
use Rattle.lg_types.specs.declared.records.Event.{Event}
use Rattle.lg_types.specs.declared.records.Posting.{Posting}
use Rattle.lg_types.specs.Log.{log}
use Rattle.lg_types.specs.Moves.{body_transaction, moves, total}
use Rattle.lg_types.specs.Parts.{part_of}
use Rattle.lg_types.specs.Stripes.{stripe}
use Rattle.lg_types.specs.Tally.{total_of}
use Rattle.lg_types.proofs.MoveSums.{moves-append, volumes-append}
use Rattle.lg_views.specs.Import.{causes, FollowsFrom, is_over_limit}
use Rattle.lg_views.proofs.TestAnswers.{all_false}
use Rattle.lg_weigh.specs.Lent.{AreLent, AreParts}
use Rattle.lg_weigh.specs.Totals.{known_total, lent_total, lends_account, AreShardsWithin}
use Rattle.lg_weigh.proofs.LentLemmas.{stripe_below}
use Rattle.lg_weigh.proofs.TotalLemmas.{total_within}
use Rattle.lg_listed.specs.Amounts.{total_after, AreTotalsWithin}
use Rattle.lg_listed.specs.Elements.{every_stripe}

-- every resource is of one of the stripes
below_true : (k : ℕ) → k < 16 → nat_lt k 16 ≡ true
below_true k h = grind (arith, nat_tests, h)

pub in_every : (class : Class) (ledger name : List ℕ) → IsTrue (every_stripe (stripe class ledger name))
in_every class ledger name = below_true (stripe class ledger name) (stripe_below class ledger name)

-- lent shards that are parts are lent
some_there : (o : Option StripeState) (P : StripeState → Type 0) → IsSomeAnd o P → IsSome o
some_there None P h = absurd h
some_there (Some state) P h = refl

pub parts_lent : (lent : ℕ → Option StripeState) (events : List Event) → AreParts every_stripe lent events → AreLent every_stripe lent
parts_lent lent events parts = record { each = λ k wanted. some_there (lent k) (λ state. state.shares ≡ part_of k events) (parts.each k wanted) }

-- ---- the limit

stays : (account asset : List ℕ) (g es : List Entry) → FollowsFrom g es → IsWithinLimit (total (moves g) account asset) → IsWithinLimit (total (moves (g ++ es)) account asset)
stays account asset g [] follows h = subst (λ (l : List Entry). IsWithinLimit (total (moves l) account asset)) (sym (append-nil g)) h
stays account asset g (e ∷ es) follows h =
    let over : is_over_limit g (body_transaction e.body) ≡ false = (all_false (causes g e) follows.0).1.1.1.1.1.1.1.1.0 in
    subst (λ (l : List Entry). IsWithinLimit (total (moves l) account asset)) (append_assoc g (e ∷ []) es)
    (stays account asset (g ++ e ∷ []) es follows.1 (totals-stay-within g e account asset h over))

module _ (lent : ℕ → Option StripeState) (ledger : List ℕ) (earlier : List Entry) where
  module _ (events : List Event) (parts : AreParts every_stripe lent events) where
    known_is : (account asset : List ℕ) (o : Option StripeState) → IsSomeAnd o (λ state. state.shares ≡ part_of (stripe AccountClass ledger account) events)
        → known_total o ledger account asset ≡ total (moves (log events ledger)) account asset
    known_is account asset None h = absurd h
    known_is account asset (Some state) h = ap (λ shares. total_of (account_moves shares ledger account asset)) h ∙ part-totals events ledger account asset

    lent_is : (account asset : List ℕ) → lent_total lent ledger account asset ≡ total (moves (log events ledger)) account asset
    lent_is account asset = known_is account asset (lent (stripe AccountClass ledger account)) (parts.each (stripe AccountClass ledger account) (in_every AccountClass ledger account))

    -- the totals are those of the log with the entries
    total_is : (account asset : List ℕ) → total_after lent ledger earlier account asset ≡ total (moves (log events ledger ++ earlier)) account asset
    total_is account asset =
        ap (λ v. sum_of v (total (moves earlier) account asset)) (lent_is account asset)
        ∙ sym (ap (λ ms. total ms account asset) (moves-append (log events ledger) earlier) ∙ volumes-append (moves (log events ledger)) (moves earlier) (λ _. true) account asset)

    pub all_within : AreShardsWithin lent → FollowsFrom (log events ledger) earlier → AreTotalsWithin lent ledger earlier
    all_within within follows = record {
      each = λ account asset.
          subst IsWithinLimit (sym (total_is account asset))
          (stays account asset (log events ledger) earlier follows (subst IsWithinLimit (lent_is account asset) (total_within lent ledger within account asset)));
    }

    -- the log with the entries has the totals
    pub have_totals : (ps : List Posting) → HaveTotals (total_after lent ledger earlier) ps (moves (log events ledger ++ earlier))
    have_totals ps = record { each = λ k d h. record { source = sym (total_is _ _); destination = sym (total_is _ _) } }

  module _ (are : AreLent every_stripe lent) (within : AreTotalsWithin lent ledger earlier) where
    lends : (account : List ℕ) → IsTrue (lends_account lent ledger account)
    lends account = are.each (stripe AccountClass ledger account) (in_every AccountClass ledger account)

    -- any postings may be tried on a fresh sheet
    pub may_try : (sheet : Working) → Accepted sheet [] → (ps : List Posting) → MayTry (lends_account lent ledger) (total_after lent ledger earlier) sheet ps
    may_try sheet empty ps = record {
      lent = λ k d h. record { source = lends _; destination = lends _ };
      within = λ k d h. record { source = plain _ _; destination = plain _ _ };
    }
      where
        plain : (account asset : List ℕ) → IsWithinLimit (sum_of (total_after lent ledger earlier account asset) (worked sheet account asset))
        plain account asset =
            subst IsWithinLimit (sym (ap (sum_of (total_after lent ledger earlier account asset)) (empty.each account asset) ∙ nothing_last (total_after lent ledger earlier account asset))) (within.each account asset)

-- what holds of the shards, the ledger and the entries holds of others that are the same
pub of_same : (P : (ℕ → Option StripeState) → List ℕ → List Entry → Type 0) (lent shards : ℕ → Option StripeState) (ledger name : List ℕ) (earlier entries : List Entry)
    → shards ≡ lent → name ≡ ledger → entries ≡ earlier → P lent ledger earlier → P shards name entries
of_same P lent shards ledger name earlier entries p q r h =
    subst (λ (f : ℕ → Option StripeState). P f name entries) (sym p) (subst (λ (n : List ℕ). P lent n entries) (sym q) (subst (λ (es : List Entry). P lent ledger es) (sym r) h))
