-- What one entry adds to the volumes before a transaction.
use Rattle.std.proofs.Common.{◌≡◌, ℕ, Bool, true, false, cond, List, Some, None, refl, sym, ap, subst, ◌∙◌}
use Rattle.std.specs.List.{flat_map}
use Rattle.lg_base.specs.declared.amounts.Volumes.{Volumes}
use Rattle.lg_base.specs.Volumes.{sum_of, IsWithinLimit}
use Rattle.lg_types.specs.declared.records.Entry.{Entry}
use Rattle.lg_types.specs.declared.records.Transaction.{Transaction}
use Rattle.lg_types.specs.Moves.{body_transaction, transaction_moves, entry_moves, volumes, total}
use Rattle.lg_types.specs.Trial.{tried_moves}
use Rattle.lg_types.proofs.Limits.{total-postings}
use Rattle.lg_commit_volumes.specs.declared.before.PairBefore.{PairBefore}
use Rattle.lg_commit_volumes.specs.Before.{precedes, with_moves, AreWithinLimit}
use Rattle.lg_commit_volumes.specs.Maps.{nothing}
use Rattle.lg_commit_volumes.proofs.SumLemmas.{nothing_last, second_within, same_before}
use Rattle.lg_commit_volumes.proofs.TestLemmas.{is_earlier, earlier-moves}

module _ (t : Transaction) (account asset : List ℕ) (before : PairBefore) (e : Entry) where
  -- an entry without a transaction adds nothing
  pub none_added : body_transaction e.body ≡ None → before ≡ with_moves t before (entry_moves e) account asset
  none_added none =
      sym (ap (λ o. with_moves t before (transaction_moves e.date o) account asset) none
      ∙ same_before _ _ _ _ (nothing_last before.all) (nothing_last before.ranked))

  module _ (u : Transaction) (made : body_transaction e.body ≡ Some u) (own : Volumes) (is : own ≡ total (flat_map tried_moves u.postings) account asset) where
    own_total : total (entry_moves e) account asset ≡ own
    own_total = ap (λ o. total (transaction_moves e.date o) account asset) made ∙ total-postings u.id e.date u.timestamp u.postings account asset ∙ sym is

    own_ranked : volumes (entry_moves e) (precedes t) account asset ≡ cond (is_earlier u t) own nothing
    own_ranked =
        ap (λ o. volumes (transaction_moves e.date o) (precedes t) account asset) made
        ∙ earlier-moves u t e.date account asset
        ∙ ap (λ v. cond (is_earlier u t) v nothing) (sym is)

    pub own_within : AreWithinLimit (with_moves t before (entry_moves e) account asset) → IsWithinLimit own
    own_within h = second_within before.all own (subst (λ v. IsWithinLimit (sum_of before.all v)) own_total h.all)

    pub all_within : AreWithinLimit (with_moves t before (entry_moves e) account asset) → IsWithinLimit (sum_of before.all own)
    all_within h = subst (λ v. IsWithinLimit (sum_of before.all v)) own_total h.all

    pub ranked_within : AreWithinLimit (with_moves t before (entry_moves e) account asset) → is_earlier u t ≡ true → IsWithinLimit (sum_of before.ranked own)
    ranked_within h less = subst (λ v. IsWithinLimit (sum_of before.ranked v)) (own_ranked ∙ ap (λ b. cond b own nothing) less) h.ranked

    by_rank : (b : Bool) → cond b (sum_of before.ranked own) before.ranked ≡ sum_of before.ranked (cond b own nothing)
    by_rank true = refl
    by_rank false = sym (nothing_last before.ranked)

    pub own_added : (b : Bool) → b ≡ is_earlier u t → ◌≡◌ {A = PairBefore} (record { all = sum_of before.all own; ranked = cond b (sum_of before.ranked own) before.ranked }) (with_moves t before (entry_moves e) account asset)
    own_added b less = same_before _ _ _ _ (ap (sum_of before.all) (sym own_total)) (by_rank b ∙ ap (λ c. sum_of before.ranked (cond c own nothing)) less ∙ ap (sum_of before.ranked) (sym own_ranked))
