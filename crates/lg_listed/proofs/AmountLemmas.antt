-- What entries move of an account and an asset, beside some volumes.
use Rattle.std.proofs.Common.{◌≡◌, ℕ, ◌+◌, ◌<◌, ◌≤◌, true, List, length, drop, get_or, Some, None, refl, sym, ap, subst, ◌∙◌}
use Rattle.std.specs.List.{flat_map}
use Rattle.std.proofs.lemmas.List.{drop_all}
use Rattle.lg_base.specs.declared.amounts.Volumes.{Volumes}
use Rattle.lg_base.specs.Volumes.{sum_of, IsWithinLimit}
use Rattle.lg_types.specs.declared.records.Entry.{Entry}
use Rattle.lg_types.specs.declared.records.Transaction.{Transaction}
use Rattle.lg_types.specs.Moves.{body_transaction, transaction_moves, entry_moves, moves, total}
use Rattle.lg_types.specs.Trial.{tried_moves}
use Rattle.lg_types.proofs.Limits.{total-postings}
use Rattle.lg_types.proofs.MoveSums.{volumes-append}
use Rattle.lg_commit_volumes.proofs.SumLemmas.{nothing_last, sum_assoc, first_within, left_here}

module _ (account asset : List ℕ) where
  abbrev pub moved : List Entry → Volumes
  moved es = total (moves es) account asset

  abbrev pub moved_by : Entry → Volumes
  moved_by e = total (entry_moves e) account asset

  -- what an entry's transaction moves is what the entry moves
  pub made_total : (e : Entry) (t : Transaction) → body_transaction e.body ≡ Some t → moved_by e ≡ total (flat_map tried_moves t.postings) account asset
  made_total e t made = ap (λ o. total (transaction_moves e.date o) account asset) made ∙ total-postings t.id e.date t.timestamp t.postings account asset

  pub none_moved : (e : Entry) (v : Volumes) → body_transaction e.body ≡ None → v ≡ sum_of v (moved_by e)
  none_moved e v none = sym (ap (λ o. sum_of v (total (transaction_moves e.date o) account asset)) none ∙ nothing_last v)

  moved_next : (es : List Entry) (i : ℕ) (e : Entry) → i < length es → e ≡ get_or es i e → moved (drop i es) ≡ sum_of (moved_by e) (moved (drop (i + 1) es))
  moved_next es i e h is = ap moved (left_here es i e h is) ∙ volumes-append (entry_moves e) (moves (drop (i + 1) es)) (λ _. true) account asset

  -- a step of a loop over entries
  pub entries_next : (es : List Entry) (i : ℕ) (e : Entry) (sum next whole : Volumes) → i < length es → e ≡ get_or es i e → next ≡ sum_of sum (moved_by e)
      → sum_of sum (moved (drop i es)) ≡ whole → sum_of next (moved (drop (i + 1) es)) ≡ whole
  entries_next es i e sum next whole h is k before =
      ap (λ v. sum_of v (moved (drop (i + 1) es))) k
      ∙ sum_assoc sum (moved_by e) (moved (drop (i + 1) es))
      ∙ ap (sum_of sum) (sym (moved_next es i e h is))
      ∙ before

  pub entry_within : (es : List Entry) (i : ℕ) (e : Entry) (sum whole : Volumes) → i < length es → e ≡ get_or es i e
      → sum_of sum (moved (drop i es)) ≡ whole → IsWithinLimit whole → IsWithinLimit (sum_of sum (moved_by e))
  entry_within es i e sum whole h is before limit =
      first_within (sum_of sum (moved_by e)) (moved (drop (i + 1) es)) (subst IsWithinLimit (sym (entries_next es i e sum (sum_of sum (moved_by e)) whole h is refl before)) limit)

  pub entries_done : (es : List Entry) (i : ℕ) (sum whole : Volumes) → length es ≤ i → sum_of sum (moved (drop i es)) ≡ whole → sum ≡ whole
  entries_done es i sum whole h before = sym (nothing_last sum) ∙ ap (λ l. sum_of sum (moved l)) (sym (drop_all i es h)) ∙ before
