-- The volumes of an entry that a list appends can be read, and are those over the log with the earlier entries.
use Rattle.std.proofs.Common.{◌≡◌, ℕ, false, List, [], ◌∷◌, ◌++◌, get_or, Option, Some, None, refl, sym, ap, subst}
use Rattle.std.specs.Prelude.{IsSome, IsSomeAnd}
use Rattle.std.specs.List.{flat_map}
use Rattle.lg_base.specs.Volumes.{IsWithinLimit}
use Rattle.lg_types.specs.declared.classes.Class.TheVariants.{Account as AccountClass}
use Rattle.lg_types.specs.declared.records.Entry.{Entry}
use Rattle.lg_types.specs.declared.records.Event.{Event}
use Rattle.lg_types.specs.declared.records.Transaction.{Transaction}
use Rattle.lg_types.specs.Known.{transaction_accounts, next_transaction}
use Rattle.lg_types.specs.Log.{log}
use Rattle.lg_types.specs.MoveLaws.{IsWithin}
use Rattle.lg_types.specs.Moves.{moves, body_transaction}
use Rattle.lg_types.specs.Stripes.{stripe}
use Rattle.lg_types.specs.Tally.{total_of}
use Rattle.lg_types.specs.Trial.{limit_from}
use Rattle.lg_views.specs.Import.{is_misnumbered, is_over_limit}
use Rattle.lg_book.specs.declared.volumes.FirstVolumes.{FirstVolumes}
use Rattle.lg_book.specs.FirstVolumes.{entry_volumes, transaction_volumes, no_volumes}
use Rattle.lg_book.proofs.Sound.{next_id, no_some}
use Rattle.lg_shard.specs.State.{StripeState}
use Rattle.lg_commit_volumes.specs.Laws.{IsPairWithinBefore}
use Rattle.lg_commit_volumes.specs.Lent.{AreLent, AreParts, ArePairsWithin, HasSmallerIds, IsLent, IsPartOf, posting_pairs}
use Rattle.lg_commit_volumes.proofs.AroundLemmas.{log_moves}
use Rattle.lg_commit_volumes.proofs.LawLemmas.{tried_is_within}
use Rattle.lg_commit_volumes.proofs.NumberLemmas.{next_is_greater}
use Rattle.lg_plan.specs.Laws.{MayEnter}
use Rattle.lg_bulk.specs.Gathering.{MayAppend}
use Rattle.lg_bulk.proofs.GroundLemmas.{events_after, log-after, IsReady, ready, ready-after, may-enter, below-sixteen}

some-there : {A : Type 0} (P : A → Type 0) (o : Option A) → IsSomeAnd o P → IsSome o
some-there P None h = absurd h
some-there P (Some x) h = refl

module _ (lent : ℕ → Option StripeState) (events : List Event) (ledger : List ℕ) (earlier : List Entry) (e : Entry) (may : MayAppend lent events ledger earlier e) where
  abbrev g : List Entry
  g = log events ledger ++ earlier

  after : List Event
  after = events_after events ledger earlier

  whole : IsReady (events_after events ledger earlier) ledger
  whole = ready-after events ledger earlier (ready lent events ledger may.ground) may.follows

  within : IsWithin (moves g)
  within = subst (λ l. IsWithin (moves l)) (log-after events ledger earlier) whole.within

  enters : MayEnter g e
  enters = may-enter g e within may.next

  own-part : (account : List ℕ) → IsPartOf lent ledger events account
  own-part account = may.ground.parts (stripe AccountClass ledger account) (below-sixteen AccountClass ledger account)

  own-lent : (account : List ℕ) → IsLent lent ledger account
  own-lent account = some-there _ (lent (stripe AccountClass ledger account)) (own-part account)

  pub are-lent : (t : Transaction) → AreLent lent ledger t
  are-lent t = λ k d less. own-lent (get_or (transaction_accounts (Some t)) k d)

  pub are-parts : (t : Transaction) → AreParts lent ledger events t
  are-parts t = λ k d less. own-part (get_or (transaction_accounts (Some t)) k d)

  before-within : (account asset : List ℕ) → IsPairWithinBefore lent ledger earlier (account, asset)
  before-within account asset = subst (λ ms. IsWithinLimit (total_of ms)) (sym (log_moves lent ledger earlier account asset events (own-part account))) (within.each account asset)

  pub are-within : (t : Transaction) → body_transaction e.body ≡ Some t → ArePairsWithin lent ledger earlier t
  are-within t is =
      tried_is_within lent ledger earlier t events (are-parts t)
      (λ k d less. (let pair : List ℕ × List ℕ = get_or (flat_map posting_pairs t.postings) k d in before-within pair.0 pair.1))
      (no_some (limit_from (moves g) 0 t.postings) (subst (λ o. is_over_limit g o ≡ false) is enters.limit))

  pub smaller-ids : (t : Transaction) → body_transaction e.body ≡ Some t → HasSmallerIds g t.id
  smaller-ids t is =
      subst (HasSmallerIds g) (sym (next_id g t (subst (λ o. is_misnumbered g o ≡ false) is enters.follows.transaction)))
      (subst (λ l. HasSmallerIds l (next_transaction l)) (log-after events ledger earlier) (next_is_greater (events_after events ledger earlier) ledger whole.grown))

-- ---- the volumes

-- what is read of the shards shows the transaction's volumes
abbrev pub Shown : (ℕ → Option StripeState) → List ℕ → List Entry → Transaction → FirstVolumes → Type 0
Shown lent ledger earlier t volumes =
    (events : List Event) (e : Entry) → body_transaction e.body ≡ Some t → AreParts lent ledger events t → HasSmallerIds (log events ledger ++ earlier) t.id → volumes ≡ entry_volumes ((log events ledger ++ earlier) ++ e ∷ []) e

pub shown-volumes : (lent : ℕ → Option StripeState) (ledger : List ℕ) (earlier : List Entry) (t : Transaction) (volumes : FirstVolumes) (events : List Event) (e : Entry) → Shown lent ledger earlier t volumes → body_transaction e.body ≡ Some t
    → MayAppend lent events ledger earlier e → volumes ≡ entry_volumes ((log events ledger ++ earlier) ++ e ∷ []) e
shown-volumes lent ledger earlier t volumes events e shown is may = shown events e is (are-parts lent events ledger earlier e may t) (smaller-ids lent events ledger earlier e may t is)

pub none-shown : (g : List Entry) (e : Entry) → body_transaction e.body ≡ None → no_volumes ≡ entry_volumes g e
none-shown g e is = ap (transaction_volumes (moves g) e.date) (sym is)
