-- Postings that were tried leave the accounts of their transaction within the limit.
use Rattle.std.proofs.Common.{◌≡◌, ℕ, ◌+◌, ◌^◌, ◌<◌, Bool, true, false, cond, ◌&&◌, ◌||◌, List, [], ◌∷◌, ◌++◌, Option, Some, None, refl, sym, ap, subst, ◌∙◌, append_assoc, arith}
use Rattle.std.specs.Prelude.{if◌then◌else◌}
use Rattle.std.specs.List.{flat_map}
use Rattle.std.specs.Str.{bytes_eq}
use Rattle.std.proofs.lemmas.Bool.{leb-false}
use Rattle.std.proofs.lemmas.List.{append-nil}
use Rattle.std.proofs.lemmas.Slice.Eq.{bytes_eq-Decides}
use Rattle.lg_base.specs.Volumes.{sum_of, IsWithinLimit}
use Rattle.lg_types.specs.declared.records.Entry.{Entry}
use Rattle.lg_types.specs.declared.records.Event.{Event}
use Rattle.lg_types.specs.declared.records.Posting.{Posting}
use Rattle.lg_types.specs.declared.records.Transaction.{Transaction}
use Rattle.lg_types.specs.declared.refusals.Refusal.TheVariants.{Limit}
use Rattle.lg_types.specs.Known.{posting_accounts}
use Rattle.lg_types.specs.Lists.{Each}
use Rattle.lg_types.specs.Log.{log}
use Rattle.lg_types.specs.Moves.{Placed, moves, total}
use Rattle.lg_types.specs.Tally.{total_of}
use Rattle.lg_types.specs.Trial.{passes_limit, tried_moves, is_over, limit_from}
use Rattle.lg_types.proofs.Limits.{total-posting}
use Rattle.lg_types.proofs.MoveSums.{volumes-append}
use Rattle.lg_shard.specs.State.{StripeState}
use Rattle.lg_commit_volumes.specs.Laws.{IsPairWithinBefore, TriedIsWithin}
use Rattle.lg_commit_volumes.specs.Lent.{IsPartOf, IsPairWithin, posting_pairs}
use Rattle.lg_commit_volumes.proofs.AroundLemmas.{log_moves}
use Rattle.lg_commit_volumes.proofs.SideLemmas.{each_of_all, at_place}

-- ---- one account and one asset

not_over : (a b : Bool) → (a || b) ≡ false → (a ≡ false) × (b ≡ false)
not_over true b h = absurd (let f : true ≡ false = h in cc)
not_over false b h = (refl, h)

both_true : (a b : Bool) → (a && b) ≡ true → (a ≡ true) × (b ≡ true)
both_true true b h = (refl, h)
both_true false b h = absurd (let f : false ≡ true = h in cc)

-- an amount that is added where a test holds keeps a bound that holds there with it
added : (b : Bool) (n m bound : ℕ) → n < bound → (b ≡ true → n + m < bound) → n + cond b m 0 < bound
added true n m bound h k = k refl
added false n m bound h k = omega (arith, h)

module _ (account asset : List ℕ) where
  same_pair : (a s : List ℕ) (P : List ℕ → List ℕ → Type 0) → P a s → (bytes_eq a account && bytes_eq s asset) ≡ true → P account asset
  same_pair a s P h t =
      let eqs = both_true (bytes_eq a account) (bytes_eq s asset) t in
      subst (λ x. P x asset) ((bytes_eq-Decides a account).0 eqs.0) (subst (λ y. P a y) ((bytes_eq-Decides s asset).0 eqs.1) h)

  pair_more : (ms : List Placed) (p : Posting) → IsWithinLimit (total ms account asset) → is_over ms p ≡ false → IsWithinLimit (total (ms ++ tried_moves p) account asset)
  pair_more ms p h over =
      let limits = not_over (passes_limit ((total ms p.source p.asset).output + p.amount)) (passes_limit ((total ms p.destination p.asset).input + p.amount)) over in
      subst IsWithinLimit (sym (volumes-append ms (tried_moves p) (λ _. true) account asset ∙ ap (sum_of (total ms account asset)) (total-posting 0 _ _ p account asset))) (record {
        input = added (bytes_eq p.destination account && bytes_eq p.asset asset) (total ms account asset).input p.amount (2 ^ 127) h.input
            (same_pair p.destination p.asset (λ a s. (total ms a s).input + p.amount < 2 ^ 127) (leb-false (2 ^ 127) _ limits.1));
        output = added (bytes_eq p.source account && bytes_eq p.asset asset) (total ms account asset).output p.amount (2 ^ 127) h.output
            (same_pair p.source p.asset (λ a s. (total ms a s).output + p.amount < 2 ^ 127) (leb-false (2 ^ 127) _ limits.0));
      })

  if_none : {A : Type 0} (b : Bool) (x : A) (o : Option A) → (if b then Some x else o) ≡ None → (b ≡ false) × (o ≡ None)
  if_none {A} true x o h = absurd (let f : ◌≡◌ {A = Option A} (Some x) None = h in cc)
  if_none false x o h = (refl, h)

  pair_tried : (ms : List Placed) (k : ℕ) (ps : List Posting) → IsWithinLimit (total ms account asset) → limit_from ms k ps ≡ None → IsWithinLimit (total (ms ++ flat_map tried_moves ps) account asset)
  pair_tried ms k [] h none = subst (λ l. IsWithinLimit (total l account asset)) (sym (append-nil ms)) h
  pair_tried ms k (p ∷ ps) h none =
      let parts = if_none (is_over ms p) (Limit k) (limit_from (ms ++ tried_moves p) (k + 1) ps) none in
      subst (λ l. IsWithinLimit (total l account asset)) (append_assoc ms (tried_moves p) (flat_map tried_moves ps)) (pair_tried (ms ++ tried_moves p) (k + 1) ps (pair_more ms p h parts.0) parts.1)

-- ---- the pairs of a transaction

module _ (lent : ℕ → Option StripeState) (ledger : List ℕ) (earlier : List Entry) (t : Transaction) (events : List Event) (none : limit_from (moves (log events ledger ++ earlier)) 0 t.postings ≡ None) where
  pair_within : (account asset : List ℕ) → IsPartOf lent ledger events account → IsPairWithinBefore lent ledger earlier (account, asset) → IsPairWithin lent ledger earlier t (account, asset)
  pair_within account asset part before =
      let same = log_moves lent ledger earlier account asset events part in
      subst (λ ms. IsWithinLimit (sum_of (total_of ms) (total (flat_map tried_moves t.postings) account asset))) (sym same)
      (subst IsWithinLimit (volumes-append (moves (log events ledger ++ earlier)) (flat_map tried_moves t.postings) (λ _. true) account asset)
      (pair_tried account asset (moves (log events ledger ++ earlier)) 0 t.postings (subst (λ ms. IsWithinLimit (total_of ms)) same before) none))

  pairs_within : (ps : List Posting) → Each (IsPartOf lent ledger events) (flat_map posting_accounts ps) → Each (IsPairWithinBefore lent ledger earlier) (flat_map posting_pairs ps) → Each (IsPairWithin lent ledger earlier t) (flat_map posting_pairs ps)
  pairs_within [] parts before = tt
  pairs_within (p ∷ ps) parts before = (pair_within p.source p.asset parts.0 before.0, (pair_within p.destination p.asset parts.1.0 before.1.0, pairs_within ps parts.1.1 before.1.1))

pub tried_is_within : TriedIsWithin
tried_is_within lent ledger earlier t events parts before none = λ k d less.
    at_place (IsPairWithin lent ledger earlier t) (flat_map posting_pairs t.postings) k d
    (pairs_within lent ledger earlier t events none t.postings (each_of_all (IsPartOf lent ledger events) (flat_map posting_accounts t.postings) parts)
    (each_of_all (IsPairWithinBefore lent ledger earlier) (flat_map posting_pairs t.postings) before)) less
