-- What postings move of each account and asset, gathered posting by posting.
use Rattle.std.proofs.Common.{◌≡◌, ℕ, ◌+◌, ◌<◌, ◌≤◌, Bool, true, false, cond, ◌&&◌, List, length, drop, get_or, Option, Some, None, Result, Ok, Err, OnOk, refl, sym, ap, ap₂, subst, ◌∙◌, arith}
use Rattle.std.specs.Prelude.{All, unwrap_or}
use Rattle.std.specs.List.{flat_map}
use Rattle.std.specs.Str.{bytes_eq}
use Rattle.lg_base.specs.declared.amounts.Volumes.{Volumes}
use Rattle.lg_base.specs.Volumes.{sum_of, IsWithinLimit}
use Rattle.lg_containers.specs.NameTable.{get, empty, get-empty}
use Rattle.lg_types.specs.declared.moves.Move.{Move}
use Rattle.lg_types.specs.declared.records.Posting.{Posting}
use Rattle.lg_types.specs.MoveLaws.{posting_volumes}
use Rattle.lg_types.specs.Moves.{total}
use Rattle.lg_types.specs.Tally.{total_of}
use Rattle.lg_types.specs.Trial.{tried_moves}
use Rattle.lg_types.proofs.MoveSums.{same_volumes}
use Rattle.lg_shard.proofs.AccountLemmas.{bytes_itself, bytes_same}
use Rattle.lg_views.specs.Pairs.{AccountMap, put_pair}
use Rattle.lg_commit_volumes.specs.Lent.{posting_pairs}
use Rattle.lg_commit_volumes.specs.Maps.{pair_in, nothing, total_in, AreTotals, IsTotalWithin}
use Rattle.lg_commit_volumes.proofs.HeldLemmas.{get_nothing, pair_in-put}
use Rattle.lg_commit_volumes.proofs.SideLemmas.{pair_sides}
use Rattle.lg_commit_volumes.proofs.SumLemmas.{nothing_first, nothing_last, second_within, tried_total, sum_next, next_within, sum_done}

chosen : (b : Bool) (v : Volumes) (o : Option Volumes) → unwrap_or (cond b (Some v) o) nothing ≡ cond b v (unwrap_or o nothing)
chosen true v o = refl
chosen false v o = refl

-- nothing in the map without accounts
pub total_in-empty : (account asset : List ℕ) → total_in empty account asset ≡ nothing
total_in-empty account asset = ap (λ o. unwrap_or o nothing) (get_nothing account asset)

-- where the account or the asset isn't there
pub no_asset : (m : AccountMap) (name account asset : List ℕ) → None ≡ get m name → name ≡ account → nothing ≡ total_in m account asset
no_asset m name account asset none same = sym (ap (λ o. unwrap_or (get (unwrap_or o empty) asset) nothing) (sym (ap (get m) same) ∙ sym none) ∙ ap (λ o. unwrap_or o nothing) (get-empty Volumes asset))

added : (W : List ℕ → List ℕ → Volumes) (account asset : List ℕ) (more : Volumes) (a s : List ℕ) (b c : Bool) → bytes_eq account a ≡ b → bytes_eq asset s ≡ c
    → cond (b && c) (sum_of (W account asset) more) (W a s) ≡ sum_of (W a s) (cond (b && c) more nothing)
added W account asset more a s true true e k = ap (λ v. sum_of v more) (ap₂ W (bytes_same account a e) (bytes_same asset s k))
added W account asset more a s true false e k = sym (nothing_last (W a s))
added W account asset more a s false c e k = sym (nothing_last (W a s))

-- what is added to a pair is added there and nowhere else
pub total_in-add : (m new : AccountMap) (account asset : List ℕ) (more : Volumes) → new ≡ put_pair m account asset (sum_of (total_in m account asset) more)
    → (a s : List ℕ) → total_in new a s ≡ sum_of (total_in m a s) (cond (bytes_eq account a && bytes_eq asset s) more nothing)
total_in-add m new account asset more is a s =
    ap (λ n. total_in n a s) is
    ∙ ap (λ o. unwrap_or o nothing) (pair_in-put m account asset (sum_of (total_in m account asset) more) a s)
    ∙ chosen (bytes_eq account a && bytes_eq asset s) (sum_of (total_in m account asset) more) (pair_in m a s)
    ∙ added (total_in m) account asset more a s (bytes_eq account a) (bytes_eq asset s) refl refl

both_sides : (v : Volumes) (n : ℕ) (s d : Bool) → sum_of (sum_of v (cond s (record { input = 0; output = n }) nothing)) (cond d (record { input = n; output = 0 }) nothing) ≡ sum_of v (record { input = cond d n 0; output = cond s n 0 })
both_sides v n true true = same_volumes _ _ _ _ (omega arith) (omega arith)
both_sides v n true false = same_volumes _ _ _ _ (omega arith) (omega arith)
both_sides v n false true = same_volumes _ _ _ _ (omega arith) (omega arith)
both_sides v n false false = same_volumes _ _ _ _ (omega arith) (omega arith)

abbrev pub out_of : Posting → Volumes
out_of p = record { input = 0; output = p.amount }

abbrev pub in_of : Posting → Volumes
in_of p = record { input = p.amount; output = 0 }

module _ (p : Posting) (m : AccountMap) where
  -- output at the source, then input at the destination
  pub posting_added : (mid new : AccountMap) → mid ≡ put_pair m p.source p.asset (sum_of (total_in m p.source p.asset) (out_of p)) → new ≡ put_pair mid p.destination p.asset (sum_of (total_in mid p.destination p.asset) (in_of p))
      → (account asset : List ℕ) → total_in new account asset ≡ sum_of (total_in m account asset) (posting_volumes account asset p)
  posting_added mid new first second account asset =
      total_in-add mid new p.destination p.asset (in_of p) second account asset
      ∙ ap (λ v. sum_of v (cond (bytes_eq p.destination account && bytes_eq p.asset asset) (in_of p) nothing)) (total_in-add m mid p.source p.asset (out_of p) first account asset)
      ∙ both_sides (total_in m account asset) p.amount (bytes_eq p.source account && bytes_eq p.asset asset) (bytes_eq p.destination account && bytes_eq p.asset asset)

  itself : (account asset : List ℕ) → (bytes_eq account account && bytes_eq asset asset) ≡ true
  itself account asset = ap₂ (λ b c. b && c) (bytes_itself account) (bytes_itself asset)

  source_limit : (v : Volumes) (d s : Bool) → s ≡ true → IsWithinLimit (sum_of v (record { input = cond d p.amount 0; output = cond s p.amount 0 })) → IsWithinLimit (sum_of v (out_of p))
  source_limit v true true e h = let i = h.input in let o = h.output in record { input = omega (arith, i); output = omega (arith, o) }
  source_limit v false true e h = let i = h.input in let o = h.output in record { input = omega (arith, i); output = omega (arith, o) }
  source_limit v d false e h = absurd (let f : false ≡ true = e in cc)

  pub source_within : IsWithinLimit (sum_of (total_in m p.source p.asset) (posting_volumes p.source p.asset p)) → IsWithinLimit (sum_of (total_in m p.source p.asset) (out_of p))
  source_within h = source_limit (total_in m p.source p.asset) _ _ (itself p.source p.asset) h

  destination_limit : (v w : Volumes) (d s : Bool) → d ≡ true → w ≡ sum_of v (cond s (out_of p) nothing) → IsWithinLimit (sum_of v (record { input = cond d p.amount 0; output = cond s p.amount 0 })) → IsWithinLimit (sum_of w (in_of p))
  destination_limit v w true s e is h = subst (λ u. IsWithinLimit (sum_of u (in_of p))) (sym is) (subst IsWithinLimit (sym (both_sides v p.amount s true)) h)
  destination_limit v w false s e is h = absurd (let f : false ≡ true = e in cc)

  pub destination_within : (mid : AccountMap) → mid ≡ put_pair m p.source p.asset (sum_of (total_in m p.source p.asset) (out_of p))
      → IsWithinLimit (sum_of (total_in m p.destination p.asset) (posting_volumes p.destination p.asset p)) → IsWithinLimit (sum_of (total_in mid p.destination p.asset) (in_of p))
  destination_within mid first h =
      destination_limit (total_in m p.destination p.asset) (total_in mid p.destination p.asset) _ _ (itself p.destination p.asset)
      (total_in-add m mid p.source p.asset (out_of p) first p.destination p.asset) h

  -- the same where the amount was read
  module _ (n : ℕ) (read : n ≡ p.amount) (mid : AccountMap) (first : mid ≡ put_pair m p.source p.asset (sum_of (total_in m p.source p.asset) (record { input = 0; output = n }))) where
    first_read : mid ≡ put_pair m p.source p.asset (sum_of (total_in m p.source p.asset) (out_of p))
    first_read = first ∙ ap (λ k. put_pair m p.source p.asset (sum_of (total_in m p.source p.asset) (record { input = 0; output = k }))) read

    pub read_within : IsWithinLimit (sum_of (total_in m p.destination p.asset) (posting_volumes p.destination p.asset p)) → IsWithinLimit (sum_of (total_in mid p.destination p.asset) (record { input = n; output = 0 }))
    read_within h = subst (λ k. IsWithinLimit (sum_of (total_in mid p.destination p.asset) (record { input = k; output = 0 }))) (sym read) (destination_within mid first_read h)

    pub read_added : {E : Type 0} (r : Result (Unit {0}) E) (new : AccountMap) → OnOk r (new ≡ put_pair mid p.destination p.asset (sum_of (total_in mid p.destination p.asset) (record { input = n; output = 0 })))
        → OnOk r ((account asset : List ℕ) → total_in new account asset ≡ sum_of (total_in m account asset) (posting_volumes account asset p))
    read_added (Ok done) new second = λ account asset.
        posting_added mid new first_read (second ∙ ap (λ k. put_pair mid p.destination p.asset (sum_of (total_in mid p.destination p.asset) (record { input = k; output = 0 }))) read) account asset
    read_added (Err e) new second = tt

-- ---- posting by posting

abbrev pub IsGathered : AccountMap → List Posting → List Posting → Type 0
IsGathered m left ps = (account asset : List ℕ) → sum_of (total_in m account asset) (tried_total account asset left) ≡ tried_total account asset ps

module _ (ps : List Posting) where
  pub gathered_first : (m : AccountMap) → m ≡ empty → IsGathered m ps ps
  gathered_first m is account asset = ap (λ v. sum_of v (tried_total account asset ps)) (ap (λ n. total_in n account asset) is ∙ total_in-empty account asset) ∙ nothing_first (tried_total account asset ps)

  pub gathered_next : (i : ℕ) (p : Posting) (m new : AccountMap) → i < length ps → p ≡ get_or ps i p → ((account asset : List ℕ) → total_in new account asset ≡ sum_of (total_in m account asset) (posting_volumes account asset p))
      → IsGathered m (drop i ps) ps → IsGathered new (drop (i + 1) ps) ps
  gathered_next i p m new less is more before account asset =
      sum_next account asset ps i p (total_in m account asset) (posting_volumes account asset p) (total_in new account asset) (tried_total account asset ps) less is refl (more account asset) (before account asset)

  pub gathered_all : (i : ℕ) (m : AccountMap) → length ps ≤ i → IsGathered m (drop i ps) ps → AreTotals m ps
  gathered_all i m past before account asset = sum_done account asset ps i (total_in m account asset) (tried_total account asset ps) past (before account asset)

  pub side_within : (i : ℕ) (p : Posting) (m : AccountMap) (account : List ℕ) → i < length ps → p ≡ get_or ps i p → IsGathered m (drop i ps) ps → IsTotalWithin ps (account, p.asset)
      → IsWithinLimit (sum_of (total_in m account p.asset) (posting_volumes account p.asset p))
  side_within i p m account less is before limit =
      next_within account p.asset ps i p (total_in m account p.asset) (posting_volumes account p.asset p) (tried_total account p.asset ps) less is refl (before account p.asset) limit

  pub sides_within : (i : ℕ) (p : Posting) → All (IsTotalWithin ps) (flat_map posting_pairs ps) → i < length ps → p ≡ get_or ps i p → IsTotalWithin ps (p.source, p.asset) × IsTotalWithin ps (p.destination, p.asset)
  sides_within i p h less is = pair_sides (IsTotalWithin ps) ps i p h less is

-- what the transaction moves is within the limit, where it is so with the moves before it
pub own_within : (before : List ℕ → List ℕ → List Move) (ps qs : List Posting) → qs ≡ ps
    → All (λ pair. IsWithinLimit (sum_of (total_of (before pair.0 pair.1)) (total (flat_map tried_moves ps) pair.0 pair.1))) (flat_map posting_pairs ps) → All (IsTotalWithin qs) (flat_map posting_pairs qs)
own_within before ps qs same h = subst (λ (xs : List Posting). All (IsTotalWithin xs) (flat_map posting_pairs xs)) (sym same) (λ k d less. second_within _ _ (h k d less))
