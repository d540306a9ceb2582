-- What the shards and the earlier entries know of a pair is what the log knows, and gives the four volumes of a transaction.
use Rattle.std.proofs.Common.{◌≡◌, ℕ, ℤ, Bool, List, [], ◌∷◌, ◌++◌, map, Option, Some, None, refl, sym, ap, ap₂, subst, ◌∙◌}
use Rattle.std.specs.List.{flat_map}
use Rattle.lg_base.specs.declared.amounts.Volumes.{Volumes}
use Rattle.lg_base.specs.Volumes.{sum_of, IsWithinLimit}
use Rattle.lg_types.specs.declared.classes.Class.TheVariants.{Account as AccountClass}
use Rattle.lg_types.specs.declared.moves.Move.{Move}
use Rattle.lg_types.specs.declared.records.Entry.{Entry}
use Rattle.lg_types.specs.declared.records.Event.{Event}
use Rattle.lg_types.specs.declared.records.Transaction.{Transaction}
use Rattle.lg_types.specs.Known.{transactions, posting_accounts}
use Rattle.lg_types.specs.Lists.{Each}
use Rattle.lg_types.specs.Log.{log}
use Rattle.lg_types.specs.Moves.{Placed, body_transaction, transaction_moves, moves, pair_moves, volumes, total}
use Rattle.lg_types.specs.Stripes.{stripe}
use Rattle.lg_types.specs.Tally.{total_of, is_of_transaction_to, is_of_transaction_before, is_ranked_to, is_ranked_before}
use Rattle.lg_types.specs.Trial.{tried_moves}
use Rattle.lg_types.proofs.Eachs.{each-map}
use Rattle.lg_types.proofs.MoveSums.{pair_moves-append, volumes-append, moves-append, moves-snoc}
use Rattle.lg_types.proofs.StripeKnows.{knows-moves}
use Rattle.lg_shard.specs.Shown.{account_moves}
use Rattle.lg_shard.specs.State.{StripeState}
use Rattle.lg_views.specs.Pairs.{pair_of, pair_map}
use Rattle.lg_book.specs.declared.volumes.FirstVolumes.{FirstVolumes}
use Rattle.lg_book.specs.FirstVolumes.{no_volumes, transaction_volumes, entry_volumes}
use Rattle.lg_commit_volumes.specs.declared.before.PairBefore.{PairBefore}
use Rattle.lg_commit_volumes.specs.declared.pairs.PairVolumes.{PairVolumes}
use Rattle.lg_commit_volumes.specs.Before.{before_of, with_moves, AreWithinLimit, around}
use Rattle.lg_commit_volumes.specs.Lent.{IsPart, IsPartOf, AreParts, shard_moves, moves_before, HasSmallerId, HasSmallerIds}
use Rattle.lg_commit_volumes.specs.Maps.{put_all}
use Rattle.lg_commit_volumes.proofs.MapLemmas.{four_maps, pair_map-same}
use Rattle.lg_commit_volumes.proofs.SideLemmas.{each_of_all, pair_accounts}
use Rattle.lg_commit_volumes.proofs.SumLemmas.{nothing_last, before-with, both_within}
use Rattle.lg_commit_volumes.proofs.TestLemmas.{IsSmaller, smaller-each, before-all, to-all, ranked_to-before, own-before, own-to, own-ranked_before, own-ranked_to}

-- ---- the moves of a pair

shard_knows : (o : Option StripeState) (ledger account asset : List ℕ) (events : List Event) → IsPart (stripe AccountClass ledger account) events o → shard_moves o ledger account asset ≡ pair_moves (moves (log events ledger)) account asset
shard_knows None ledger account asset events h = absurd h
shard_knows (Some state) ledger account asset events h =
    ap (λ shares. shard_moves (Some (record { stripe = state.stripe; shares = shares; prepared = state.prepared })) ledger account asset) h
    ∙ knows-moves (stripe AccountClass ledger account) ledger account asset events refl

pub log_moves : (lent : ℕ → Option StripeState) (ledger : List ℕ) (earlier : List Entry) (account asset : List ℕ) (events : List Event) → IsPartOf lent ledger events account
    → moves_before lent ledger earlier account asset ≡ pair_moves (moves (log events ledger ++ earlier)) account asset
log_moves lent ledger earlier account asset events h =
    ap (λ l. l ++ pair_moves (moves earlier) account asset) (shard_knows (lent (stripe AccountClass ledger account)) ledger account asset events h)
    ∙ sym (ap (λ ms. pair_moves ms account asset) (moves-append (log events ledger) earlier) ∙ pair_moves-append (moves (log events ledger)) (moves earlier) account asset)

-- ---- the four volumes over a log and the transaction's own moves

module _ (t : Transaction) (inserted : ℤ) (ms : List Placed) (h : Each (λ m. IsSmaller t m.what) ms) (account asset : List ℕ) where
  abbrev pub own_moves : List Placed
  own_moves = transaction_moves inserted (Some t)

  abbrev pub own_total : Volumes
  own_total = total (flat_map tried_moves t.postings) account asset

  pub pre : total ms account asset ≡ volumes (ms ++ own_moves) (is_of_transaction_before t.id) account asset
  pre = sym (volumes-append ms own_moves (is_of_transaction_before t.id) account asset
      ∙ ap₂ sum_of (before-all t account asset ms h) (own-before t account asset inserted)
      ∙ nothing_last (total ms account asset))

  pub post : sum_of (total ms account asset) own_total ≡ volumes (ms ++ own_moves) (is_of_transaction_to t.id) account asset
  post = sym (volumes-append ms own_moves (is_of_transaction_to t.id) account asset
      ∙ ap₂ sum_of (to-all t account asset ms h) (own-to t account asset inserted))

  pub pre_effective : volumes ms (is_ranked_before t.timestamp t.id) account asset ≡ volumes (ms ++ own_moves) (is_ranked_before t.timestamp t.id) account asset
  pre_effective = sym (volumes-append ms own_moves (is_ranked_before t.timestamp t.id) account asset
      ∙ ap (sum_of (volumes ms (is_ranked_before t.timestamp t.id) account asset)) (own-ranked_before t account asset inserted)
      ∙ nothing_last (volumes ms (is_ranked_before t.timestamp t.id) account asset))

  pub post_effective : sum_of (volumes ms (is_ranked_before t.timestamp t.id) account asset) own_total ≡ volumes (ms ++ own_moves) (is_ranked_to t.timestamp t.id) account asset
  post_effective = sym (volumes-append ms own_moves (is_ranked_to t.timestamp t.id) account asset
      ∙ ap₂ sum_of (ranked_to-before t account asset ms h) (own-ranked_to t account asset inserted))

-- ---- the four maps

pub same_four : (a b : FirstVolumes) → a.pre_commit_volumes ≡ b.pre_commit_volumes → a.post_commit_volumes ≡ b.post_commit_volumes
    → a.pre_commit_effective_volumes ≡ b.pre_commit_effective_volumes → a.post_commit_effective_volumes ≡ b.post_commit_effective_volumes → a ≡ b
same_four a b p q r s = λ i. record { pre_commit_volumes = p i; post_commit_volumes = q i; pre_commit_effective_volumes = r i; post_commit_effective_volumes = s i }

module _ (lent : ℕ → Option StripeState) (ledger : List ℕ) (earlier : List Entry) (t : Transaction) where
  -- what is read of each pair
  abbrev pub read : List ℕ → List ℕ → PairVolumes
  read account asset = around t (before_of t (moves_before lent ledger earlier account asset)) account asset

  module _ (events : List Event) (e : Entry) (made : body_transaction e.body ≡ Some t) (parts : AreParts lent ledger events t) (ids : HasSmallerIds (log events ledger ++ earlier) t.id) where
    abbrev pub known : List Entry
    known = log events ledger ++ earlier

    smaller : Each (λ m. IsSmaller t m.what) (moves known)
    smaller = smaller-each t known (each_of_all (HasSmallerId t.id) (transactions known) ids)

    all_moves : moves (known ++ e ∷ []) ≡ moves known ++ transaction_moves e.date (Some t)
    all_moves = moves-snoc known e ∙ ap (λ o. moves known ++ transaction_moves e.date o) made

    abbrev pub pairs : List (List ℕ × List ℕ)
    pairs = map pair_of (transaction_moves e.date (Some t))

    -- each pair is of an account whose shard is a part
    each_pair : Each (λ (pair : List ℕ × List ℕ). IsPartOf lent ledger events pair.0) pairs
    each_pair = pair_accounts (IsPartOf lent ledger events) t.id e.date t.timestamp t.postings (each_of_all (IsPartOf lent ledger events) (flat_map posting_accounts t.postings) parts)

    abbrev pub over : List ℕ → List ℕ → PairVolumes
    over account asset = around t (before_of t (pair_moves (moves known) account asset)) account asset

    same_read : (account asset : List ℕ) → IsPartOf lent ledger events account → read account asset ≡ over account asset
    same_read account asset part = ap (λ l. around t (before_of t l) account asset) (log_moves lent ledger earlier account asset events part)

    module _ (field : PairVolumes → Volumes) (test : Move → Bool) (is : (account asset : List ℕ) → field (over account asset) ≡ volumes (moves known ++ transaction_moves e.date (Some t)) test account asset) where
      one_map : pair_map (λ a s. field (read a s)) pairs ≡ pair_map (volumes (moves (known ++ e ∷ [])) test) pairs
      one_map =
          pair_map-same (λ a s. field (read a s)) (volumes (moves known ++ transaction_moves e.date (Some t)) test) pairs
          (each-map (λ pair part. ap field (same_read pair.0 pair.1 part) ∙ is pair.0 pair.1) pairs each_pair)
          ∙ ap (λ ms. pair_map (volumes ms test) pairs) (sym all_moves)

    pub four : put_all read no_volumes t.postings ≡ transaction_volumes (moves (known ++ e ∷ [])) e.date (Some t)
    four =
        four_maps read t.id e.date t.timestamp no_volumes t.postings
        ∙ same_four _ _
        (one_map (λ v. v.pre_commit) (is_of_transaction_before t.id) (λ a s. pre t e.date (moves known) smaller a s))
        (one_map (λ v. v.post_commit) (is_of_transaction_to t.id) (λ a s. post t e.date (moves known) smaller a s))
        (one_map (λ v. v.pre_commit_effective) (is_ranked_before t.timestamp t.id) (λ a s. pre_effective t e.date (moves known) smaller a s))
        (one_map (λ v. v.post_commit_effective) (is_ranked_to t.timestamp t.id) (λ a s. post_effective t e.date (moves known) smaller a s))

    pub first : put_all read no_volumes t.postings ≡ entry_volumes (known ++ e ∷ []) e
    first = four ∙ ap (transaction_volumes (moves (known ++ e ∷ [])) e.date) (sym made)

-- ---- reading a shard

shard-within : (o : Option StripeState) (t : Transaction) (ledger account asset : List ℕ) (earlier : List Entry) (held : PairBefore) → held ≡ before_of t (shard_moves o ledger account asset)
    → IsWithinLimit (total_of (shard_moves o ledger account asset ++ pair_moves (moves earlier) account asset)) → AreWithinLimit (with_moves t held (moves earlier) account asset)
shard-within o t ledger account asset earlier held is h =
    subst AreWithinLimit (sym (ap (λ k. with_moves t k (moves earlier) account asset) is ∙ before-with t account asset (shard_moves o ledger account asset) (moves earlier)))
    (both_within t account asset (shard_moves o ledger account asset ++ pair_moves (moves earlier) account asset) h)

-- what the shard knows with what the entries add
pub known_within : (lent : ℕ → Option StripeState) (s : ℕ) (state : StripeState) (t : Transaction) (ledger account asset : List ℕ) (earlier : List Entry) (held : PairBefore)
    → s ≡ stripe AccountClass ledger account → Some state ≡ lent s → held ≡ before_of t (account_moves state.shares ledger account asset)
    → IsWithinLimit (total_of (moves_before lent ledger earlier account asset)) → AreWithinLimit (with_moves t held (moves earlier) account asset)
known_within lent s state t ledger account asset earlier held at is read h =
    shard-within (Some state) t ledger account asset earlier held read
    (subst (λ o. IsWithinLimit (total_of (shard_moves o ledger account asset ++ pair_moves (moves earlier) account asset))) (sym (is ∙ ap lent at)) h)

pub known_before : (lent : ℕ → Option StripeState) (s : ℕ) (state : StripeState) (t : Transaction) (ledger account asset : List ℕ) (earlier : List Entry) (held result : PairBefore)
    → s ≡ stripe AccountClass ledger account → Some state ≡ lent s → held ≡ before_of t (account_moves state.shares ledger account asset) → result ≡ with_moves t held (moves earlier) account asset
    → result ≡ before_of t (moves_before lent ledger earlier account asset)
known_before lent s state t ledger account asset earlier held result at is read more =
    more
    ∙ ap (λ k. with_moves t k (moves earlier) account asset) read
    ∙ before-with t account asset (account_moves state.shares ledger account asset) (moves earlier)
    ∙ ap (λ o. before_of t (shard_moves o ledger account asset ++ pair_moves (moves earlier) account asset)) (is ∙ ap lent at)
