-- Events with the entries that a list appends.
use Rattle.std.proofs.Common.{◌≡◌, ℕ, ◌<◌, ◌≤◌, true, ◌||◌, List, [], ◌∷◌, ◌++◌, map, length, take, Option, Some, None, refl, sym, ap, subst, ◌∙◌, append_assoc, inl, inr, arith}
use Rattle.std.specs.Prelude.{IsSomeAnd, IfSome, if◌then◌else◌}
use Rattle.std.proofs.Math.Seq.{take-append_seam}
use Rattle.std.proofs.lemmas.List.{append-nil, take-append-le}
use Rattle.std.proofs.lemmas.List.Folds.{list_any-append}
use Rattle.std.proofs.lemmas.Option.{slice_get_within}
use Rattle.lg_base.specs.Volumes.{IsWithinLimit}
use Rattle.lg_types.specs.declared.classes.Class.{Class}
use Rattle.lg_types.specs.declared.classes.Class.TheVariants.{Account as AccountClass}
use Rattle.lg_types.specs.declared.records.Entry.{Entry}
use Rattle.lg_types.specs.declared.records.Event.{Event}
use Rattle.lg_types.specs.declared.records.Event.TheVariants.{Logged}
use Rattle.lg_types.specs.declared.records.Posting.{Posting}
use Rattle.lg_types.specs.declared.records.Transaction.{Transaction}
use Rattle.lg_types.specs.Lists.{Each}
use Rattle.lg_types.specs.Log.{log, is_there, is_made_as}
use Rattle.lg_types.specs.MoveLaws.{IsWithin}
use Rattle.lg_types.specs.Moves.{Placed, moves, body_transaction, total}
use Rattle.lg_types.specs.Parts.{part_of}
use Rattle.lg_types.specs.Stripes.{stripe}
use Rattle.lg_types.specs.Tally.{total_of}
use Rattle.lg_views.specs.Import.{fault, FollowsFrom}
use Rattle.lg_views.proofs.Outcomes.{log-append, log-logged}
use Rattle.lg_views.proofs.TestAnswers.{same_bytes}
use Rattle.lg_book.specs.Following.{MayFollow, IsGrown}
use Rattle.lg_book.specs.Index.{all_volumes}
use Rattle.lg_shard.specs.Shown.{account_moves}
use Rattle.lg_shard.specs.State.{StripeState}
use Rattle.lg_plan.specs.Events.{AllPrepare}
use Rattle.lg_plan.specs.Laws.{IsPostingWithin, AreAccountsWithin, MayEnter}
use Rattle.lg_plan.proofs.Entering.{entry-follows, faultless-enters, part-totals, totals-stay-within}
use Rattle.lg_decide.specs.Deciding.{IsLimited}
use Rattle.lg_bulk.specs.Gathering.{Ground}
use Rattle.lg_bulk.proofs.ListLemmas.{snoc_cases}

-- ---- one event more

grown-more : (all : List Event) (event : Event) → IsGrown all → MayFollow all event → IsGrown (all ++ event ∷ [])
grown-more all event h f = record {
  each = λ k other is. elim (snoc_cases all event other k is) [
    | inl old ↦ (let within : k < length all = slice_get_within all k other old in let le : k ≤ length all = omega (arith, within) in subst (λ es. MayFollow es other) (sym (take-append-le k all (event ∷ []) le)) (h.each k other old))
    | inr new ↦ subst (λ es. MayFollow es other) (sym (ap (λ n. take n (all ++ event ∷ [])) new.0 ∙ take-append_seam all (event ∷ []))) (subst (MayFollow all) new.1 f)
  ];
}

-- ---- the events with entries of a ledger

-- the events, and then the entries of the ledger
abbrev pub events_after : List Event → List ℕ → List Entry → List Event
events_after events ledger es = events ++ map (Logged ledger) es

pub log-after : (events : List Event) (ledger : List ℕ) (es : List Entry) → log (events_after events ledger es) ledger ≡ log events ledger ++ es
log-after events ledger es =
    log-append events (map (Logged ledger) es) ledger
    ∙ ap (λ l. log events ledger ++ l) (log-logged ledger ledger es ∙ ap (λ b. if b then es else []) (same_bytes ledger))

there-after : (events more : List Event) (ledger : List ℕ) → is_there events ledger ≡ true → is_there (events ++ more) ledger ≡ true
there-after events more ledger there = list_any-append (is_made_as ledger) events more ∙ ap (λ b. b || is_there more ledger) there

-- events after which entries of the ledger may be added: the ledger is there, and all totals are within the limit
pub record IsReady (events : List Event) (ledger : List ℕ) : Type 0 where
  pub there : is_there events ledger ≡ true
  pub grown : IsGrown events
  pub within : IsWithin (moves (log events ledger))

accounts-within : (ms : List Placed) → IsWithin ms → (o : Option Transaction) → AreAccountsWithin ms o
accounts-within ms h None = tt
accounts-within ms h (Some t) = by_postings t.postings
  where
    by_postings : (ps : List Posting) → Each (IsPostingWithin ms) ps
    by_postings [] = tt
    by_postings (p ∷ ps) = (record { source = h.each p.source p.asset; destination = h.each p.destination p.asset }, by_postings ps)

pub may-enter : (g : List Entry) (e : Entry) → IsWithin (moves g) → fault g e ≡ None → MayEnter g e
may-enter g e within none = faultless-enters g e none (accounts-within (moves g) within (body_transaction e.body))

ready-more : (events : List Event) (ledger : List ℕ) (e : Entry) → IsReady events ledger → fault (log events ledger) e ≡ None → IsReady (events ++ Logged ledger e ∷ []) ledger
ready-more events ledger e ready none =
    let may : MayEnter (log events ledger) e = may-enter (log events ledger) e ready.within none in
    record {
      there = there-after events (Logged ledger e ∷ []) ledger ready.there;
      grown = grown-more events (Logged ledger e) ready.grown (ready.there, may.follows);
      within = subst (λ g. IsWithin (moves g)) (sym (log-after events ledger (e ∷ [])))
          (record { each = λ account asset. totals-stay-within (log events ledger) e account asset (ready.within.each account asset) may.limit });
    }

pub ready-after : (events : List Event) (ledger : List ℕ) (es : List Entry) → IsReady events ledger → FollowsFrom (log events ledger) es → IsReady (events_after events ledger es) ledger
ready-after events ledger [] ready follows = subst (λ all. IsReady all ledger) (sym (append-nil events)) ready
ready-after events ledger (e ∷ es) ready follows =
    subst (λ all. IsReady all ledger) (append_assoc events (Logged ledger e ∷ []) (map (Logged ledger) es))
    (ready-after (events ++ Logged ledger e ∷ []) ledger es (ready-more events ledger e ready follows.0)
    (subst (λ g. FollowsFrom g es) (sym (log-after events ledger (e ∷ []))) follows.1))

-- the entries may be prepared one after the other, each with its volumes
pub entries-prepare : (events : List Event) (ledger : List ℕ) (es : List Entry) → IsReady events ledger → FollowsFrom (log events ledger) es → AllPrepare events (map (Logged ledger) es) (all_volumes (log events ledger) es)
entries-prepare events ledger [] ready follows = refl
entries-prepare events ledger (e ∷ es) ready follows =
    let may : MayEnter (log events ledger) e = may-enter (log events ledger) e ready.within follows.0 in
    let same : log (events ++ Logged ledger e ∷ []) ledger ≡ log events ledger ++ e ∷ [] = log-after events ledger (e ∷ []) in (
      record { shards = λ k. entry-follows events ledger e k ready.grown may; book = (ready.there, may.follows); first = refl },
      subst (λ g. AllPrepare (events ++ Logged ledger e ∷ []) (map (Logged ledger) es) (all_volumes g es)) same
          (entries-prepare (events ++ Logged ledger e ∷ []) ledger es (ready-more events ledger e ready follows.0) (subst (λ g. FollowsFrom g es) (sym same) follows.1)),
    )

-- ---- what lent shards know

pub below-sixteen : (class : Class) (ledger name : List ℕ) → stripe class ledger name < 16
unfolding stripe
below-sixteen class ledger name = omega arith

known-within : (events : List Event) (ledger account asset : List ℕ) (o : Option StripeState) → IsSomeAnd o (λ state. state.shares ≡ part_of (stripe AccountClass ledger account) events) → IfSome o IsLimited
    → IsWithinLimit (total (moves (log events ledger)) account asset)
known-within events ledger account asset None part limits = absurd part
known-within events ledger account asset (Some state) part limits =
    subst IsWithinLimit (ap (λ shares. total_of (account_moves shares ledger account asset)) part ∙ part-totals events ledger account asset) (limits ledger account asset)

pub ready : (lent : ℕ → Option StripeState) (events : List Event) (ledger : List ℕ) → Ground lent events ledger → IsReady events ledger
ready lent events ledger ground = record {
  there = ground.there;
  grown = ground.grown;
  within = record {
    each = λ account asset.
        let k : ℕ = stripe AccountClass ledger account in
        let below : k < 16 = below-sixteen AccountClass ledger account in
        known-within events ledger account asset (lent k) (ground.parts k below) (ground.limits k below);
  };
}
