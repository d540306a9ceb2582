-- The shards of all stripes, as one after the other changes.
use Rattle.std.proofs.Common.{◌≡◌, ◌≢◌, ℕ, zero, suc, ◌+◌, ◌<◌, ◌≤◌, Bool, true, false, cond, List, [], ◌∷◌, ◌++◌, length, set, get_or, slice_get, Option, Some, None, refl, sym, ap, subst, ◌∙◌, arith}
use Rattle.std.specs.Prelude.{nat_lt}
use Rattle.std.proofs.lemmas.Bool.{lt-ltb, le-ltb, ltb-true, ltb-false}
use Rattle.std.proofs.lemmas.List.{length-set, set-get_or}
use Rattle.std.proofs.lemmas.Option.{slice_get_within, slice_get-get_or}
use mathlib.Core.Logic.{dite}
use native.Mathlib.Decide.{ℕ_discrete}
use Rattle.lg_types.specs.declared.records.Event.{Event}
use Rattle.lg_types.specs.Parts.{part_of, part_from}
use Rattle.lg_types.proofs.Shares.{part-quiet}
use Rattle.lg_shard.specs.State.{StripeState}
use Rattle.lg_plan.specs.Events.{any_touches, shard_of, AreShards}
use Rattle.lg_plan.specs.Stages.{IsPart, AreParts, shards_at, turned, AreTurned, IsForgotten, AreForgotten}
use Rattle.lg_plan.proofs.EventLemmas.{own-none, untouched-all, more-part}

-- ---- a fact of each place

some-some : {A : Type 0} (a b : A) → ◌≡◌ {A = Option A} (Some a) (Some b) → a ≡ b
some-some a b e = cc

module _ {A : Type 0} where
  abbrev pub AllAt : List A → (ℕ → A → Type 0) → Type 0
  AllAt xs F = (k : ℕ) (a : A) → slice_get xs k ≡ Some a → F k a

  at-other : (xs : List A) (i k : ℕ) (x : A) → k ≢ i → slice_get (set xs i x) k ≡ slice_get xs k
  at-other [] i k x n = refl
  at-other (y ∷ xs) zero zero x n = absurd (n refl)
  at-other (y ∷ xs) zero (suc k) x n = refl
  at-other (y ∷ xs) (suc i) zero x n = refl
  at-other (y ∷ xs) (suc i) (suc k) x n = at-other xs i k x (λ e. n (ap suc e))

  at-here : (xs : List A) (i : ℕ) (x y : A) → slice_get (set xs i x) i ≡ Some y → x ≡ y
  at-here [] i x y e = absurd (let q : ◌≡◌ {A = Option A} None (Some y) = e in cc)
  at-here (z ∷ xs) zero x y e = some-some x y e
  at-here (z ∷ xs) (suc i) x y e = at-here xs i x y e

  pub at-set : (xs : List A) (i : ℕ) (x : A) (F G : ℕ → A → Type 0) → AllAt xs F → ((k : ℕ) (a : A) → k ≢ i → F k a → G k a) → G i x → AllAt (set xs i x) G
  at-set xs i x F G h step here k a e = dite (ℕ_discrete k i)
      (λ same. subst (λ j. G j a) (sym same) (subst (G i) (at-here xs i x a (subst (λ j. slice_get (set xs i x) j ≡ Some a) same e)) here))
      (λ other. step k a other (h k a (sym (at-other xs i k x other) ∙ e)))

-- ---- states that are taken one after the other

turned-before : (n k : ℕ) (before after : ℕ → StripeState) → n ≤ k → turned n before after k ≡ before k
turned-before n k before after le = ap (λ b. cond b (after k) (before k)) (le-ltb k n le)

turned-after : (n k : ℕ) (before after : ℕ → StripeState) → k < n → turned n before after k ≡ after k
turned-after n k before after lt = ap (λ b. cond b (after k) (before k)) (lt-ltb k n lt)

turned-next : (n k : ℕ) (before after : ℕ → StripeState) → k ≢ n → turned n before after k ≡ turned (n + 1) before after k
turned-next n k before after other = by_test (nat_lt k n) refl
  where
    by_test : (b : Bool) → nat_lt k n ≡ b → turned n before after k ≡ turned (n + 1) before after k
    by_test true is = let lt : k < n = ltb-true k n is in turned-after n k before after lt ∙ sym (turned-after (n + 1) k before after (omega (arith, lt)))
    by_test false is = let le : n ≤ k = ltb-false k n is in turned-before n k before after le ∙ sym (turned-before (n + 1) k before after (omega (arith, le, other)))

pub turned-start : (events further : List Event) (after : ℕ → StripeState) (shards : List StripeState) → AreShards events further shards → AreTurned 0 (shards_at events further) after shards
turned-start events further after shards h = record { count = h.count; each = λ k shard is. h.each k shard is ∙ sym (turned-before 0 k (shards_at events further) after (omega arith)) }

pub turned-end : (events further : List Event) (before : ℕ → StripeState) (n : ℕ) (shards : List StripeState) → 16 ≤ n → AreTurned n before (shards_at events further) shards → AreShards events further shards
turned-end events further before n shards all h = record {
  count = h.count;
  each = λ k shard is. h.each k shard is ∙ turned-after n k before (shards_at events further) (let lt = slice_get_within shards k shard is in let c = h.count in omega (arith, lt, c, all));
}

pub turned-at : (n : ℕ) (before after : ℕ → StripeState) (shards : List StripeState) (shard : StripeState) → AreTurned n before after shards → n < length shards → shard ≡ get_or shards n shard → shard ≡ before n
turned-at n before after shards shard h lt is = h.each n shard (slice_get-get_or shards n shard lt ∙ ap Some (sym is)) ∙ turned-before n n before after (omega arith)

pub turned-set : (n : ℕ) (before after : ℕ → StripeState) (shards : List StripeState) (shard : StripeState) → AreTurned n before after shards → shard ≡ after n → AreTurned (n + 1) before after (set shards n shard)
turned-set n before after shards shard h is = record {
  count = length-set shards n shard ∙ h.count;
  each = at-set shards n shard (λ k s. s ≡ turned n before after k) (λ k s. s ≡ turned (n + 1) before after k) h.each
      (λ k s other e. e ∙ turned-next n k before after other)
      (is ∙ sym (turned-after (n + 1) n before after (omega arith)));
}

-- ---- what is prepared is given up

part-of-state : (events further : List Event) (k : ℕ) (shard : StripeState) → shard ≡ shard_of k events further → IsPart events k shard
part-of-state events further k shard e = record { stripe = ap (λ (s : StripeState). s.stripe) e; shares = ap (λ (s : StripeState). s.shares) e }

pub turned-parts : (events one other : List Event) (n : ℕ) (shards : List StripeState) → AreTurned n (shards_at events one) (shards_at events other) shards → AreParts events shards
turned-parts events one other n shards h = record { count = h.count; each = λ k shard is. by_test k shard (nat_lt k n) (h.each k shard is) }
  where
    by_test : (k : ℕ) (shard : StripeState) (b : Bool) → shard ≡ cond b (shard_of k events other) (shard_of k events one) → IsPart events k shard
    by_test k shard true e = part-of-state events other k shard e
    by_test k shard false e = part-of-state events one k shard e

pub shards-parts : (events further : List Event) (shards : List StripeState) → AreShards events further shards → AreParts events shards
shards-parts events further shards h = record { count = h.count; each = λ k shard is. part-of-state events further k shard (h.each k shard is) }

pub forgotten-start : (events : List Event) (shards : List StripeState) → AreParts events shards → AreForgotten 0 events shards
forgotten-start events shards h = record { count = h.count; each = λ k shard is. record { part = h.each k shard is; clean = λ lt. absurd (omega (arith, lt)) } }

pub forgotten-set : (n : ℕ) (events : List Event) (shards : List StripeState) (old new : StripeState) → AreForgotten n events shards → n < length shards → old ≡ get_or shards n old
    → new ≡ record { stripe = old.stripe; shares = old.shares; prepared = [] } → AreForgotten (n + 1) events (set shards n new)
forgotten-set n events shards old new h lt is e = record {
  count = length-set shards n new ∙ h.count;
  each = at-set shards n new (IsForgotten n events) (IsForgotten (n + 1) events) h.each
      (λ k s other f. record { part = f.part; clean = λ below. f.clean (omega (arith, below, other)) })
      (let before = (h.each n old (slice_get-get_or shards n old lt ∙ ap Some (sym is))).part in record {
        part = record { stripe = ap (λ (s : StripeState). s.stripe) e ∙ before.stripe; shares = ap (λ (s : StripeState). s.shares) e ∙ before.shares };
        clean = λ below. ap (λ (s : StripeState). s.prepared) e;
      });
}

pub same-state : (x y : StripeState) → x.stripe ≡ y.stripe → x.shares ≡ y.shares → x.prepared ≡ y.prepared → x ≡ y
same-state x y p q r = λ i. record { stripe = p i; shares = q i; prepared = r i }

pub forgotten-end : (n : ℕ) (events : List Event) (shards : List StripeState) → 16 ≤ n → AreForgotten n events shards → AreShards events [] shards
forgotten-end n events shards all h = record {
  count = h.count;
  each = λ k shard is.
      let f = h.each k shard is in
      same-state shard (shard_of k events []) f.part.stripe f.part.shares (f.clean (let lt = slice_get_within shards k shard is in let c = h.count in omega (arith, lt, c, all)));
}

pub turned-same : (events one other : List Event) (n i : ℕ) (shards : List StripeState) (old new : StripeState) → AreTurned n (shards_at events one) (shards_at events other) shards → old ≡ get_or shards i old → new ≡ old → AreParts events (set shards i new)
turned-same events one other n i shards old new h is same =
    subst (AreParts events) (sym (ap (set shards i) (same ∙ is) ∙ set-get_or shards i old)) (turned-parts events one other n shards h)

-- ---- a stripe that no event touches

pub shard-untouched : (k : ℕ) (events further : List Event) → any_touches further k ≡ false → shard_of k events [] ≡ shard_of k events further
shard-untouched k events further h = same-state (shard_of k events []) (shard_of k events further) refl refl (sym (own-none k (length events) further h))

pub untouched-applied : (k : ℕ) (events further : List Event) (old : StripeState) → old ≡ shard_of k events further → any_touches further k ≡ false → old ≡ shard_of k (events ++ further) []
untouched-applied k events further old at none =
    at
    ∙ same-state (shard_of k events further) (shard_of k (events ++ further) []) refl
    (sym (part-quiet k events further (untouched-all k further none)))
    (own-none k (length events) further none)

-- ---- a stripe that they may touch

pub touched-applied : (k place : ℕ) (events further given : List Event) (old new : StripeState) → new ≡ record { stripe = old.stripe; shares = old.shares ++ part_from place old.stripe given; prepared = [] } → given ≡ further → length events ≡ place
    → old ≡ shard_of k events further → new ≡ shard_of k (events ++ further) []
touched-applied k place events further given old new e same len at =
    e
    ∙ ap (λ (s : StripeState). let t : StripeState = record { stripe = s.stripe; shares = s.shares ++ part_from place s.stripe given; prepared = [] } in t) at
    ∙ same-state (record { stripe = k; shares = part_of k events ++ part_from place k given; prepared = [] }) (shard_of k (events ++ further) []) refl
    (more-part k place events given len ∙ ap (λ (es : List Event). part_of k (events ++ es)) same) refl

pub applied-shares : (place : ℕ) (events further given : List Event) (old new : StripeState) → new ≡ record { stripe = old.stripe; shares = old.shares ++ part_from place old.stripe given; prepared = [] } → given ≡ further → length events ≡ place
    → old.shares ≡ part_of old.stripe events → new.shares ≡ part_of old.stripe (events ++ further)
applied-shares place events further given old new e same len at =
    ap (λ (s : StripeState). s.shares) e
    ∙ ap (λ l. l ++ part_from place old.stripe given) at
    ∙ more-part old.stripe place events given len
    ∙ ap (λ (es : List Event). part_of old.stripe (events ++ es)) same
