-- One event of a plan after the other, on a shard and on the book.
use Rattle.std.proofs.Common.{◌≡◌, ℕ, ◌+◌, ◌<◌, List, [], ◌∷◌, ◌++◌, length, take, drop, get_or, refl, sym, ap, subst, ◌∙◌, append_assoc, length-append, arith}
use Rattle.std.proofs.lemmas.List.{append-nil, drop_all, take_all}
use Rattle.lg_types.specs.declared.records.Event.{Event}
use Rattle.lg_types.specs.Lists.{IsPrefix}
use Rattle.lg_types.specs.Parts.{Share, shares_of, part_from, part_of}
use Rattle.lg_types.proofs.Shares.{part-nil}
use Rattle.lg_book.specs.Booked.{Booked}
use Rattle.lg_book.specs.Following.{MayFollow}
use Rattle.lg_book.specs.FirstVolumes.{volumes_after}
use Rattle.lg_shard.specs.Following.{Follows}
use Rattle.lg_shard.specs.State.{StripeState, PlacedEvent, all_shares, coming_shares}
use Rattle.lg_plan.specs.declared.step.Step.{Step}
use Rattle.lg_plan.specs.Events.{AllPrepare, own_events}
use Rattle.lg_plan.specs.Steps.{events_in, volumes_in}
use Rattle.lg_plan.proofs.EventLemmas.{own-snoc, own-cons, coming, part-snoc-from, events-taken, events-left, length-taken, prepare-at}
use Rattle.lg_plan.proofs.ShardLemmas.{same-state}

-- ---- a shard on which the first i steps are prepared

abbrev pub prepared_to : StripeState → ℕ → List Step → ℕ → StripeState
prepared_to old place steps i = record { stripe = old.stripe; shares = old.shares; prepared = own_events old.stripe place (events_in (take i steps)) }

pub prepared-none : (old : StripeState) (place : ℕ) (steps : List Step) → old.prepared ≡ [] → old ≡ prepared_to old place steps 0
prepared-none old place steps clean = same-state old (prepared_to old place steps 0) refl refl clean

pub step-follows : (old state : StripeState) (es : List Event) (place : ℕ) (steps : List Step) (i : ℕ) (x : Step) → state ≡ prepared_to old place steps i → length es ≡ place
    → AllPrepare es (events_in steps) (volumes_in steps) → old.shares ≡ part_of old.stripe es → i < length steps → x ≡ get_or steps i x
    → Follows (coming_shares state) (shares_of state.stripe (place + i) x.event)
step-follows old state es place steps i x at len all shares lt is =
    subst (λ (s : StripeState). Follows (coming_shares s) (shares_of s.stripe (place + i) x.event)) (sym at)
    (subst (λ (l : List Share). Follows l (shares_of old.stripe (place + i) x.event)) (sym to_come)
    (subst (λ n. Follows (part_of old.stripe (es ++ events_in (take i steps))) (shares_of old.stripe n x.event)) count
    ((prepare-at es steps i x all lt is).shards old.stripe)))
  where
    count : length (es ++ events_in (take i steps)) ≡ place + i
    count = length-append es (events_in (take i steps)) ∙ (let n = length-taken steps i (omega arith) in omega (arith, n, len))

    to_come : old.shares ++ all_shares old.stripe (own_events old.stripe place (events_in (take i steps))) ≡ part_of old.stripe (es ++ events_in (take i steps))
    to_come =
        ap (λ l. l ++ all_shares old.stripe (own_events old.stripe place (events_in (take i steps)))) shares
        ∙ ap (λ n. part_of old.stripe es ++ all_shares old.stripe (own_events old.stripe n (events_in (take i steps)))) (sym len)
        ∙ coming old.stripe es (events_in (take i steps))

pub step-prepared : (old state new : StripeState) (place : ℕ) (steps : List Step) (i : ℕ) (x : Step) → state ≡ prepared_to old place steps i
    → new ≡ record { stripe = state.stripe; shares = state.shares; prepared = state.prepared ++ own_events state.stripe (place + i) (x.event ∷ []) }
    → i < length steps → x ≡ get_or steps i x → new ≡ prepared_to old place steps (i + 1)
step-prepared old state new place steps i x at more lt is =
    more
    ∙ ap (λ (s : StripeState). let t : StripeState = record { stripe = s.stripe; shares = s.shares; prepared = s.prepared ++ own_events s.stripe (place + i) (x.event ∷ []) } in t) at
    ∙ same-state (record { stripe = old.stripe; shares = old.shares; prepared = own_events old.stripe place (events_in (take i steps)) ++ own_events old.stripe (place + i) (x.event ∷ []) }) (prepared_to old place steps (i + 1)) refl refl (sym (
    ap (own_events old.stripe place) (events-taken steps i x lt is)
    ∙ own-snoc old.stripe place (events_in (take i steps)) x.event
    ∙ ap (λ n. own_events old.stripe place (events_in (take i steps)) ++ own_events old.stripe n (x.event ∷ [])) (let n = length-taken steps i (omega arith) in let e : place + length (events_in (take i steps)) ≡ place + i = omega (arith, n) in e)))

whole : (steps : List Step) (i : ℕ) → i ≡ length steps → events_in (take i steps) ≡ events_in steps
whole steps i h = ap (λ n. events_in (take n steps)) h ∙ ap events_in (take_all (length steps) steps (omega arith))

pub prepared-all : (old state : StripeState) (place : ℕ) (steps : List Step) (i : ℕ) → i ≡ length steps → state ≡ prepared_to old place steps i
    → state ≡ record { stripe = old.stripe; shares = old.shares; prepared = own_events old.stripe place (events_in steps) }
prepared-all old state place steps i all at = at ∙ ap (λ (es : List Event). let t : StripeState = record { stripe = old.stripe; shares = old.shares; prepared = own_events old.stripe place es } in t) (whole steps i all)

pub given-up : (old state after new : StripeState) (place : ℕ) (steps : List Step) (i : ℕ) → state ≡ prepared_to old place steps i → after ≡ state → new ≡ record { stripe = after.stripe; shares = after.shares; prepared = [] } → old.prepared ≡ [] → new ≡ old
given-up old state after new place steps i at same forgotten clean =
    forgotten
    ∙ ap (λ (s : StripeState). let t : StripeState = record { stripe = s.stripe; shares = s.shares; prepared = [] } in t) (same ∙ at)
    ∙ same-state (record { stripe = old.stripe; shares = old.shares; prepared = [] }) old refl refl (sym clean)

-- ---- a shard to which the first i steps were applied

abbrev pub applied_to : StripeState → ℕ → List Step → ℕ → StripeState
applied_to old place steps i = record {
  stripe = old.stripe;
  shares = old.shares ++ part_from place old.stripe (events_in (take i steps));
  prepared = own_events old.stripe (place + i) (events_in (drop i steps));
}

pub applied-none : (old : StripeState) (place : ℕ) (steps : List Step) → old.prepared ≡ own_events old.stripe place (events_in steps) → old ≡ applied_to old place steps 0
applied-none old place steps h =
    same-state old (applied_to old place steps 0) refl
    (sym (ap (λ l. old.shares ++ l) (part-nil place old.stripe) ∙ append-nil old.shares))
    (h ∙ ap (λ n. own_events old.stripe n (events_in steps)) (let e : place ≡ place + 0 = omega arith in e))

first-left : (old : StripeState) (place : ℕ) (steps : List Step) (i : ℕ) (x : Step) → i < length steps → x ≡ get_or steps i x
    → own_events old.stripe (place + i) (events_in (drop i steps)) ≡ own_events old.stripe (place + i) (x.event ∷ []) ++ own_events old.stripe (place + i + 1) (events_in (drop (i + 1) steps))
first-left old place steps i x lt is =
    ap (own_events old.stripe (place + i)) (events-left steps i x lt is)
    ∙ own-cons old.stripe (place + i) x.event (events_in (drop (i + 1) steps))

pub step-comes-first : (old state : StripeState) (place : ℕ) (steps : List Step) (i : ℕ) (x : Step) → state ≡ applied_to old place steps i → i < length steps → x ≡ get_or steps i x
    → IsPrefix (own_events state.stripe (place + i) (x.event ∷ [])) state.prepared
step-comes-first old state place steps i x at lt is =
    subst (λ (s : StripeState). IsPrefix (own_events s.stripe (place + i) (x.event ∷ [])) s.prepared) (sym at)
    (own_events old.stripe (place + i + 1) (events_in (drop (i + 1) steps)), first-left old place steps i x lt is)

pub step-applied : (old state new : StripeState) (place : ℕ) (steps : List Step) (i : ℕ) (x : Step) → state ≡ applied_to old place steps i
    → ((rest : List PlacedEvent) → state.prepared ≡ own_events state.stripe (place + i) (x.event ∷ []) ++ rest
    → new ≡ record { stripe = state.stripe; shares = state.shares ++ shares_of state.stripe (place + i) x.event; prepared = rest })
    → i < length steps → x ≡ get_or steps i x → new ≡ applied_to old place steps (i + 1)
step-applied old state new place steps i x at more lt is =
    more (own_events old.stripe (place + i + 1) (events_in (drop (i + 1) steps))) (subst (λ (s : StripeState). s.prepared ≡ own_events s.stripe (place + i) (x.event ∷ []) ++ own_events old.stripe (place + i + 1) (events_in (drop (i + 1) steps))) (sym at) (first-left old place steps i x lt is))
    ∙ ap (λ (s : StripeState). let t : StripeState = record { stripe = s.stripe; shares = s.shares ++ shares_of s.stripe (place + i) x.event; prepared = own_events old.stripe (place + i + 1) (events_in (drop (i + 1) steps)) } in t) at
    ∙ same-state (record { stripe = old.stripe; shares = old.shares ++ part_from place old.stripe (events_in (take i steps)) ++ shares_of old.stripe (place + i) x.event; prepared = own_events old.stripe (place + i + 1) (events_in (drop (i + 1) steps)) }) (applied_to old place steps (i + 1)) refl
    (append_assoc old.shares (part_from place old.stripe (events_in (take i steps))) (shares_of old.stripe (place + i) x.event)
    ∙ ap (λ l. old.shares ++ l) (sym (
    ap (part_from place old.stripe) (events-taken steps i x lt is)
    ∙ part-snoc-from old.stripe place (events_in (take i steps)) x.event
    ∙ ap (λ n. part_from place old.stripe (events_in (take i steps)) ++ shares_of old.stripe n x.event) (let n = length-taken steps i (omega arith) in let e : place + length (events_in (take i steps)) ≡ place + i = omega (arith, n) in e))))
    (ap (λ n. own_events old.stripe n (events_in (drop (i + 1) steps))) (let e : place + i + 1 ≡ place + (i + 1) = omega arith in e))

pub applied-all : (old state : StripeState) (place : ℕ) (steps : List Step) (i : ℕ) → i ≡ length steps → state ≡ applied_to old place steps i
    → state ≡ record { stripe = old.stripe; shares = old.shares ++ part_from place old.stripe (events_in steps); prepared = [] }
applied-all old state place steps i all at =
    at
    ∙ same-state (applied_to old place steps i) (record { stripe = old.stripe; shares = old.shares ++ part_from place old.stripe (events_in steps); prepared = [] }) refl
    (ap (λ (es : List Event). old.shares ++ part_from place old.stripe es) (whole steps i all))
    (ap (λ (xs : List Step). own_events old.stripe (place + i) (events_in xs)) (drop_all i steps (omega (arith, all))))

-- ---- the book

abbrev pub booked_to : Booked → List Step → ℕ → Booked
booked_to old steps i = record { events = old.events; prepared = events_in (take i steps) }

pub same-book : (x y : Booked) → x.events ≡ y.events → x.prepared ≡ y.prepared → x ≡ y
same-book x y p q = λ i. record { events = p i; prepared = q i }

pub book-step : (old state : Booked) (steps : List Step) (i : ℕ) (x : Step) → state ≡ booked_to old steps i → AllPrepare old.events (events_in steps) (volumes_in steps) → i < length steps → x ≡ get_or steps i x
    → MayFollow (state.events ++ state.prepared) x.event × (x.volumes ≡ volumes_after (state.events ++ state.prepared) x.event)
book-step old state steps i x at all lt is =
    let may = prepare-at old.events steps i x all lt is in
    subst (λ (b : Booked). MayFollow (b.events ++ b.prepared) x.event × (x.volumes ≡ volumes_after (b.events ++ b.prepared) x.event)) (sym at) (may.book, may.first)

pub book-prepared : (old state new : Booked) (steps : List Step) (i : ℕ) (x : Step) → state ≡ booked_to old steps i → new ≡ record { events = state.events; prepared = state.prepared ++ x.event ∷ [] } → i < length steps → x ≡ get_or steps i x
    → new ≡ booked_to old steps (i + 1)
book-prepared old state new steps i x at more lt is =
    more
    ∙ ap (λ (b : Booked). let t : Booked = record { events = b.events; prepared = b.prepared ++ x.event ∷ [] } in t) at
    ∙ same-book (record { events = old.events; prepared = events_in (take i steps) ++ x.event ∷ [] }) (booked_to old steps (i + 1)) refl (sym (events-taken steps i x lt is))

pub book-all : (old state : Booked) (steps : List Step) (i : ℕ) → i ≡ length steps → state ≡ booked_to old steps i → state ≡ record { events = old.events; prepared = events_in steps }
book-all old state steps i all at = at ∙ same-book (booked_to old steps i) (record { events = old.events; prepared = events_in steps }) refl (whole steps i all)

pub book-given-up : (old state after new : Booked) (steps : List Step) (i : ℕ) → state ≡ booked_to old steps i → after ≡ state → new ≡ record { events = after.events; prepared = [] } → old.prepared ≡ [] → new ≡ old
book-given-up old state after new steps i at same forgotten clean =
    forgotten
    ∙ ap (λ (b : Booked). let t : Booked = record { events = b.events; prepared = [] } in t) (same ∙ at)
    ∙ same-book (record { events = old.events; prepared = [] }) old refl (sym clean)
