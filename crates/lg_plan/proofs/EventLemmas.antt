-- Events of a plan, one more and one fewer, and what of them a stripe holds.
use Rattle.std.proofs.Common.{◌≡◌, ℕ, zero, suc, ◌+◌, ◌<◌, ◌≤◌, Bool, true, false, not, cond, ◌||◌, ◌&&◌, List, [], ◌∷◌, ◌++◌, length, take, drop, get_or, refl, sym, ap, subst, ◌∙◌, append_assoc, arith}
use Rattle.std.proofs.lemmas.List.{append-nil, map-append, length-map, drop_more, take_more, length-take}
use Rattle.lg_types.specs.declared.records.Event.{Event}
use Rattle.lg_types.specs.Parts.{touches, untouched, shares_of, part_from, part_of}
use Rattle.lg_types.proofs.Shares.{part-nil, part-cons, part-append, quiet}
use Rattle.lg_book.specs.declared.volumes.FirstVolumes.{FirstVolumes}
use Rattle.lg_shard.specs.State.{PlacedEvent, placed, all_shares}
use Rattle.lg_plan.specs.declared.step.Step.{Step}
use Rattle.lg_plan.specs.Events.{any_touches, MayPrepare, AllPrepare, own_events}
use Rattle.lg_plan.specs.Steps.{event_of, events_in, volumes_in}

-- ---- the events of a stripe

pub own-append : (k n : ℕ) (xs ys : List Event) → own_events k n (xs ++ ys) ≡ own_events k n xs ++ own_events k (n + length xs) ys
own-append k n [] ys = ap (λ m. own_events k m ys) (let e : n ≡ n + length {A = Event} [] = omega arith in e)
own-append k n (x ∷ xs) ys =
    own_step (touches k x) (placed n x) _ _ _
    (own-append k (n + 1) xs ys ∙ ap (λ m. own_events k (n + 1) xs ++ own_events k m ys) (let e : n + 1 + length xs ≡ n + length (x ∷ xs) = omega arith in e))
  where
    own_step : (b : Bool) (p : PlacedEvent) (all front back : List PlacedEvent) → all ≡ front ++ back → cond b (p ∷ all) all ≡ cond b (p ∷ front) front ++ back
    own_step true p all front back h = ap (λ l. p ∷ l) h
    own_step false p all front back h = h

-- with one event more, and the first of several
pub own-snoc : (k n : ℕ) (xs : List Event) (x : Event) → own_events k n (xs ++ x ∷ []) ≡ own_events k n xs ++ own_events k (n + length xs) (x ∷ [])
own-snoc k n xs x = own-append k n xs (x ∷ [])

pub own-cons : (k n : ℕ) (x : Event) (xs : List Event) → own_events k n (x ∷ xs) ≡ own_events k n (x ∷ []) ++ own_events k (n + 1) xs
own-cons k n x xs = own-append k n (x ∷ []) xs ∙ ap (λ m. own_events k n (x ∷ []) ++ own_events k m xs) (let e : n + length (x ∷ []) ≡ n + 1 = omega arith in e)

-- their shares are the part of the stripe
pub own-shares : (k n : ℕ) (xs : List Event) → all_shares k (own_events k n xs) ≡ part_from n k xs
own-shares k n [] = sym (part-nil n k)
own-shares k n (x ∷ xs) = shares_step (touches k x) refl (own-shares k (n + 1) xs) ∙ sym (part-cons n k x xs)
  where
    shares_step : (b : Bool) → touches k x ≡ b → all_shares k (own_events k (n + 1) xs) ≡ part_from (n + 1) k xs
        → all_shares k (cond b (placed n x ∷ own_events k (n + 1) xs) (own_events k (n + 1) xs)) ≡ shares_of k n x ++ part_from (n + 1) k xs
    shares_step true h e = ap (λ l. shares_of k n x ++ l) e
    shares_step false h e = e ∙ ap (λ l. l ++ part_from (n + 1) k xs) (sym (quiet k n x h))

or_first : (a b : Bool) → (a || b) ≡ false → a ≡ false
or_first true b h = h
or_first false b h = refl

or_second : (a b : Bool) → (a || b) ≡ false → b ≡ false
or_second true b h = absurd (let f : true ≡ false = h in cc)
or_second false b h = h

pub own-none : (k n : ℕ) (xs : List Event) → any_touches xs k ≡ false → own_events k n xs ≡ []
own-none k n [] h = refl
own-none k n (x ∷ xs) h =
    ap (λ b. cond b (placed n x ∷ own_events k (n + 1) xs) (own_events k (n + 1) xs)) (or_first (touches k x) (any_touches xs k) h)
    ∙ own-none k (n + 1) xs (or_second (touches k x) (any_touches xs k) h)

pub untouched-all : (k : ℕ) (xs : List Event) → any_touches xs k ≡ false → untouched k xs ≡ true
untouched-all k [] h = refl
untouched-all k (x ∷ xs) h =
    ap (λ b. not b && untouched k xs) (or_first (touches k x) (any_touches xs k) h)
    ∙ untouched-all k xs (or_second (touches k x) (any_touches xs k) h)

-- the shares to come of a shard with further events prepared
pub coming : (k : ℕ) (es xs : List Event) → part_of k es ++ all_shares k (own_events k (length es) xs) ≡ part_of k (es ++ xs)
coming k es xs =
    ap (λ l. part_of k es ++ l) (own-shares k (length es) xs ∙ ap (λ m. part_from m k xs) (let e : length es ≡ 0 + length es = omega arith in e))
    ∙ sym (part-append 0 k es xs)

pub more-part : (k n : ℕ) (es xs : List Event) → length es ≡ n → part_of k es ++ part_from n k xs ≡ part_of k (es ++ xs)
more-part k n es xs h =
    ap (λ m. part_of k es ++ part_from m k xs) (let e : n ≡ 0 + length es = omega (arith, h) in e)
    ∙ sym (part-append 0 k es xs)

pub part-one : (k n : ℕ) (x : Event) (xs : List Event) → part_from n k (x ∷ xs) ≡ shares_of k n x ++ part_from (n + 1) k xs
part-one k n x xs = part-cons n k x xs

pub part-snoc-from : (k n : ℕ) (xs : List Event) (x : Event) → part_from n k (xs ++ x ∷ []) ≡ part_from n k xs ++ shares_of k (n + length xs) x
part-snoc-from k n xs x =
    part-append n k xs (x ∷ [])
    ∙ ap (λ l. part_from n k xs ++ l) (part-cons (n + length xs) k x [] ∙ ap (λ l. shares_of k (n + length xs) x ++ l) (part-nil (n + length xs + 1) k) ∙ append-nil (shares_of k (n + length xs) x))

-- ---- the steps before and from a place

pub events-taken : (steps : List Step) (i : ℕ) (x : Step) → i < length steps → x ≡ get_or steps i x → events_in (take (i + 1) steps) ≡ events_in (take i steps) ++ x.event ∷ []
events-taken steps i x lt is =
    ap events_in (take_more steps i x lt ∙ ap (λ (s : Step). take i steps ++ s ∷ []) (sym is))
    ∙ map-append event_of (take i steps) (x ∷ [])

pub events-left : (steps : List Step) (i : ℕ) (x : Step) → i < length steps → x ≡ get_or steps i x → events_in (drop i steps) ≡ x.event ∷ events_in (drop (i + 1) steps)
events-left steps i x lt is = ap events_in (drop_more steps i x lt ∙ ap (λ (s : Step). s ∷ drop (i + 1) steps) (sym is))

pub length-taken : (steps : List Step) (i : ℕ) → i ≤ length steps → length (events_in (take i steps)) ≡ i
length-taken steps i le = length-map (take i steps) event_of ∙ (let h = length-take i steps in let e : length (take i steps) ≡ i = omega (arith, h) in e)

-- the event at a place may be prepared after the list and those before it
pub prepare-at : (before : List Event) (steps : List Step) (i : ℕ) (x : Step) → AllPrepare before (events_in steps) (volumes_in steps) → i < length steps → x ≡ get_or steps i x
    → MayPrepare (before ++ events_in (take i steps)) x.event x.volumes
prepare-at before [] i x h lt is = absurd (omega arith)
prepare-at before (s ∷ steps) zero x h lt is =
    subst (λ (es : List Event). MayPrepare es x.event x.volumes) (sym (append-nil before))
    (subst (λ (y : Step). MayPrepare before y.event y.volumes) (sym is) h.0)
prepare-at before (s ∷ steps) (suc i) x h lt is =
    subst (λ (es : List Event). MayPrepare es x.event x.volumes) (append_assoc before (s.event ∷ []) (events_in (take i steps)))
    (prepare-at (before ++ s.event ∷ []) steps i x h.1 (omega arith) is)

-- ---- a plan that fits, with one event more

pub all-prepare-more : (before events : List Event) (volumes : List FirstVolumes) (event : Event) (v : FirstVolumes) → AllPrepare before events volumes → MayPrepare (before ++ events) event v
    → AllPrepare before (events ++ event ∷ []) (volumes ++ v ∷ [])
all-prepare-more before [] volumes event v h may =
    subst (λ (vs : List FirstVolumes). AllPrepare before (event ∷ []) (vs ++ v ∷ [])) (sym h)
    (subst (λ (es : List Event). MayPrepare es event v) (append-nil before) may, refl)
all-prepare-more before (e ∷ events) [] event v h may = absurd h
all-prepare-more before (e ∷ events) (w ∷ volumes) event v h may =
    (h.0, all-prepare-more (before ++ e ∷ []) events volumes event v h.1 (subst (λ (es : List Event). MayPrepare es event v) (sym (append_assoc before (e ∷ []) events)) may))
