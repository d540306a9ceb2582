-- What a shard keeps, from state to state.
use Rattle.std.proofs.Common.{◌≡◌, ℕ, zero, suc, ◌+◌, ◌-◌, ◌<◌, ◌≤◌, Bool, true, false, cond, ◌||◌, List, [], ◌∷◌, ◌++◌, length, get_or, take, drop, map, slice_get, Option, Some, None, IsSome, refl, sym, ap, subst, ◌∙◌, append_assoc, length-append, arith}
use Rattle.std.specs.Option.{option_to_list}
use Rattle.std.specs.List.{filter, list_any, take-map, drop-map}
use Rattle.std.proofs.lemmas.List.{append-nil, drop_more, take_more, take-append-le, drop-append-le, map-append, length-map, length-take, length-drop}
use Rattle.std.proofs.lemmas.Grind.{flat_map-append}
use Rattle.lg_containers.specs.NameTable.{NameTable, get, empty, get-empty}
use Rattle.lg_base.specs.Volumes.{IsWithinLimit}
use Rattle.lg_types.specs.declared.moves.Move.{Move}
use Rattle.lg_types.specs.declared.records.Entry.{Entry}
use Rattle.lg_types.specs.declared.records.Event.{Event}
use Rattle.lg_types.specs.declared.records.Event.TheVariants.{Made, Logged}
use Rattle.lg_types.specs.declared.records.Transaction.{Transaction}
use Rattle.lg_types.specs.declared.records.Target.TheVariants.{Account}
use Rattle.lg_types.specs.Changes.{is_about}
use Rattle.lg_types.specs.PartLaws.{is_account}
use Rattle.lg_types.specs.Known.{marking, referred_by, transaction_references}
use Rattle.lg_types.specs.Lists.{Each}
use Rattle.lg_types.specs.Moves.{body_transaction, pair_moves}
use Rattle.lg_types.specs.Parts.{Share, shares_of, has_key, has_reference, part_moves, part_changes, part_markings, part_references}
use Rattle.lg_shard.specs.declared.accounts.AccountPart.{AccountPart}
use Rattle.lg_shard.specs.declared.kept.KeptEvent.{KeptEvent}
use Rattle.lg_shard.specs.declared.ledgers.LedgerPart.{LedgerPart}
use Rattle.lg_shard.specs.declared.names.Names.{Names}
use Rattle.lg_shard.specs.Following.{Follows, AllFollow}
use Rattle.lg_shard.specs.Held.{shown, all_shown, shares_done, shares_ahead, IsReadyEvent, IsReady, IsHeld, state_of}
use Rattle.lg_shard.specs.Holdings.{Holding, MovesFollow, no_holding, ledger_holding, own_holding, own_markings}
use Rattle.lg_shard.specs.State.{PlacedEvent, StripeState, placed_shares, all_shares}
use Rattle.lg_shard.specs.Accounts.{slot_in, items_of, items_at, history_in, history_at}
use Rattle.lg_shard.specs.Named.{is_named, passes, is_named_at, assets_of, assets_at}
use Rattle.lg_shard.specs.Shown.{AreWithinLimit, account_changes, account_moves, is_known, is_moved, kept_under, used_under}
use Rattle.lg_shard.specs.Ties.{accounts_of, keys_of, references_of, PartTied, LedgersTied, AreRoomFor, IsReadyFor}
use Rattle.lg_types.specs.Tally.{total_of}
use Rattle.lg_types.proofs.MoveSums.{pair_moves-append}
use Rattle.lg_shard.proofs.KnownLemmas.{known-all}
use Rattle.lg_shard.proofs.NamedLemmas.{of_account, named-at, assets-members}
use Rattle.lg_shard.proofs.QuietLemmas.{holding-joined, holding-logged}
use Rattle.lg_shard.proofs.LedgerLemmas.{nothing_tied}

-- ---- events that follow

pub AllFollow-push : (s : ℕ) (shares : List Share) (ps : List PlacedEvent) (p : PlacedEvent) → AllFollow s shares ps → Follows (shares ++ all_shares s ps) (placed_shares s p) → AllFollow s shares (ps ++ p ∷ [])
AllFollow-push s shares [] p all follows = (subst (λ (l : List Share). Follows l (placed_shares s p)) (append-nil shares) follows, tt)
AllFollow-push s shares (x ∷ xs) p all follows =
    (all.0, AllFollow-push s (shares ++ placed_shares s x) xs p all.1 (subst (λ (l : List Share). Follows l (placed_shares s p)) (sym (append_assoc shares (placed_shares s x) (all_shares s xs))) follows))

-- ---- totals within the limit

within-more : (before ms : List Move) → IsWithinLimit (total_of before) → MovesFollow before ms → IsWithinLimit (total_of (before ++ ms))
within-more before [] h follows = subst (λ (l : List Move). IsWithinLimit (total_of l)) (sym (append-nil before)) h
within-more before (m ∷ ms) h follows = subst (λ (l : List Move). IsWithinLimit (total_of l)) (append_assoc before (m ∷ []) ms) (within-more (before ++ m ∷ []) ms follows.1 follows.2)

limits-more : (shares new : List Share) → AreWithinLimit shares → Follows shares new → AreWithinLimit (shares ++ new)
limits-more shares new h follows ledger account asset =
    subst (λ (l : List Move). IsWithinLimit (total_of l))
    (sym (ap (λ x. pair_moves x.moves account asset) (holding-joined ledger shares new) ∙ pair_moves-append (part_moves ledger shares) (part_moves ledger new) account asset))
    (within-more (account_moves shares ledger account asset) (account_moves new ledger account asset) (h ledger account asset) ((follows ledger).moves account asset))

no-limits : AreWithinLimit []
no-limits ledger account asset = record { input = omega arith; output = omega arith }

-- ---- how many keys and references are prepared

few : {X : Type 0} (p : X → Bool) (o : Option X) → length (filter p (option_to_list o)) ≤ 1
few p None = omega arith
few p (Some x) = few_if (p x) x
  where
    few_if : {X : Type 0} (b : Bool) (x : X) → length (cond b (x ∷ []) []) ≤ 1
    few_if true x = omega arith
    few_if false x = omega arith

few_mapped : {X Y : Type 0} (p : Y → Bool) (f : X → Y) (o : Option X) → length (filter p (map f (option_to_list o))) ≤ 1
few_mapped p f None = omega arith
few_mapped p f (Some x) = few p (Some (f x))

one_marking : (s : ℕ) (ledger : List ℕ) (e : Entry) → length (own_markings s ledger e) ≤ 1
one_marking s ledger e = let h = few (has_key s ledger) e.mark in omega (arith, length-map (filter (has_key s ledger) (option_to_list e.mark)) (marking e.id))

one_referred : (s : ℕ) (ledger : List ℕ) (o : Option Transaction) → length (filter (has_reference s ledger) (transaction_references o)) ≤ 1
one_referred s ledger None = omega arith
one_referred s ledger (Some t) = few_mapped (has_reference s ledger) (referred_by t.id) t.reference

IsOneAtMost : Holding → Type 0
IsOneAtMost x = (length x.markings ≤ 1) × (length x.references ≤ 1)

one_if_same : (b : Bool) (x : Holding) → IsOneAtMost x → IsOneAtMost (cond b x no_holding)
unfolding IsOneAtMost
one_if_same true x h = h
one_if_same false x h = (omega arith, omega arith)

one_event : (s : ℕ) (q : List ℕ) (place : ℕ) (event : Event) → IsOneAtMost (ledger_holding q (shares_of s place event))
unfolding IsOneAtMost
one_event s q place (Made info) = (omega arith, omega arith)
one_event s q place (Logged ledger e) =
    subst IsOneAtMost (sym (holding-logged s place ledger e q)) (one_if_same _ (own_holding s ledger e) (one_marking s ledger e, one_referred s ledger (body_transaction e.body)))

AreAtMost : List ℕ → ℕ → List Share → Type 0
AreAtMost q n shares = (length (part_markings q shares) ≤ n) × (length (part_references q shares) ≤ n)

at_most : (s : ℕ) (q : List ℕ) (ps : List PlacedEvent) → AreAtMost q (length ps) (all_shares s ps)
unfolding AreAtMost IsOneAtMost
at_most s q [] = (omega arith, omega arith)
at_most s q (p ∷ ps) =
    let one = one_event s q p.place p.event in let rest = at_most s q ps in let new : List Share = placed_shares s p in let more : List Share = all_shares s ps in
    let m : length (part_markings q (new ++ more)) ≡ length (part_markings q new) + length (part_markings q more) = ap (λ x. length x.markings) (holding-joined q new more) ∙ length-append (part_markings q new) (part_markings q more) in
    let r : length (part_references q (new ++ more)) ≡ length (part_references q new) + length (part_references q more) = ap (λ x. length x.references) (holding-joined q new more) ∙ length-append (part_references q new) (part_references q more) in
    let a : length (part_markings q new) ≤ 1 = one.0 in let b : length (part_references q new) ≤ 1 = one.1 in
    let c : length (part_markings q more) ≤ length ps = rest.0 in let d : length (part_references q more) ≤ length ps = rest.1 in
    (omega arith, omega arith)

-- there is room for one event more
pub room-for : (s applied : ℕ) (events : List KeptEvent) (count : ℕ) → length events - applied + 1 ≤ count → AreRoomFor count (shares_ahead s applied (all_shown events))
unfolding AreAtMost
room-for s applied events count le q =
    let h = at_most s q (drop applied (all_shown events)) in
    let n : length (drop applied (all_shown events)) ≡ length events - applied = length_left applied (all_shown events) ∙ ap (λ k. k - applied) (length-map events shown) in
    let a : length (part_markings q (shares_ahead s applied (all_shown events))) ≤ length (drop applied (all_shown events)) = h.0 in
    let b : length (part_references q (shares_ahead s applied (all_shown events))) ≤ length (drop applied (all_shown events)) = h.1 in
    record { markings = omega arith; references = omega arith }
  where
    length_left : {X : Type 0} (n : ℕ) (xs : List X) → length (drop n xs) ≡ length xs - n
    length_left n xs = omega (arith, length-drop n xs)

-- ---- prepared events stay ready

ready_still : (s : ℕ) (old new : NameTable LedgerPart) → ((q : List ℕ) → IsSome (get old q) → IsSome (get new q)) → (names : Names) (event : Event) → IsReadyEvent s old names event → IsReadyEvent s new names event
ready_still s old new still names (Made info) h = tt
ready_still s old new still names (Logged ledger e) h = (h.0, still ledger h.1)

all_still : (s : ℕ) (old new : NameTable LedgerPart) → ((q : List ℕ) → IsSome (get old q) → IsSome (get new q)) → (ks : List KeptEvent) → Each (IsReady s old) ks → Each (IsReady s new) ks
all_still s old new still [] h = h
all_still s old new still (k ∷ ks) h = (ready_still s old new still k.names k.event h.0, all_still s old new still ks h.1)

ready_push : (s : ℕ) (ledgers : NameTable LedgerPart) (ks : List KeptEvent) (k : KeptEvent) → Each (IsReady s ledgers) ks → IsReady s ledgers k → Each (IsReady s ledgers) (ks ++ k ∷ [])
ready_push s ledgers [] k h r = (r, h)
ready_push s ledgers (x ∷ xs) k h r = (h.0, ready_push s ledgers xs k h.1 r)

-- ---- one event more

module _ (s : ℕ) (events : List KeptEvent) (applied : ℕ) (k : KeptEvent) (within : applied ≤ length events) where
  shown_within : applied ≤ length (all_shown events)
  shown_within = let n = length-map events shown in omega arith

  pub done-push : take applied (all_shown (events ++ k ∷ [])) ≡ take applied (all_shown events)
  done-push = ap (take applied) (map-append shown events (k ∷ [])) ∙ take-append-le applied (all_shown events) (shown k ∷ []) shown_within

  pub ahead-push : drop applied (all_shown (events ++ k ∷ [])) ≡ drop applied (all_shown events) ++ shown k ∷ []
  ahead-push = ap (drop applied) (map-append shown events (k ∷ [])) ∙ drop-append-le applied (all_shown events) (shown k ∷ []) shown_within

  shares-push : (ps : List PlacedEvent) (p : PlacedEvent) → all_shares s (ps ++ p ∷ []) ≡ all_shares s ps ++ placed_shares s p
  shares-push ps p = flat_map-append (placed_shares s) ps (p ∷ []) ∙ ap (λ l. all_shares s ps ++ l) (append-nil (placed_shares s p))

  pub held-push : (old new : NameTable LedgerPart) → IsHeld s events applied old
      → LedgersTied new (shares_done s applied (all_shown events)) (shares_ahead s applied (all_shown events) ++ shares_of s k.place k.event)
      → ((q : List ℕ) → IsSome (get old q) → IsSome (get new q)) → IsReadyEvent s new k.names k.event
      → Follows (shares_done s applied (all_shown events) ++ shares_ahead s applied (all_shown events)) (shares_of s k.place k.event)
      → IsHeld s (events ++ k ∷ []) applied new
  held-push old new held tied still ready follows = record {
    within = let n = length-append events (k ∷ []) in omega arith;
    tied = subst (λ (ps : List PlacedEvent). LedgersTied new (all_shares s ps) (shares_ahead s applied (all_shown (events ++ k ∷ [])))) (sym done-push)
        (subst (λ (ps : List Share). LedgersTied new (shares_done s applied (all_shown events)) ps) (sym (ap (all_shares s) ahead-push ∙ shares-push (drop applied (all_shown events)) (shown k))) tied);
    follows = subst (λ (ps : List PlacedEvent). AllFollow s (all_shares s ps) (drop applied (all_shown (events ++ k ∷ [])))) (sym done-push)
        (subst (λ (ps : List PlacedEvent). AllFollow s (shares_done s applied (all_shown events)) ps) (sym ahead-push) (AllFollow-push s _ (drop applied (all_shown events)) (shown k) held.follows follows));
    ready = subst (λ (ks : List KeptEvent). Each (IsReady s new) ks) (sym (drop-append-le applied events (k ∷ []) within))
        (ready_push s new (drop applied events) k (all_still s old new still (drop applied events) held.ready) ready);
    limits = subst (λ (ps : List PlacedEvent). AreWithinLimit (all_shares s ps)) (sym done-push) held.limits;
  }

  pub state-push : state_of s (events ++ k ∷ []) applied ≡ record { stripe = s; shares = shares_done s applied (all_shown events); prepared = drop applied (all_shown events) ++ shown k ∷ [] }
  state-push = λ i. record { stripe = s; shares = all_shares s (done-push i); prepared = ahead-push i }

-- other ledgers that stand for the same
pub held-kept : (s : ℕ) (events : List KeptEvent) (applied : ℕ) (old new : NameTable LedgerPart) → IsHeld s events applied old
    → LedgersTied new (shares_done s applied (all_shown events)) (shares_ahead s applied (all_shown events)) → ((q : List ℕ) → IsSome (get old q) → IsSome (get new q)) → IsHeld s events applied new
held-kept s events applied old new held tied still = record { within = held.within; tied = tied; follows = held.follows; ready = all_still s old new still (drop applied events) held.ready; limits = held.limits }

-- ---- nothing is prepared any more

take_twice : {X : Type 0} (n : ℕ) (xs : List X) → take n (take n xs) ≡ take n xs
take_twice zero xs = refl
take_twice (suc n) [] = refl
take_twice (suc n) (x ∷ xs) = ap (λ l. x ∷ l) (take_twice n xs)

drop_taken : {X : Type 0} (n : ℕ) (xs : List X) → drop n (take n xs) ≡ []
drop_taken zero xs = refl
drop_taken (suc n) [] = refl
drop_taken (suc n) (x ∷ xs) = drop_taken n xs

module _ (s : ℕ) (events : List KeptEvent) (applied : ℕ) where
  done-cut : take applied (all_shown (take applied events)) ≡ take applied (all_shown events)
  done-cut = ap (take applied) (sym (take-map shown applied events)) ∙ take_twice applied (all_shown events)

  ahead-cut : drop applied (all_shown (take applied events)) ≡ []
  ahead-cut = ap (drop applied) (sym (take-map shown applied events)) ∙ drop_taken applied (all_shown events)

  pub held-cut : (ledgers : NameTable LedgerPart) → applied ≤ length events → AreWithinLimit (shares_done s applied (all_shown events)) → LedgersTied ledgers (shares_done s applied (all_shown events)) [] → IsHeld s (take applied events) applied ledgers
  held-cut ledgers within limits tied = record {
    within = let n = length-take applied events in omega arith;
    tied = subst (λ (ps : List PlacedEvent). LedgersTied ledgers (all_shares s ps) (shares_ahead s applied (all_shown (take applied events)))) (sym done-cut)
        (subst (λ (ps : List PlacedEvent). LedgersTied ledgers (shares_done s applied (all_shown events)) (all_shares s ps)) (sym ahead-cut) tied);
    follows = subst (λ (ps : List PlacedEvent). AllFollow s (shares_done s applied (all_shown (take applied events))) ps) (sym ahead-cut) tt;
    ready = subst (λ (ks : List KeptEvent). Each (IsReady s ledgers) ks) (sym (drop_taken applied events)) tt;
    limits = subst (λ (ps : List PlacedEvent). AreWithinLimit (all_shares s ps)) (sym done-cut) limits;
  }

  pub state-cut : state_of s (take applied events) applied ≡ record { stripe = s; shares = shares_done s applied (all_shown events); prepared = [] }
  state-cut = λ i. record { stripe = s; shares = all_shares s (done-cut i); prepared = ahead-cut i }

-- the last of the events, behind those before it
pub shares-last : (s : ℕ) (events : List KeptEvent) (n m : ℕ) (d : KeptEvent) → m + 1 ≡ n → n ≤ length events → all_shares s (all_shown (take n events)) ≡ all_shares s (all_shown (take m events)) ++ shares_of s (get_or events m d).place (get_or events m d).event
shares-last s events n m d e le =
    ap (λ k. all_shares s (all_shown (take k events))) (sym e)
    ∙ ap (λ ks. all_shares s (all_shown ks)) (take_more events m d (omega arith))
    ∙ ap (all_shares s) (map-append shown (take m events) (get_or events m d ∷ []))
    ∙ flat_map-append (placed_shares s) (all_shown (take m events)) (shown (get_or events m d) ∷ [])
    ∙ ap (λ l. all_shares s (all_shown (take m events)) ++ l) (append-nil (placed_shares s (shown (get_or events m d))))

-- ---- the first prepared event

some_same : {X : Type 0} (x y : X) → Some x ≡ Some y → x ≡ y
some_same x y h = cc

next_drop : {X : Type 0} (n : ℕ) (xs : List X) (p : X) → slice_get (drop n xs) 0 ≡ Some p → drop n xs ≡ p ∷ drop (suc n) xs
next_drop zero [] p h = absurd cc
next_drop zero (x ∷ xs) p h = ap (λ y. y ∷ xs) (some_same x p h)
next_drop (suc n) [] p h = absurd cc
next_drop (suc n) (x ∷ xs) p h = next_drop n xs p h

next_take : {X : Type 0} (n : ℕ) (xs : List X) (p : X) → slice_get (drop n xs) 0 ≡ Some p → take (suc n) xs ≡ take n xs ++ p ∷ []
next_take zero [] p h = absurd cc
next_take zero (x ∷ xs) p h = ap (λ y. y ∷ []) (some_same x p h)
next_take (suc n) [] p h = absurd cc
next_take (suc n) (x ∷ xs) p h = ap (λ l. x ∷ l) (next_take n xs p h)

next_within : {X : Type 0} (n : ℕ) (xs : List X) (p : X) → slice_get (drop n xs) 0 ≡ Some p → n < length xs
next_within zero [] p h = absurd cc
next_within zero (x ∷ xs) p h = omega arith
next_within (suc n) [] p h = absurd cc
next_within (suc n) (x ∷ xs) p h = let lt = next_within n xs p h in omega arith

module _ (s : ℕ) (events : List KeptEvent) (applied : ℕ) (old : NameTable LedgerPart) (p : PlacedEvent) (held : IsHeld s events applied old) (first : slice_get (drop applied (all_shown events)) 0 ≡ Some p) where
  one : applied + 1 ≡ suc applied
  one = omega arith

  pub first-within : applied < length events
  first-within = let lt = next_within applied (all_shown events) p first in let n = length-map events shown in omega arith

  ahead-first : drop applied (all_shown events) ≡ p ∷ drop (applied + 1) (all_shown events)
  ahead-first = next_drop applied (all_shown events) p first ∙ ap (λ n. p ∷ drop n (all_shown events)) (sym one)

  done-first : take (applied + 1) (all_shown events) ≡ take applied (all_shown events) ++ p ∷ []
  done-first = ap (λ n. take n (all_shown events)) one ∙ next_take applied (all_shown events) p first

  shares-first : shares_done s (applied + 1) (all_shown events) ≡ shares_done s applied (all_shown events) ++ placed_shares s p
  shares-first = ap (all_shares s) done-first ∙ flat_map-append (placed_shares s) (take applied (all_shown events)) (p ∷ []) ∙ ap (λ l. shares_done s applied (all_shown events) ++ l) (append-nil (placed_shares s p))

  tied_first : LedgersTied old (shares_done s applied (all_shown events)) (placed_shares s p ++ shares_ahead s (applied + 1) (all_shown events))
  tied_first = subst (λ (ps : List PlacedEvent). LedgersTied old (shares_done s applied (all_shown events)) (all_shares s ps)) ahead-first held.tied

  follows_first : AllFollow s (shares_done s applied (all_shown events)) (p ∷ drop (applied + 1) (all_shown events))
  follows_first = subst (λ (ps : List PlacedEvent). AllFollow s (shares_done s applied (all_shown events)) ps) ahead-first held.follows

  pub first-ready-for : IsReadyFor old s p.event
  first-ready-for = record { place = p.place; shares = shares_done s applied (all_shown events); coming = shares_ahead s (applied + 1) (all_shown events); tied = tied_first; follows = follows_first.0 }

  module _ (d : KeptEvent) where
    kept-first : drop applied events ≡ get_or events applied d ∷ drop (applied + 1) events
    kept-first = drop_more events applied d first-within

    shown-first : shown (get_or events applied d) ≡ p
    shown-first =
        some_same _ _ (ap (λ l. slice_get l 0) (sym (drop-map shown applied events ∙ ap (map shown) kept-first)) ∙ first)

    ready_kept : Each (IsReady s old) (get_or events applied d ∷ drop (applied + 1) events)
    ready_kept = subst (λ (ks : List KeptEvent). Each (IsReady s old) ks) kept-first held.ready

    pub first-ready : (names : Names) → names ≡ (get_or events applied d).names → IsReadyEvent s old names p.event
    first-ready names is = subst (λ (n : Names). IsReadyEvent s old n p.event) (sym is) (subst (λ (event : Event). IsReadyEvent s old (get_or events applied d).names event) (ap (λ x. x.event) shown-first) ready_kept.0)

    pub held-first : (after : List KeptEvent) (new : NameTable LedgerPart) → all_shown after ≡ all_shown events → drop (applied + 1) after ≡ drop (applied + 1) events
        → ((place : ℕ) (shares coming : List Share) → LedgersTied old shares (shares_of s place p.event ++ coming) → LedgersTied new (shares ++ shares_of s place p.event) coming)
        → ((q : List ℕ) → IsSome (get old q) → IsSome (get new q)) → IsHeld s after (applied + 1) new
    held-first after new same rest tied still = record {
      within = let lt = first-within in let m = length-map after shown in let n = length-map events shown in let e : length (all_shown after) ≡ length (all_shown events) = ap length same in omega arith;
      tied = subst (λ (ps : List PlacedEvent). LedgersTied new (shares_done s (applied + 1) ps) (shares_ahead s (applied + 1) ps)) (sym same)
          (subst (λ (l : List Share). LedgersTied new l (shares_ahead s (applied + 1) (all_shown events))) (sym shares-first)
          (tied p.place (shares_done s applied (all_shown events)) (shares_ahead s (applied + 1) (all_shown events)) tied_first));
      follows = subst (λ (ps : List PlacedEvent). AllFollow s (shares_done s (applied + 1) ps) (drop (applied + 1) ps)) (sym same)
          (subst (λ (l : List Share). AllFollow s l (drop (applied + 1) (all_shown events))) (sym shares-first) follows_first.1);
      ready = subst (λ (ks : List KeptEvent). Each (IsReady s new) ks) (sym rest) (all_still s old new still (drop (applied + 1) events) ready_kept.1);
      limits = subst (λ (ps : List PlacedEvent). AreWithinLimit (shares_done s (applied + 1) ps)) (sym same)
          (subst AreWithinLimit (sym shares-first) (limits-more _ _ held.limits follows_first.0));
    }

-- the state after the first prepared event was applied
pub state-first : (s : ℕ) (events after : List KeptEvent) (applied : ℕ) (p : PlacedEvent) → slice_get (drop applied (all_shown events)) 0 ≡ Some p → all_shown after ≡ all_shown events
    → state_of s after (applied + 1) ≡ record { stripe = s; shares = shares_done s applied (all_shown events) ++ placed_shares s p; prepared = drop 1 (drop applied (all_shown events)) }
state-first s events after applied p first same =
    let e : applied + 1 ≡ suc applied = omega arith in
    let shares : all_shares s (take (applied + 1) (all_shown after)) ≡ shares_done s applied (all_shown events) ++ placed_shares s p =
    ap (λ ps. all_shares s (take (applied + 1) ps)) same ∙ ap (λ n. all_shares s (take n (all_shown events))) e ∙ ap (all_shares s) (next_take applied (all_shown events) p first)
    ∙ flat_map-append (placed_shares s) (take applied (all_shown events)) (p ∷ []) ∙ ap (λ l. shares_done s applied (all_shown events) ++ l) (append-nil (placed_shares s p)) in
    let prepared : drop (applied + 1) (all_shown after) ≡ drop 1 (drop applied (all_shown events)) =
    ap (drop (applied + 1)) same ∙ ap (λ n. drop n (all_shown events)) e ∙ sym (ap (drop 1) (next_drop applied (all_shown events) p first)) in
    λ i. record { stripe = s; shares = shares i; prepared = prepared i }

-- ---- a new shard

pub held-new : (s : ℕ) (events : List KeptEvent) (ledgers : NameTable LedgerPart) → events ≡ [] → ledgers ≡ empty → IsHeld s events 0 ledgers
held-new s events ledgers none h =
    subst (λ (ks : List KeptEvent). IsHeld s ks 0 ledgers) (sym none) (record { within = omega arith; tied = nothing_tied ledgers h; follows = tt; ready = tt; limits = no-limits })

-- ---- what readers find

module _ (s : ℕ) (events : List KeptEvent) (applied : ℕ) (ledgers : NameTable LedgerPart) (held : IsHeld s events applied ledgers) (v : StripeState) (is : state_of s events applied ≡ v) (ledger name : List ℕ) (en : name ≡ ledger) (o : Option LedgerPart) (found : o ≡ get ledgers name) where
  part_here : PartTied o (ledger_holding ledger v.shares) (ledger_holding ledger (shares_ahead s applied (all_shown events)))
  part_here =
      subst (λ (p : Option LedgerPart). PartTied p (ledger_holding ledger v.shares) (ledger_holding ledger (shares_ahead s applied (all_shown events)))) (ap (get ledgers) (sym en) ∙ sym found)
      (subst (λ (w : StripeState). PartTied (get ledgers ledger) (ledger_holding ledger w.shares) (ledger_holding ledger (shares_ahead s applied (all_shown events)))) is (held.tied ledger))

  pub items-shown : (account asset : List ℕ) → items_at (accounts_of o) account asset ≡ account_moves v.shares ledger account asset
  items-shown account asset = part_here.moves.items account asset

  pub key-shown : (key : List ℕ) → get (keys_of o).table key ≡ kept_under v.shares ledger key
  key-shown key = part_here.keys.known key

  pub reference-shown : (reference : List ℕ) → get (references_of o).table reference ≡ used_under v.shares ledger reference
  reference-shown reference = part_here.references.known reference

  pub no-items : o ≡ None → (account asset : List ℕ) → account_moves v.shares ledger account asset ≡ []
  no-items none account asset = sym (items-shown account asset) ∙ ap (λ p. items_at (accounts_of p) account asset) none ∙ ap (λ p. items_of (slot_in p asset)) (get-empty AccountPart account)

  pub changes-shown : (account : List ℕ) → (history_at (accounts_of o) account).changes ≡ account_changes v.shares ledger account
  changes-shown account = part_here.histories.applied account

  pub no-changes : o ≡ None → (account : List ℕ) → account_changes v.shares ledger account ≡ []
  no-changes none account = sym (changes-shown account) ∙ ap (λ p. (history_at (accounts_of p) account).changes) none ∙ ap (λ p. (history_in p).changes) (get-empty AccountPart account)

  pub known-shown : (account : List ℕ) → is_named_at (accounts_of o) account ≡ is_known v.shares ledger account
  known-shown account =
      named-at (accounts_of o) _ _ part_here.moves _ _ part_here.histories account
      ∙ subst (λ (w : StripeState). (list_any (of_account account) (part_moves ledger w.shares) || list_any (is_about (Account account)) (part_changes ledger w.shares)) ≡ is_known w.shares ledger account) is (sym (known-all ledger account s (take applied (all_shown events))))

  pub unknown : o ≡ None → (account : List ℕ) → false ≡ is_known v.shares ledger account
  unknown none account = sym (ap (passes is_named) (get-empty AccountPart account)) ∙ sym (ap (λ p. is_named_at (accounts_of p) account) none) ∙ known-shown account

  pub assets-shown : (account asset : List ℕ) → list_any (is_account asset) (assets_at (accounts_of o) account) ≡ is_moved v.shares ledger account asset
  assets-shown account asset = assets-members (accounts_of o) _ _ part_here.moves account asset

  pub no-assets : o ≡ None → (account asset : List ℕ) → false ≡ is_moved v.shares ledger account asset
  no-assets none account asset = sym (ap (λ p. list_any (is_account asset) (assets_of p)) (get-empty AccountPart account)) ∙ sym (ap (λ p. list_any (is_account asset) (assets_at (accounts_of p) account)) none) ∙ assets-shown account asset

-- the totals of what is seen are within the limit
pub limits-shown : (s : ℕ) (events : List KeptEvent) (applied : ℕ) (ledgers : NameTable LedgerPart) → IsHeld s events applied ledgers → (v : StripeState) → state_of s events applied ≡ v → AreWithinLimit v.shares
limits-shown s events applied ledgers held v is = subst (λ (w : StripeState). AreWithinLimit w.shares) is held.limits
