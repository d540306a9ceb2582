-- The trial of postings, one after the other.
use Rattle.std.proofs.Common.{◌≡◌, ℕ, ◌+◌, ◌<◌, Bool, true, false, cond, List, [], ◌∷◌, ◌++◌, length, take, drop, get_or, refl, sym, ◌∙◌, ap, subst, append_assoc}
use Rattle.std.specs.Prelude.{Option, Some, None, slice_get, IsSomeAnd}
use Rattle.std.specs.List.{flat_map}
use Rattle.std.proofs.lemmas.List.Concat.{flat_map-append}
use Rattle.std.proofs.lemmas.List.{take_more, drop_more, append-nil}
use Rattle.lg_types.specs.declared.records.Posting.{Posting}
use Rattle.lg_types.specs.declared.refusals.Refusal.{Refusal}
use Rattle.lg_types.specs.declared.refusals.Refusal.TheVariants as refusal
use Rattle.lg_types.specs.Lists.{or_else}
use Rattle.lg_types.specs.Moves.{Placed}
use Rattle.lg_types.specs.Trial.{lacks, is_over, tried_moves, trial_from, limit_from, is_below, source_balance, below_in, balances_from, revert_trial_from}
use Rattle.lg_sheet.specs.declared.stop.SheetStop.{SheetStop}
use Rattle.lg_sheet.specs.declared.stop.SheetStop.TheVariants.{Lack, Below, Limit, NoMemory}
use Rattle.lg_sheet.specs.declared.stop.LineStop.{LineStop}
use Rattle.lg_sheet.specs.declared.stop.LineStop.TheVariants as line
use Rattle.lg_sheet.specs.Trials.{tried, line_refusal, stop_at, IsToldStop, IsLackBelow, IsNoLack, IsLineLimit}
use Rattle.lg_sheet.proofs.OrderLemmas.{got, got_below}

-- the trial goes on after a posting that comes to nothing
goes_on : (b c : Bool) (r s : Refusal) (rest : Option Refusal) → cond b (Some r) (cond c (Some s) None) ≡ None → cond b (Some r) (cond c (Some s) rest) ≡ rest
goes_on true c r s rest e = cc
goes_on false true r s rest e = cc
goes_on false false r s rest e = refl

-- the trial ends at a posting that comes to something
ends_at : (b c : Bool) (r s x : Refusal) (rest : Option Refusal) → cond b (Some r) (cond c (Some s) None) ≡ Some x → cond b (Some r) (cond c (Some s) rest) ≡ Some x
ends_at true c r s x rest e = e
ends_at false true r s x rest e = e
ends_at false false r s x rest e = cc

-- the moves before the next posting
pub next_moves : (ms : List Placed) (ps : List Posting) (i : ℕ) (p : Posting) → i < length ps → p ≡ get_or ps i p
    → (ms ++ flat_map tried_moves (take i ps)) ++ tried_moves p ≡ ms ++ flat_map tried_moves (take (i + 1) ps)
next_moves ms ps i p h is =
    append_assoc ms (flat_map tried_moves (take i ps)) (tried_moves p)
    ∙ ap (λ (l : List Placed). ms ++ l)
    (ap (λ (l : List Placed). flat_map tried_moves (take i ps) ++ l) (sym (append-nil (tried_moves p)))
    ∙ sym (flat_map-append tried_moves (take i ps) (p ∷ []))
    ∙ ap (λ (l : List Posting). flat_map tried_moves l) (sym (take_more ps i p h ∙ ap (λ (q : Posting). take i ps ++ q ∷ []) (sym is))))

left_here : (ps : List Posting) (i : ℕ) (p : Posting) → i < length ps → p ≡ get_or ps i p → drop i ps ≡ p ∷ drop (i + 1) ps
left_here ps i p h is = drop_more ps i p h ∙ ap (λ (q : Posting). q ∷ drop (i + 1) ps) (sym is)

module _ (force : Bool) (ms : List Placed) (ps : List Posting) (i : ℕ) (p : Posting) (is : slice_get ps i ≡ Some p) where
  -- what is left to try at the place
  abbrev pub left_at : ℕ → Option Refusal
  left_at k = trial_from (ms ++ flat_map tried_moves (take k ps)) k (drop k ps) force

  ends_here : (x : Refusal) → tried (ms ++ flat_map tried_moves (take i ps)) force i p ≡ Some x → left_at i ≡ trial_from ms 0 ps force → trial_from ms 0 ps force ≡ Some x
  ends_here x e rest =
      sym rest
      ∙ ap (λ (l : List Posting). trial_from (ms ++ flat_map tried_moves (take i ps)) i l force) (left_here ps i p (got_below ps i p is) (got ps i p is))
      ∙ ends_at (lacks (ms ++ flat_map tried_moves (take i ps)) force p) (is_over (ms ++ flat_map tried_moves (take i ps)) p) _ _ x (trial_from ((ms ++ flat_map tried_moves (take i ps)) ++ tried_moves p) (i + 1) (drop (i + 1) ps) force) e

  -- the list ends at a posting that stops
  pub told_here : (stop : LineStop) → line_refusal i p (Some stop) ≡ tried (ms ++ flat_map tried_moves (take i ps)) force i p → left_at i ≡ trial_from ms 0 ps force
      → IsToldStop ps (stop_at i stop) (trial_from ms 0 ps force)
  told_here (line.Lack balance) e rest =
      subst (λ o. IsSomeAnd o (λ q. trial_from ms 0 ps force ≡ Some (refusal.Lack i q.source q.asset balance q.amount))) (sym is)
      (ends_here (refusal.Lack i p.source p.asset balance p.amount) (sym e) rest)
  told_here line.Limit e rest = ends_here (refusal.Limit i) (sym e) rest

  -- and goes on after one that comes to nothing
  pub goes_here : None ≡ tried (ms ++ flat_map tried_moves (take i ps)) force i p → left_at i ≡ trial_from ms 0 ps force → left_at (i + 1) ≡ trial_from ms 0 ps force
  goes_here e rest =
      ap (λ (l : List Placed). trial_from l (i + 1) (drop (i + 1) ps) force) (sym (next_moves ms ps i p (got_below ps i p is) (got ps i p is)))
      ∙ sym (goes_on (lacks (ms ++ flat_map tried_moves (take i ps)) force p) (is_over (ms ++ flat_map tried_moves (take i ps)) p) _ _ (trial_from ((ms ++ flat_map tried_moves (take i ps)) ++ tried_moves p) (i + 1) (drop (i + 1) ps) force) (sym e))
      ∙ ap (λ (l : List Posting). trial_from (ms ++ flat_map tried_moves (take i ps)) i l force) (sym (left_here ps i p (got_below ps i p is) (got ps i p is)))
      ∙ rest

-- with force nothing lacks funds, so the limit alone decides
pub limit_alone : (ms : List Placed) (k : ℕ) (ps : List Posting) → trial_from ms k ps true ≡ limit_from ms k ps
limit_alone ms k [] = refl
limit_alone ms k (p ∷ ps) = ap (λ o. cond (is_over ms p) (Some (refusal.Limit k)) o) (limit_alone (ms ++ tried_moves p) (k + 1) ps)

some_first : (o b : Option Refusal) (x : Refusal) → o ≡ Some x → or_else o b ≡ Some x
some_first None b x e = cc
some_first (Some y) b x e = e

some_lack : (found : Option Posting) (o b : Option Refusal) (f : Posting → Refusal) → IsSomeAnd found (λ p. o ≡ Some (f p)) → IsSomeAnd found (λ p. or_else o b ≡ Some (f p))
some_lack None o b f h = absurd h
some_lack (Some p) o b f h = some_first o b (f p) h

-- a stop of what is tried first is one of the whole
pub told_first : (ps : List Posting) (stop : SheetStop) (o b : Option Refusal) → IsToldStop ps stop o → IsToldStop ps stop (or_else o b)
told_first ps (Lack place balance) o b h = some_lack (slice_get ps place) o b (λ p. refusal.Lack place p.source p.asset balance p.amount) h
told_first ps (Below account asset balance) o b h = some_first o b (refusal.Below account asset balance) h
told_first ps (Limit place) o b h = some_first o b (refusal.Limit place) h
told_first ps NoMemory o b h = tt

module _ (ms : List Placed) (ps : List Posting) (i : ℕ) (p : Posting) (is : slice_get ps i ≡ Some p) where
  below_first : (b : Bool) (x : Refusal) (rest : Option Refusal) → b ≡ true → Some x ≡ cond b (Some x) rest
  below_first true x rest e = refl
  below_first false x rest e = cc

  -- a source below zero ends the search
  pub below_here : is_below ms p ≡ true → below_in ms (drop i ps) ≡ below_in ms ps → Some (refusal.Below p.source p.asset (source_balance ms p)) ≡ below_in ms ps
  below_here e rest =
      below_first (is_below ms p) (refusal.Below p.source p.asset (source_balance ms p)) (below_in ms (drop (i + 1) ps)) e
      ∙ ap (below_in ms) (sym (left_here ps i p (got_below ps i p is) (got ps i p is)))
      ∙ rest

  pub not_below_here : is_below ms p ≡ false → below_in ms (drop i ps) ≡ below_in ms ps → below_in ms (drop (i + 1) ps) ≡ below_in ms ps
  not_below_here e rest =
      ap (λ b. cond b (Some (refusal.Below p.source p.asset (source_balance ms p))) (below_in ms (drop (i + 1) ps))) (sym e)
      ∙ ap (below_in ms) (sym (left_here ps i p (got_below ps i p is) (got ps i p is)))
      ∙ rest

-- ---- the trial of a revert

pub told_limit : (ms : List Placed) (ps : List Posting) (stop : SheetStop) (force : Bool) → IsToldStop ps stop (trial_from ms 0 ps true) → IsToldStop ps stop (revert_trial_from ms ps force)
told_limit ms ps stop force h = told_first ps stop (limit_from ms 0 ps) (balances_from ms ps force) (subst (IsToldStop ps stop) (limit_alone ms 0 ps) h)

pub forced_revert : (ms : List Placed) (ps : List Posting) (force : Bool) → trial_from ms 0 ps true ≡ None → force ≡ true → revert_trial_from ms ps force ≡ None
forced_revert ms ps force h e =
    ap (λ o. or_else o (balances_from ms ps force)) (sym (limit_alone ms 0 ps) ∙ h)
    ∙ ap (balances_from ms ps) e

pub whole_revert : (ms : List Placed) (ps : List Posting) (force : Bool) → trial_from ms 0 ps true ≡ None → force ≡ false → revert_trial_from ms ps force ≡ below_in (ms ++ flat_map tried_moves ps) ps
whole_revert ms ps force h e =
    ap (λ o. or_else o (balances_from ms ps force)) (sym (limit_alone ms 0 ps) ∙ h)
    ∙ ap (balances_from ms ps) e

-- the stop of a posting of the list, and of one that doesn't lack funds
pub lack_below : (place count : ℕ) (stop : LineStop) → place < count → IsLackBelow count (stop_at place stop)
lack_below place count (line.Lack balance) below = below
lack_below place count line.Limit below = tt

pub no_lack : (place : ℕ) (stop : LineStop) → IsLineLimit stop → IsNoLack (stop_at place stop)
no_lack place (line.Lack balance) h = absurd h
no_lack place line.Limit h = tt
