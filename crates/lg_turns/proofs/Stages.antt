-- How far a walk over the held stripes has come.
use Rattle.std.specs.Prelude.{nat_le, nat_lt, Result, Ok, Err, MatchResult}
use Rattle.std.proofs.Common.{◌≡◌, ℕ, ◌+◌, ◌<◌, ◌≤◌, ◌≢◌, Bool, true, false, ◌&&◌, List, ◌++◌, length, refl, sym, ap, subst, ◌∙◌, length-append, arith}
use Rattle.std.proofs.lemmas.Bool.Decides.{nat_tests}
use mathlib.Core.Logic.{dite}
use native.Mathlib.Decide.{ℕ_discrete, dec_le}
use Rattle.lg_types.specs.declared.records.Event.{Event}
use Rattle.lg_types.specs.declared.marks.Marked.{Marked}
use Rattle.lg_types.specs.Marked.{events_of}
use Rattle.lg_types.specs.Parts.{Share, part_of, untouched}
use Rattle.lg_types.proofs.MarkedLists.{events_length}
use Rattle.lg_types.proofs.Shares.{part-quiet}
use Rattle.lg_turns.specs.Rows.{Ready, Stripe, Refreshing, Staged, Applied, Applying}

module _ {log : List Marked} {k stripe : ℕ} {prepared : Bool} {stamp known : ℕ} {shares : List Share} where
  pub refreshing-start : Ready k stripe prepared stamp known → Refreshing 0 log k stripe prepared stamp known shares
  refreshing-start r = record { before = λ lt. absurd (omega arith); after = λ _. r }

  pub refreshing-else : {i : ℕ} → k ≢ i → Refreshing i log k stripe prepared stamp known shares → Refreshing (i + 1) log k stripe prepared stamp known shares
  refreshing-else n h = record { before = λ lt. h.before (omega arith); after = λ le. h.after (omega arith) }

  pub refreshing-here : stripe ≡ k → prepared ≡ false → known ≡ length log → shares ≡ part_of stripe (events_of log) → Refreshing (k + 1) log k stripe prepared stamp known shares
  refreshing-here s p n e = record {
    before = λ _. record { stripe_is = s; known_fits = omega arith; shares_is = e ∙ ap (λ j. part_of j (events_of log)) s; unprepared = λ _. p };
    after = λ le. absurd (omega arith);
  }

  pub refreshing-done : {i : ℕ} → k < i → Refreshing i log k stripe prepared stamp known shares → Stripe false log k stripe known prepared shares
  refreshing-done lt h = h.before lt

-- the flags of a window of places
le-yes : (lo k : ℕ) → lo ≤ k → nat_le lo k ≡ true
le-yes lo k h = grind (arith, nat_tests)

le-not : (lo k : ℕ) → k < lo → nat_le lo k ≡ false
le-not lo k h = grind (arith, nat_tests)

lt-yes : (k hi : ℕ) → k < hi → nat_lt k hi ≡ true
lt-yes k hi h = grind (arith, nat_tests)

lt-not : (k hi : ℕ) → hi ≤ k → nat_lt k hi ≡ false
lt-not k hi h = grind (arith, nat_tests)

and-false : (a : Bool) → (a && false) ≡ false
and-false true = refl
and-false false = refl

window-in : (lo hi k : ℕ) (t : Bool) → lo ≤ k → k < hi → (nat_le lo k && (nat_lt k hi && t)) ≡ t
window-in lo hi k t h h' = rw (le-yes lo k h, lt-yes k hi h') refl

window-below : (lo hi k : ℕ) (t : Bool) → k < lo → (nat_le lo k && (nat_lt k hi && t)) ≡ false
window-below lo hi k t h = rw (le-not lo k h) refl

window-above : (lo hi k : ℕ) (t : Bool) → hi ≤ k → (nat_le lo k && (nat_lt k hi && t)) ≡ false
window-above lo hi k t h = rw (lt-not k hi h) (and-false (nat_le lo k))

window-none : (lo hi k : ℕ) (t : Bool) → t ≡ false → (nat_le lo k && (nat_lt k hi && t)) ≡ false
window-none lo hi k t h = ap (λ b. nat_le lo k && (nat_lt k hi && b)) h ∙ ap (λ b. nat_le lo k && b) (and-false (nat_lt k hi)) ∙ and-false (nat_le lo k)

lt-more : (k i : ℕ) → k ≢ i → nat_lt k i ≡ nat_lt k (i + 1)
lt-more k i n = by (dec_le i k)
  where
    by : Dec (i ≤ k) → nat_lt k i ≡ nat_lt k (i + 1)
    by (yes h) = let g : i + 1 ≤ k = omega arith in lt-not k i h ∙ sym (lt-not k (i + 1) g)
    by (no h) = let g : k < i = omega arith in let g' : k < i + 1 = omega arith in lt-yes k i g ∙ sym (lt-yes k (i + 1) g')

le-more : (i k : ℕ) → k ≢ i → nat_le i k ≡ nat_le (i + 1) k
le-more i k n = by (dec_le i k)
  where
    by : Dec (i ≤ k) → nat_le i k ≡ nat_le (i + 1) k
    by (yes h) = let g : i + 1 ≤ k = omega arith in le-yes i k h ∙ sym (le-yes (i + 1) k g)
    by (no h) = let g : k < i = omega arith in let g' : k < i + 1 = omega arith in le-not i k g ∙ sym (le-not (i + 1) k g')

module _ {log : List Marked} {k stripe known : ℕ} {prepared : Bool} {shares : List Share} where
  pub staged-start : {touched : ℕ → Bool} {on : Type 0} → Stripe false log k stripe known prepared shares → Staged 0 0 touched log k stripe known prepared shares on
  staged-start {touched = touched} h = record {
    stripe_is = h.stripe_is;
    known_fits = h.known_fits;
    shares_is = h.shares_is;
    flag = h.unprepared refl ∙ sym (window-above 0 0 k (touched k) (omega arith));
    ready = λ lo hi t. absurd (omega arith);
  }

  -- the same stage, where what is known of the change is the same
  pub staged-same : {lo hi : ℕ} {touched touched' : ℕ → Bool} {on on' : Type 0} → touched' ≡ touched → (on → on') → Staged lo hi touched log k stripe known prepared shares on → Staged lo hi touched' log k stripe known prepared shares on'
  staged-same {lo = lo} {hi = hi} e f h = record {
    stripe_is = h.stripe_is;
    known_fits = h.known_fits;
    shares_is = h.shares_is;
    flag = h.flag ∙ ap (λ (t : ℕ → Bool). nat_le lo k && (nat_lt k hi && t k)) (sym e);
    ready = λ a b t. f (h.ready a b (ap (λ (t : ℕ → Bool). t k) (sym e) ∙ t));
  }

  pub staged-more : {lo i : ℕ} {touched touched' : ℕ → Bool} {on on' : Type 0} → k ≢ i → touched' ≡ touched → (on → on') → Staged lo i touched log k stripe known prepared shares on → Staged lo (i + 1) touched' log k stripe known prepared shares on'
  staged-more {lo = lo} {i = i} {touched = touched} {touched' = touched'} n e f h = record {
    stripe_is = h.stripe_is;
    known_fits = h.known_fits;
    shares_is = h.shares_is;
    flag = h.flag ∙ ap (λ (t : ℕ → Bool). nat_le lo k && (nat_lt k i && t k)) (sym e) ∙ ap (λ b. nat_le lo k && (b && touched' k)) (lt-more k i n);
    ready = λ a b t. f (h.ready a (omega arith) (ap (λ (t : ℕ → Bool). t k) (sym e) ∙ t));
  }

  pub staged-skip : {lo i : ℕ} {touched : ℕ → Bool} {on : Type 0} → touched i ≡ false → Staged lo i touched log k stripe known prepared shares on → Staged lo (i + 1) touched log k stripe known prepared shares on
  staged-skip {lo = lo} {i = i} {touched = touched} none h = dite (ℕ_discrete k i)
      (λ same. let none' : touched k ≡ false = ap touched same ∙ none in record {
        stripe_is = h.stripe_is;
        known_fits = h.known_fits;
        shares_is = h.shares_is;
        flag = h.flag ∙ window-none lo i k (touched k) none' ∙ sym (window-none lo (i + 1) k (touched k) none');
        ready = λ a b t. absurd (let q : true ≡ false = sym t ∙ none' in cc);
      })
      (λ n. staged-more n refl (λ o. o) h)

  pub staged-new : {touched : ℕ → Bool} {on : Type 0} → stripe ≡ k → known ≤ length log → shares ≡ part_of k (events_of log) → prepared ≡ true → touched k ≡ true → on → Staged 0 (k + 1) touched log k stripe known prepared shares on
  staged-new {touched = touched} s n e p t o = record {
    stripe_is = s;
    known_fits = n;
    shares_is = e;
    flag = p ∙ sym t ∙ sym (window-in 0 (k + 1) k (touched k) (omega arith) (omega arith));
    ready = λ _ _ _. o;
  }

  pub staged-failed : {touched : ℕ → Bool} {on : Type 0} → stripe ≡ k → known ≤ length log → shares ≡ part_of k (events_of log) → prepared ≡ false → Staged 0 k touched log k stripe known prepared shares on
  staged-failed {touched = touched} s n e p = record {
    stripe_is = s;
    known_fits = n;
    shares_is = e;
    flag = p ∙ sym (window-above 0 k k (touched k) (omega arith));
    ready = λ a b t. absurd (omega arith);
  }

  pub staged-to : {lo hi hi' : ℕ} {touched : ℕ → Bool} {on : Type 0} → hi ≡ hi' → Staged lo hi touched log k stripe known prepared shares on → Staged lo hi' touched log k stripe known prepared shares on
  staged-to {lo = lo} {touched = touched} {on = on} e h = subst (λ n. Staged lo n touched log k stripe known prepared shares on) e h

  pub forgotten-else : {i hi : ℕ} {touched : ℕ → Bool} {on : Type 0} → k ≢ i → Staged i hi touched log k stripe known prepared shares on → Staged (i + 1) hi touched log k stripe known prepared shares on
  forgotten-else {i = i} {hi = hi} {touched = touched} n h = record {
    stripe_is = h.stripe_is;
    known_fits = h.known_fits;
    shares_is = h.shares_is;
    flag = h.flag ∙ ap (λ b. b && (nat_lt k hi && touched k)) (le-more i k n);
    ready = λ a b t. h.ready (omega arith) b t;
  }

  pub forgotten-here : {hi : ℕ} {touched : ℕ → Bool} {on : Type 0} → stripe ≡ k → known ≤ length log → shares ≡ part_of k (events_of log) → prepared ≡ false → Staged (k + 1) hi touched log k stripe known prepared shares on
  forgotten-here {hi = hi} {touched = touched} s n e p = record {
    stripe_is = s;
    known_fits = n;
    shares_is = e;
    flag = p ∙ sym (window-below (k + 1) hi k (touched k) (omega arith));
    ready = λ a b t. absurd (omega arith);
  }

  pub forgotten-skip : {i hi : ℕ} {touched : ℕ → Bool} {on : Type 0} → touched i ≡ false → Staged i hi touched log k stripe known prepared shares on → Staged (i + 1) hi touched log k stripe known prepared shares on
  forgotten-skip {i = i} {hi = hi} {touched = touched} none h = dite (ℕ_discrete k i)
      (λ same. let none' : touched k ≡ false = ap touched same ∙ none in record {
        stripe_is = h.stripe_is;
        known_fits = h.known_fits;
        shares_is = h.shares_is;
        flag = h.flag ∙ window-none i hi k (touched k) none' ∙ sym (window-none (i + 1) hi k (touched k) none');
        ready = λ a b t. absurd (let q : true ≡ false = sym t ∙ none' in cc);
      })
      (λ n. forgotten-else n h)

  pub forgotten-done : {lo hi : ℕ} {touched : ℕ → Bool} {on : Type 0} → hi ≤ lo → Staged lo hi touched log k stripe known prepared shares on → Stripe false log k stripe known prepared shares
  forgotten-done {lo = lo} {hi = hi} {touched = touched} le h = record {
    stripe_is = h.stripe_is;
    known_fits = h.known_fits;
    shares_is = h.shares_is;
    unprepared = λ _. h.flag ∙ by (dec_le hi k);
  }
    where
      by : Dec (hi ≤ k) → (nat_le lo k && (nat_lt k hi && touched k)) ≡ false
      by (yes g) = window-above lo hi k (touched k) g
      by (no g) = let g' : k < lo = omega arith in window-below lo hi k (touched k) g'

  pub applying-start : {touched : ℕ → Bool} {on : Type 0} {added : List Event} → k < 16 → Staged 0 16 touched log k stripe known prepared shares on → Applying 0 touched (events_of log) added k stripe known prepared shares on
  applying-start {touched = touched} lt h = record {
    stripe_is = h.stripe_is;
    before = λ l. absurd (omega arith);
    known_fits = λ _. let n : length (events_of log) ≡ length log = events_length log in let m : known ≤ length log = h.known_fits in omega (arith, n, m);
    shares_is = λ _. h.shares_is;
    flag = λ _. h.flag ∙ window-in 0 16 k (touched k) (omega arith) lt;
    ready = λ _ t. h.ready (omega arith) lt t;
  }

module _ {k stripe known : ℕ} {prepared : Bool} {shares : List Share} {touched : ℕ → Bool} {events added : List Event} {on : Type 0} where
  pub applying-else : {i : ℕ} → k ≢ i → Applying i touched events added k stripe known prepared shares on → Applying (i + 1) touched events added k stripe known prepared shares on
  applying-else n h = record {
    stripe_is = h.stripe_is;
    before = λ lt. h.before (omega arith);
    known_fits = λ le. h.known_fits (omega arith);
    shares_is = λ le. h.shares_is (omega arith);
    flag = λ le. h.flag (omega arith);
    ready = λ le. h.ready (omega arith);
  }

  pub applying-here : stripe ≡ k → known ≡ length (events ++ added) → shares ≡ part_of k (events ++ added) → prepared ≡ false → Applying (k + 1) touched events added k stripe known prepared shares on
  applying-here s n e p = record {
    stripe_is = s;
    before = λ _. record { stripe_is = s; known_fits = omega arith; shares_is = e; unprepared = p };
    known_fits = λ le. absurd (omega arith);
    shares_is = λ le. absurd (omega arith);
    flag = λ le. absurd (omega arith);
    ready = λ le. absurd (omega arith);
  }

  pub applying-skip : {i : ℕ} → touched i ≡ false → untouched i added ≡ true → Applying i touched events added k stripe known prepared shares on → Applying (i + 1) touched events added k stripe known prepared shares on
  applying-skip {i = i} none quiet h = dite (ℕ_discrete k i)
      (λ same.
      let le : i ≤ k = omega arith in
      let n : known ≤ length events = h.known_fits le in
      let m : length (events ++ added) ≡ length events + length added = length-append events added in
      let p : prepared ≡ false = h.flag le ∙ ap touched same ∙ none in
      let q : untouched k added ≡ true = ap (λ j. untouched j added) same ∙ quiet in record {
        stripe_is = h.stripe_is;
        before = λ _. record { stripe_is = h.stripe_is; known_fits = omega (arith, n, m); shares_is = h.shares_is le ∙ sym (part-quiet k events added q); unprepared = p };
        known_fits = λ l. absurd (omega arith);
        shares_is = λ l. absurd (omega arith);
        flag = λ l. absurd (omega arith);
        ready = λ l. absurd (omega arith);
      })
      (λ n. applying-else n h)

-- before its turn comes a stripe has nothing prepared on it
pub staged-clean : {lo k : ℕ} {touched : ℕ → Bool} {log : List Marked} {stripe known : ℕ} {prepared : Bool} {shares : List Share} {on : Type 0} → Staged lo k touched log k stripe known prepared shares on → prepared ≡ false
staged-clean {lo = lo} {k = k} {touched = touched} h = h.flag ∙ window-above lo k k (touched k) (omega arith)

pub match-both : {T E : Type 0} {P Q P' Q' : Type 0} (r : Result T E) → (P → P') → (Q → Q') → MatchResult r (λ _. P) (λ _. Q) → MatchResult r (λ _. P') (λ _. Q')
match-both (Ok x) f g h = f h
match-both (Err x) f g h = g h

pub applied-to : {events events' : List Event} {k stripe known : ℕ} {prepared : Bool} {shares : List Share} → events ≡ events' → Applied events k stripe known prepared shares → Applied events' k stripe known prepared shares
applied-to {k = k} {stripe = stripe} {known = known} {prepared = prepared} {shares = shares} e h = subst (λ (es : List Event). Applied es k stripe known prepared shares) e h

-- a stripe that was met, told of an equal list
pub stripe-to : {b b' : Bool} {log log' : List Marked} {k stripe known : ℕ} {prepared : Bool} {shares : List Share} → (b' ≡ false → b ≡ false) → log ≡ log' → Stripe b log k stripe known prepared shares → Stripe b' log' k stripe known prepared shares
stripe-to {b' = b'} {k = k} {stripe = stripe} {known = known} {prepared = prepared} {shares = shares} f e h = subst (λ (ms : List Marked). Stripe b' ms k stripe known prepared shares) e record { stripe_is = h.stripe_is; known_fits = h.known_fits; shares_is = h.shares_is; unprepared = λ q. h.unprepared (f q) }

pub stripe-of_staged : {touched : ℕ → Bool} {log log' : List Marked} {k stripe known : ℕ} {prepared : Bool} {shares : List Share} {on : Type 0} → log ≡ log' → Staged 0 16 touched log k stripe known prepared shares on → Stripe true log' k stripe known prepared shares
stripe-of_staged {k = k} {stripe = stripe} {known = known} {prepared = prepared} {shares = shares} e h = subst (λ (ms : List Marked). Stripe true ms k stripe known prepared shares) e record { stripe_is = h.stripe_is; known_fits = h.known_fits; shares_is = h.shares_is; unprepared = λ q. absurd (let f : true ≡ false = q in cc) }

pub stripe-of_applied : {events : List Event} {log : List Marked} {k stripe known : ℕ} {prepared : Bool} {shares : List Share} → events ≡ events_of log → Applied events k stripe known prepared shares → Stripe false log k stripe known prepared shares
stripe-of_applied {log = log} {k = k} {known = known} e h = record {
  stripe_is = h.stripe_is;
  known_fits = let n : known ≤ length _ = h.known_fits in let m = ap (length {A = Event}) e in omega (arith, n, m, events_length log);
  shares_is = h.shares_is ∙ ap (part_of k) e;
  unprepared = λ _. h.unprepared;
}

pub staged-of : {b : Bool} {touched : ℕ → Bool} {log log' : List Marked} {k stripe known : ℕ} {prepared : Bool} {shares : List Share} {on : Type 0} → k < 16 → (touched k ≡ true → on) → prepared ≡ touched k → log ≡ log' → Stripe b log k stripe known prepared shares → Staged 0 16 touched log' k stripe known prepared shares on
staged-of {touched = touched} {k = k} {stripe = stripe} {known = known} {prepared = prepared} {shares = shares} {on = on} lt o f e h = subst (λ (ms : List Marked). Staged 0 16 touched ms k stripe known prepared shares on) e record {
  stripe_is = h.stripe_is;
  known_fits = h.known_fits;
  shares_is = h.shares_is;
  flag = f ∙ sym (window-in 0 16 k (touched k) (omega arith) lt);
  ready = λ _ _ t. o t;
}

pub staged-flag : {touched : ℕ → Bool} {log : List Marked} {k stripe known : ℕ} {prepared : Bool} {shares : List Share} {on : Type 0} → k < 16 → Staged 0 16 touched log k stripe known prepared shares on → prepared ≡ touched k
staged-flag {touched = touched} {k = k} lt h = h.flag ∙ window-in 0 16 k (touched k) (omega arith) lt
