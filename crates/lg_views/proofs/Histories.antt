-- Every log of a legal history is faultless, and a history of one thread is legal.
use Rattle.std.proofs.Common.{◌≡◌, ◌⊎◌, inl, inr, ℕ, zero, suc, ◌+◌, ◌-◌, ◌<◌, ◌≤◌, Bool, true, false, List, [], ◌∷◌, ◌++◌, length, take, drop, refl, sym, ap, subst, ◌∙◌, arith}
use Rattle.std.specs.Prelude.{nat_le, nat_lt, if◌then◌else◌}
use Rattle.std.specs.List.{AllByRecursion, AllZip}
use Rattle.std.proofs.Math.Seq.{take-append-add, take-length}
use Rattle.std.proofs.lemmas.List.{take-append-drop, length-take-le, append-nil}
use Rattle.std.proofs.lemmas.Bool.Decides.{nat_tests}
use Rattle.lg_types.specs.declared.records.Event.{Event}
use Rattle.lg_types.specs.Lists.{Each, ZipPairs}
use Rattle.lg_types.specs.Log.{log, first_events}
use Rattle.lg_types.specs.Records.{IsEntry}
use Rattle.lg_types.proofs.Eachs.{each-map}
use Rattle.lg_views.specs.declared.answers.Answer.{Answer}
use Rattle.lg_views.specs.declared.lines.ScriptLine.{ScriptLine}
use Rattle.lg_views.specs.Import.{FollowsFrom}
use Rattle.lg_views.specs.History.{Answered, Legal, AloneFrom, end_of, owned, owners, has_place, InTurn, AfterPhase, Apart, IsAnswerTo}
use Rattle.lg_views.specs.Laws.{IsFaultlessLine, IsGoodLine, AllFaultless, AllWellMade, LegalLogsFaultless, LegalLogsWellMade, AloneIsLegal}
use Rattle.lg_views.specs.Outcome.{outcome}
use Rattle.lg_views.proofs.Follows.{follows-front}
use Rattle.lg_views.proofs.MadeLogs.{outcomes_keep_entries}
use Rattle.lg_views.proofs.Outcomes.{log-append, outcomes_keep_logs}
use Rattle.lg_views.proofs.WellMade.{all-front}

-- a list taken in two steps
pub take-add : {A : Type 0} (n m : ℕ) (xs : List A) → n ≤ length xs → take (n + m) xs ≡ take n xs ++ take m (drop n xs)
take-add n m xs h =
    let whole : take n xs ++ drop n xs ≡ xs = take-append-drop n xs in
    let long : length (take n xs) ≡ n = length-take-le n xs h in
    sym (ap (take (n + m)) whole)
    ∙ ap (λ k. take (k + m) (take n xs ++ drop n xs)) (sym long)
    ∙ take-append-add (take n xs) (drop n xs) m

-- a place lies in a range, or the range doesn't own it
in_range : (f m p : ℕ) → ((f ≤ p) × (p < f + m)) ⊎ (has_place f m p ≡ 0)
in_range f m p = by_first (nat_le f p) refl
  where
    by_second : (b : Bool) → f ≤ p → nat_lt p (f + m) ≡ b → ((f ≤ p) × (p < f + m)) ⊎ (◌≡◌ {A = ℕ} (if b then 1 else 0) 0)
    by_second true low h = inl (low, grind (arith, nat_tests, h))
    by_second false low h = inr refl

    by_first : (b : Bool) → nat_le f p ≡ b → ((f ≤ p) × (p < f + m)) ⊎ (◌≡◌ {A = ℕ} (if b then (if nat_lt p (f + m) then 1 else 0) else 0) 0)
    by_first true h = by_second (nat_lt p (f + m)) (grind (arith, nat_tests, h)) refl
    by_first false h = inr refl

-- what holds of the first event, goes over to fronts and is kept by the outcome of every good line, holds of each legal history
module _ (P : List Event → Type 0) (IsGood : ScriptLine → Type 0) (most : ℕ)
    (front : (xs rest : List Event) → P (xs ++ rest) → P xs) (first : P first_events)
    (next : (xs : List Event) (l : ScriptLine) → IsGood l → length (xs ++ (outcome xs l.call l.moment).1) ≤ most → P xs → P (xs ++ (outcome xs l.call l.moment).1)) where
  -- the answer that owns a place, with its line
  record Owner (events : List Event) (place : ℕ) : Type 0 where
    line : ScriptLine
    answer : Answer
    good : IsGood line
    answered : Answered events line answer
    low : answer.front ≤ place
    high : place < end_of answer

  owner_of : (events : List Event) (place : ℕ) (lines : List ScriptLine) (answers : List Answer) → Each IsGood lines → AllZip (Answered events) lines answers → owners place answers ≡ 1 → Owner events place
  owner_of events place [] [] good h o = absurd (omega (arith, o))
  owner_of events place [] (a ∷ answers) good h o = absurd h
  owner_of events place (l ∷ lines) [] good h o = absurd h
  owner_of events place (l ∷ lines) (a ∷ answers) good h o = by_range (in_range a.front a.events place) (owner_of events place lines answers good.1 h.1)
    where
      by_range : ((a.front ≤ place) × (place < end_of a)) ⊎ (has_place a.front a.events place ≡ 0) → (owners place answers ≡ 1 → Owner events place) → Owner events place
      by_range (inl r) later = record { line = l; answer = a; good = good.0; answered = h.0; low = r.0; high = r.1 }
      by_range (inr none) later = later (omega (arith, o, none))

  -- the events of an answer that owns a place are those of its call's outcome
  grown : (events : List Event) (w : ℕ) (o : Owner events w) → length events ≤ most → P (take o.answer.front events) → P (take (end_of o.answer) events)
  grown events w o few h =
      let a : Answer = o.answer in
      let within : end_of a ≤ length events = o.answered.within in
      let before : a.front ≤ length events = omega (arith, within) in
      let whole : take (end_of a) events ≡ take a.front events ++ owned events a = take-add a.front a.events events before in
      let long : length (take (end_of a) events) ≡ end_of a = length-take-le (end_of a) events within in
      let short : length (take a.front events ++ owned events a) ≤ most = subst (λ l. length l ≤ most) whole (omega (arith, long, within, few)) in
      subst P (sym whole) (by_reply o.answered.reply short)
    where
      by_reply : IsAnswerTo (take o.answer.front events) o.line.call o.line.moment o.answer.reply (owned events o.answer) → length (take o.answer.front events ++ owned events o.answer) ≤ most
          → P (take o.answer.front events ++ owned events o.answer)
      by_reply (inl e) short =
          let same : owned events o.answer ≡ (outcome (take o.answer.front events) o.line.call o.line.moment).1 = ap (λ pair. pair.1) e in
          subst (λ own. P (take o.answer.front events ++ own)) (sym same) (next (take o.answer.front events) o.line o.good (subst (λ own. length (take o.answer.front events ++ own) ≤ most) same short) h)
      by_reply (inr e) short = subst P (sym (ap (λ own. take o.answer.front events ++ own) e.1 ∙ append-nil (take o.answer.front events))) h

  -- a front of the list, by the fronts that are shorter
  one_more : (events : List Event) (lines : List ScriptLine) (answers : List Answer) → Each IsGood lines → Legal events lines answers → length events ≤ most → (n : ℕ) → 1 ≤ n → n < length events
      → ((m : ℕ) → m ≤ n → P (take m events)) → P (take (n + 1) events)
  one_more events lines answers good legal few n low high before =
      let o : Owner events n = owner_of events n lines answers good legal.answered.each (legal.shared.owned_once n low high) in
      let end : P (take (end_of o.answer) events) = grown events n o few (before o.answer.front o.low) in
      let more : ℕ = end_of o.answer - (n + 1) in
      let same : end_of o.answer ≡ n + 1 + more = omega (arith, o.high) in
      front (take (n + 1) events) (take more (drop (n + 1) events)) (subst P (ap (λ k. take k events) same ∙ take-add (n + 1) more events (omega (arith, high))) end)

  sized : (events : List Event) (lines : List ScriptLine) (answers : List Answer) → Each IsGood lines → Legal events lines answers → length events ≤ most → (n m : ℕ) → m ≤ n + 1 → n + 1 ≤ length events
      → ((k : ℕ) → k ≤ n → P (take k events)) → P (take m events)
  sized events lines answers good legal few n m h within before = by_size (nat_le m n) refl
    where
      one : m ≡ 1 → P (take m events)
      one z = subst P (sym (ap (take m) legal.answered.first.1 ∙ ap (λ k. take k (first_events ++ legal.answered.first.0)) z)) first

      last : m ≡ n + 1 → (b : Bool) → nat_le 1 n ≡ b → P (take m events)
      last e true t = subst (λ k. P (take k events)) (sym e) (one_more events lines answers good legal few n (grind (arith, nat_tests, t)) (omega (arith, within)) before)
      last e false t = one (grind (arith, nat_tests, t, e))

      by_size : (b : Bool) → nat_le m n ≡ b → P (take m events)
      by_size true t = before m (grind (arith, nat_tests, t))
      by_size false t = last (grind (arith, nat_tests, t, h)) (nat_le 1 n) refl

  fronts : (events : List Event) (lines : List ScriptLine) (answers : List Answer) → Each IsGood lines → Legal events lines answers → length events ≤ most → (n m : ℕ) → m ≤ n → n ≤ length events → P (take m events)
  fronts events lines answers good legal few zero m h within = subst (λ k. P (take k events)) (let e : 0 ≡ m = omega (arith, h) in e) (front [] first_events first)
  fronts events lines answers good legal few (suc n) m h within =
      sized events lines answers good legal few n m (omega (arith, h)) (omega (arith, within)) (λ k le. fronts events lines answers good legal few n k le (omega (arith, within)))

  pub legal-holds : (events : List Event) (lines : List ScriptLine) (answers : List Answer) → Each IsGood lines → Legal events lines answers → length events ≤ most → P events
  legal-holds events lines answers good legal few = subst P (take-length events) (fronts events lines answers good legal few (length events) (length events) (omega arith) (omega arith))

-- what holds of the logs of a list holds of those of its front
faultless-front : (xs rest : List Event) → AllFaultless (xs ++ rest) → AllFaultless xs
faultless-front xs rest h = record { each = λ ledger. record { follows = follows-front [] (log xs ledger) (log rest ledger) (subst (FollowsFrom []) (log-append xs rest ledger) (h.each ledger).follows) } }

made-front : (xs rest : List Event) → AllWellMade (xs ++ rest) → AllWellMade xs
made-front xs rest h = record { each = λ ledger. all-front IsEntry (log xs ledger) (log rest ledger) (subst (AllByRecursion IsEntry) (log-append xs rest ledger) (h.each ledger)) }

-- the first event makes a ledger, so no log has entries
first-faultless : AllFaultless first_events
first-faultless = record { each = λ ledger. record { follows = tt } }

first-made : AllWellMade first_events
first-made = record { each = λ ledger. tt }

pub legal_logs_faultless : LegalLogsFaultless
legal_logs_faultless events lines answers good legal =
    legal-holds AllFaultless IsFaultlessLine (length events) faultless-front first-faultless (λ xs l ok few h. outcomes_keep_logs xs l.call l.moment ok h) events lines answers good legal (omega arith)

pub legal_logs_well_made : LegalLogsWellMade
legal_logs_well_made events lines answers good legal room =
    legal-holds AllWellMade IsGoodLine (length events) made-front first-made (λ xs l ok few h. outcomes_keep_entries xs l.call l.moment ok (omega (arith, few, room)) h) events lines answers good legal (omega arith)

-- ---- one thread

-- in a history of one thread what comes later begins no earlier
later : (events : List Event) (n : ℕ) (lines : List ScriptLine) (answers : List Answer) → AloneFrom events n lines answers → Each (λ b. n ≤ b.front) answers × (n ≤ length events)
later events n [] [] h = (tt, omega (arith, h))
later events n [] (a ∷ answers) h = absurd h
later events n (l ∷ lines) [] h = absurd h
later events n (l ∷ lines) (a ∷ answers) h =
    let rest = later events (end_of a) lines answers h.3 in
    let first : n ≤ a.front = omega (arith, h.0) in
    let far : n ≤ length events = omega (arith, h.0, h.1) in
    ((first, each-map (λ b le. let x : n ≤ b.front = omega (arith, h.0, le) in x) answers rest.0), far)

alone-answered : (events : List Event) (n : ℕ) (lines : List ScriptLine) (answers : List Answer) → 1 ≤ n → AloneFrom events n lines answers → AllZip (Answered events) lines answers
alone-answered events n [] [] one h = tt
alone-answered events n [] (a ∷ answers) one h = absurd h
alone-answered events n (l ∷ lines) [] one h = absurd h
alone-answered events n (l ∷ lines) (a ∷ answers) one h =
    (record { behind = omega (arith, one, h.0); within = h.1; reply = h.2 }, alone-answered events (end_of a) lines answers (omega (arith, one, h.0)) h.3)

-- a fact of two answers that one being done before the other begins gives
zip_later : (R : ScriptLine → Answer → Type 0) (n : ℕ) (lines : List ScriptLine) (answers : List Answer) → ((l : ScriptLine) (b : Answer) → n ≤ b.front → R l b) → (events : List Event) (m : ℕ) → AloneFrom events m lines answers → Each (λ b. n ≤ b.front) answers → AllZip R lines answers
zip_later R n [] [] f events m h k = tt
zip_later R n [] (a ∷ answers) f events m h k = absurd h
zip_later R n (l ∷ lines) [] f events m h k = absurd h
zip_later R n (l ∷ lines) (a ∷ answers) f events m h k = (f l a k.0, zip_later R n lines answers f events (end_of a) h.3 k.1)

alone-pairs : (R : ScriptLine → Answer → ScriptLine → Answer → Type 0) → ((l : ScriptLine) (a : Answer) (m : ScriptLine) (b : Answer) → end_of a ≤ b.front → R l a m b)
    → (events : List Event) (n : ℕ) (lines : List ScriptLine) (answers : List Answer) → AloneFrom events n lines answers → ZipPairs R lines answers
alone-pairs R f events n [] answers h = tt
alone-pairs R f events n (l ∷ lines) [] h = tt
alone-pairs R f events n (l ∷ lines) (a ∷ answers) h =
    (zip_later (R l a) (end_of a) lines answers (λ m b le. f l a m b le) events (end_of a) h.3 (later events (end_of a) lines answers h.3).0, alone-pairs R f events (end_of a) lines answers h.3)

-- a place before the range isn't in it, and one in it is
before_range : (f m p : ℕ) → p < f → has_place f m p ≡ 0
before_range f m p h = ap (λ b. if b then (if nat_lt p (f + m) then 1 else 0) else 0) (let e : nat_le f p ≡ false = grind (arith, nat_tests, h) in e)

within_range : (f m p : ℕ) → f ≤ p → p < f + m → has_place f m p ≡ 1
within_range f m p h k =
    ap (λ b. if b then (if nat_lt p (f + m) then 1 else 0) else 0) (let e : nat_le f p ≡ true = grind (arith, nat_tests, h) in e)
    ∙ ap (λ b. if b then 1 else 0) (let e : nat_lt p (f + m) ≡ true = grind (arith, nat_tests, k) in e)

after_range : (f m p : ℕ) → f + m ≤ p → has_place f m p ≡ 0
after_range f m p h =
    ap (λ b. if b then (if nat_lt p (f + m) then 1 else 0) else 0) (let e : nat_le f p ≡ true = grind (arith, nat_tests, h) in e)
    ∙ ap (λ b. if b then 1 else 0) (let e : nat_lt p (f + m) ≡ false = grind (arith, nat_tests, h) in e)

unowned : (events : List Event) (n : ℕ) (lines : List ScriptLine) (answers : List Answer) → AloneFrom events n lines answers → (p : ℕ) → p < n → owners p answers ≡ 0
unowned events n [] [] h p lt = refl
unowned events n [] (a ∷ answers) h p lt = absurd h
unowned events n (l ∷ lines) [] h p lt = absurd h
unowned events n (l ∷ lines) (a ∷ answers) h p lt =
    let first = before_range a.front a.events p (omega (arith, h.0, lt)) in
    let rest = unowned events (end_of a) lines answers h.3 p (omega (arith, h.0, lt)) in
    omega (arith, first, rest)

owned-once : (events : List Event) (n : ℕ) (lines : List ScriptLine) (answers : List Answer) → AloneFrom events n lines answers → (p : ℕ) → n ≤ p → p < length events → owners p answers ≡ 1
owned-once events n [] [] h p low high = absurd (omega (arith, h, low, high))
owned-once events n [] (a ∷ answers) h p low high = absurd h
owned-once events n (l ∷ lines) [] h p low high = absurd h
owned-once events n (l ∷ lines) (a ∷ answers) h p low high = by_place (nat_lt p (end_of a)) refl (owned-once events (end_of a) lines answers h.3 p)
  where
    by_place : (b : Bool) → nat_lt p (end_of a) ≡ b → (end_of a ≤ p → p < length events → owners p answers ≡ 1) → has_place a.front a.events p + owners p answers ≡ 1
    by_place true t k =
        let below : p < end_of a = grind (arith, nat_tests, t) in
        let here = within_range a.front a.events p (omega (arith, h.0, low)) below in
        let rest = unowned events (end_of a) lines answers h.3 p below in
        omega (arith, here, rest)
    by_place false t k =
        let above : end_of a ≤ p = grind (arith, nat_tests, t) in
        let here = after_range a.front a.events p above in
        let rest = k above high in
        omega (arith, here, rest)

each-both : {A : Type 0} {P Q R : A → Type 0} (f : (x : A) → P x → Q x → R x) (xs : List A) → Each P xs → Each Q xs → Each R xs
each-both f [] h k = tt
each-both f (x ∷ xs) h k = (f x h.0 k.0, each-both f xs h.1 k.1)

alone-apart : (events : List Event) (n : ℕ) (lines : List ScriptLine) (answers : List Answer) → AloneFrom events n lines answers → Each (λ a. Each (Apart a) answers) answers
alone-apart events n [] [] h = tt
alone-apart events n [] (a ∷ answers) h = absurd h
alone-apart events n (l ∷ lines) [] h = absurd h
alone-apart events n (l ∷ lines) (a ∷ answers) h =
    let ends = (later events (end_of a) lines answers h.3).0 in (
      (λ lt. absurd (omega (arith, lt)), each-map (λ b le lt. le) answers ends),
      each-both (λ b le rest. ((λ lt. absurd (omega (arith, le, lt))), rest)) answers ends (alone-apart events (end_of a) lines answers h.3),
    )

pub alone_is_legal : AloneIsLegal
alone_is_legal events lines answers h = record {
  answered = record {
    first = h.first;
    each = alone-answered events 1 lines answers (omega arith) h.from;
    callers = alone-pairs InTurn (λ l a m b le same. le) events 1 lines answers h.from;
  };
  shared = record {
    phases = alone-pairs AfterPhase (λ l a m b le less. le) events 1 lines answers h.from;
    owned_once = owned-once events 1 lines answers h.from;
    apart = alone-apart events 1 lines answers h.from;
  };
}
