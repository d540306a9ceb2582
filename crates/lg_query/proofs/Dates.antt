-- The dates of a log's entries never fall.
use Rattle.std.proofs.Common.{◌≡◌, ℕ, zero, suc, ◌+◌, ◌<◌, ◌≤◌, ℤ, ◌≤ℤ◌, Bool, true, false, cond, List, [], ◌∷◌, ◌++◌, length, take, min, Some, None, slice_get, refl, sym, ap, subst, ◌∙◌, inl, inr, arith}
use Rattle.std.specs.Prelude.{◌⊎◌, int_lt, int_le, nat_lt}
use Rattle.std.proofs.lemmas.Int.{ints}
use Rattle.std.proofs.lemmas.Bool.Decides.{nat_tests}
use Rattle.std.specs.Str.{bytes_eq}
use Rattle.std.proofs.lemmas.List.{append-nil, take-append-le, take_all}
use Rattle.lg_types.specs.declared.records.Entry.{Entry}
use Rattle.lg_types.specs.declared.records.Event.{Event}
use Rattle.lg_types.specs.declared.records.Event.TheVariants.{Made, Logged}
use Rattle.lg_types.specs.Lists.{last_of}
use Rattle.lg_types.specs.Log.{log, logged}
use Rattle.lg_views.specs.Import.{is_before}
use Rattle.lg_book.specs.Following.{MayFollow, MayFollowLog, IsGrown}
use Rattle.lg_book.proofs.Lists.{snoc_cases, there_within, take-snoc, slice_get_within_length, some_same}
use Rattle.lg_book.proofs.Sound.{log-snoc, bytes_same}
use Rattle.std.specs.Prelude.{reverse}
use Rattle.std.specs.List.{filter}
use Rattle.lg_views.specs.Reads.{is_dated_to}
use Rattle.lg_accounts.specs.Dates.{NeverFall}
use Rattle.lg_query.specs.Newest.{newest_first}
use Rattle.lg_query.proofs.Numbered.{front, all-newest, all_pass}

-- each entry may follow those before it
abbrev pub Follows : List Entry → Type 0
Follows g = (k : ℕ) (e : Entry) → slice_get g k ≡ Some e → MayFollowLog (take k g) e

take-whole : {A : Type 0} (xs : List A) (x : A) (k : ℕ) → k ≡ length xs → take k (xs ++ x ∷ []) ≡ xs
take-whole xs x k h = take-append-le k xs (x ∷ []) (omega (arith, h)) ∙ take_all k xs (omega (arith, h))

follows-snoc : (g : List Entry) (e : Entry) → Follows g → MayFollowLog g e → Follows (g ++ e ∷ [])
follows-snoc g e h f k x at =
    elim (snoc_cases g e x k at) [
      | inl old ↦
          let within = slice_get_within_length g k x old in
          subst (λ l. MayFollowLog l x) (sym (take-append-le k g (e ∷ []) (omega (arith, within)))) (h k x old)
      | inr new ↦ subst (λ y. MayFollowLog (take k (g ++ e ∷ [])) y) new.1 (subst (λ l. MayFollowLog l e) (sym (take-whole g e k new.0)) f)
    ]

follows_more : (ledger : List ℕ) (events : List Event) (event : Event) → Follows (log events ledger) → MayFollow events event → Follows (log events ledger ++ logged ledger event)
follows_more ledger events (Made info) h f = subst Follows (sym (append-nil (log events ledger))) h
follows_more ledger events (Logged name e) h f = by_test (bytes_eq name ledger) refl
  where
    by_test : (b : Bool) → bytes_eq name ledger ≡ b → Follows (log events ledger ++ cond b (e ∷ []) [])
    by_test true is = follows-snoc (log events ledger) e h (subst (λ n. MayFollowLog (log events n) e) (bytes_same name ledger is) f.1)
    by_test false is = subst Follows (sym (append-nil (log events ledger))) h

follows-take : (all : List Event) → IsGrown all → (ledger : List ℕ) (k : ℕ) → k ≤ length all → Follows (log (take k all) ledger)
follows-take all h ledger zero le = λ k e at. absurd (let r : None ≡ Some e = at in cc)
follows-take all h ledger (suc k) le =
    let at = there_within k all (omega arith) in
    subst Follows (sym (ap (λ es. log es ledger) (take-snoc k all at.0 at.1) ∙ log-snoc ledger (take k all) at.0))
    (follows_more ledger (take k all) at.0 (follows-take all h ledger k (omega arith)) (h.each k at.0 at.1))

pub log_follows : (events : List Event) (ledger : List ℕ) → IsGrown events → Follows (log events ledger)
log_follows events ledger h = subst (λ es. Follows (log es ledger)) (take_all (length events) events (omega arith)) (follows-take events h ledger (length events) (omega arith))

not_less : (a b : ℤ) → int_lt a b ≡ false → b ≤ℤ a
not_less a b h = grind (arith, ints)

last-snoc : {A : Type 0} (xs : List A) (x : A) → last_of (xs ++ x ∷ []) ≡ Some x
last-snoc [] x = refl
last-snoc (y ∷ []) x = refl
last-snoc (y ∷ z ∷ xs) x = last-snoc (z ∷ xs) x

at_most : (j k : ℕ) → j ≤ suc k → (j ≤ k) ⊎ (j ≡ suc k)
at_most j k le = by_test (nat_lt k j) refl
  where
    by_test : (b : Bool) → nat_lt k j ≡ b → (j ≤ k) ⊎ (j ≡ suc k)
    by_test true t = let more : k < j = grind (arith, nat_tests, t) in inr (omega (arith, more, le))
    by_test false t = inl (grind (arith, nat_tests, t))

-- an earlier entry has no later date
pub rise : (g : List Entry) → Follows g → (k j : ℕ) (e d : Entry) → slice_get g k ≡ Some e → slice_get g j ≡ Some d → j ≤ k → d.date ≤ℤ e.date
rise g h zero j e d at before le =
    let same : j ≡ 0 = omega (arith, le) in
    let is : d ≡ e = some_same d e (sym before ∙ ap (slice_get g) same ∙ at) in
    subst (λ x. d.date ≤ℤ x.date) is (grind (arith, ints))
rise g h (suc k) j e d at before le =
    let within = slice_get_within_length g (suc k) e at in
    let last = there_within k g (omega (arith, within)) in
    let step : last.0.date ≤ℤ e.date = not_less e.date last.0.date (subst (λ o. is_before o e.date ≡ false) (ap last_of (take-snoc k g last.0 last.1) ∙ last-snoc (take k g) last.0) (h (suc k) e at).date) in
    elim (at_most j k le) [
      | inl earlier ↦ (let r : d.date ≤ℤ last.0.date = rise g h k j last.0 d last.1 before earlier in grind (arith, ints))
      | inr same ↦ (let is : d ≡ e = some_same d e (sym before ∙ ap (slice_get g) same ∙ at) in subst (λ x. d.date ≤ℤ x.date) is (grind (arith, ints)))
    ]

-- ---- the entries up to a date, by halves

pub record Halves (g : List Entry) (date : ℤ) (low high : ℕ) : Type 0 where
  pub order : low ≤ high
  pub within : high ≤ length g
  pub early : (k : ℕ) (e : Entry) → slice_get g k ≡ Some e → k < low → int_le e.date date ≡ true
  pub late : (k : ℕ) (e : Entry) → slice_get g k ≡ Some e → high ≤ k → int_le e.date date ≡ false

module _ (g : List Entry) (date : ℤ) (follows : Follows g) where
  up : (d e : Entry) → d.date ≤ℤ e.date → int_le e.date date ≡ true → int_le d.date date ≡ true
  up d e le h = grind (arith, ints, le, h)

  down : (d e : Entry) → d.date ≤ℤ e.date → int_le d.date date ≡ false → int_le e.date date ≡ false
  down d e le h = grind (arith, ints, le, h)

  pub all_left : (count : ℕ) → count ≡ length g → Halves g date 0 count
  all_left count is = record {
    order = omega arith;
    within = omega (arith, is);
    early = λ k e at less. absurd (omega (arith, less));
    late = λ k e at least. absurd (let within = slice_get_within_length g k e at in omega (arith, within, least, is));
  }

  pub raised : (low middle high : ℕ) (d : Entry) → Halves g date low high → slice_get g middle ≡ Some d → middle < high → int_le d.date date ≡ true → Halves g date (middle + 1) high
  raised low middle high d h at less is = record {
    order = omega (arith, less);
    within = h.within;
    early = λ k e there before. up e d (rise g follows middle k d e at there (omega (arith, before))) is;
    late = h.late;
  }

  pub lowered : (low middle high : ℕ) (d : Entry) → Halves g date low high → slice_get g middle ≡ Some d → low ≤ middle → middle < high → int_le d.date date ≡ false → Halves g date low middle
  lowered low middle high d h at least less is = record {
    order = least;
    within = (let w = h.within in omega (arith, w, less));
    early = h.early;
    late = λ k e there behind. down d e (rise g follows k middle e d there at behind) is;
  }

  pub halved : (low high : ℕ) → Halves g date low high → high ≤ low → (k : ℕ) (e : Entry) → slice_get g k ≡ Some e → int_le e.date date ≡ nat_lt k low
  halved low high h done k e at = by_test (nat_lt k low) refl
    where
      by_test : (b : Bool) → nat_lt k low ≡ b → int_le e.date date ≡ nat_lt k low
      by_test true t = h.early k e at (grind (arith, nat_tests, t)) ∙ sym t
      by_test false t = h.late k e at (let least : low ≤ k = grind (arith, nat_tests, t) in omega (arith, least, done)) ∙ sym t

-- the entries of the date or before are the first
pub dated_front : (g : List Entry) (date : ℤ) (count : ℕ) → ((k : ℕ) (e : Entry) → slice_get g k ≡ Some e → int_le e.date date ≡ nat_lt k count) → count ≤ length g
    → newest_first count g ≡ filter (is_dated_to (Some date)) (reverse g)
dated_front g date count holds within =
    let least : min (length g) count ≡ count = omega (arith, within) in
    ap (λ k. newest_first k g) (sym least)
    ∙ sym (front g (is_dated_to (Some date)) count holds (length g) (omega arith))
    ∙ ap (filter (is_dated_to (Some date))) (sym (all-newest g))

pub undated_front : (g : List Entry) (count : ℕ) → count ≡ length g → newest_first count g ≡ filter (is_dated_to None) (reverse g)
undated_front g count is = ap (λ k. newest_first k g) is ∙ sym (all-newest g) ∙ sym (all_pass (reverse g))

-- the dates of a book's log never fall
pub dates_rise : (events : List Event) (ledger : List ℕ) → IsGrown events → NeverFall (log events ledger)
dates_rise events ledger h j k d e first second least = rise (log events ledger) (log_follows events ledger h) k j e d second first least
