-- What is decided of a list stands for its outcome.
use Rattle.std.proofs.Common.{◌≡◌, ℕ, suc, ◌<◌, ℤ, Bool, true, false, List, [], ◌∷◌, ◌++◌, map, length, Option, refl, sym, ap, subst, ◌∙◌}
use Rattle.std.specs.Prelude.{if◌then◌else◌, nat_lt}
use Rattle.std.specs.List.{zip}
use Rattle.std.proofs.lemmas.Slice.Zip.{firsts-zip, seconds-zip}
use Rattle.std.proofs.lemmas.Bool.{eqb-true, lt-ltb}
use Rattle.std.proofs.lemmas.List.{map-append}
use Rattle.lg_types.specs.declared.calls.Call.TheVariants as call
use Rattle.lg_types.specs.declared.calls.Element.{Element}
use Rattle.lg_types.specs.declared.records.Entry.{Entry}
use Rattle.lg_types.specs.declared.records.Event.{Event}
use Rattle.lg_types.specs.declared.records.Event.TheVariants.{Made, Logged}
use Rattle.lg_types.specs.declared.refusals.Refusal.TheVariants.{NoLedger}
use Rattle.lg_types.specs.Log.{log, is_there}
use Rattle.lg_types.specs.Parts.{is_in, resources, touches}
use Rattle.lg_types.specs.Stripes.{stripe}
use Rattle.lg_views.specs.declared.replies.BulkItem.{BulkItem}
use Rattle.lg_views.specs.declared.replies.Reply.{Reply}
use Rattle.lg_views.specs.Bulk.{batched, bulk_answer, bulk_reply}
use Rattle.lg_views.specs.Outcome.{on_ledger, no_ledger, outcome}
use Rattle.lg_book.specs.declared.volumes.FirstVolumes.{FirstVolumes}
use Rattle.lg_book.specs.Index.{all_volumes}
use Rattle.lg_shard.specs.State.{StripeState}
use Rattle.lg_plan.specs.Events.{any_touches, AllPrepare}
use Rattle.lg_plan.specs.Plans.{PlanState, no_mark, with_event}
use Rattle.lg_decide.specs.declared.decisions.Decision.{Decision}
use Rattle.lg_decide.specs.declared.decisions.Decision.TheVariants as decision
use Rattle.lg_decide.specs.Decisions.{IsOutcome, IsPlanned, StandsFor}
use Rattle.lg_bulk.specs.declared.gathered.Gathered.{Gathered}
use Rattle.lg_bulk.specs.declared.gathered.Gathering.{Gathering}
use Rattle.lg_bulk.specs.declared.gathered.Gathering.TheVariants.{Failed, Complete}
use Rattle.lg_bulk.specs.Gathering.{Ground, IsGathered, IsPaired, ComesTo, list_plan, gathered_answer, gathered_decision, gathering_decision}
use Rattle.lg_bulk.proofs.GroundLemmas.{ready, entries-prepare, below-sixteen}
use Rattle.lg_bulk.proofs.ListLemmas.{any_gives}

-- ---- stripes

-- a number that is another below sixteen
same-below : (n k : ℕ) → n < 16 → n ≡ k → nat_lt k 16 ≡ true
same-below n k less same = lt-ltb k 16 (subst (λ m. m < 16) same less)

touched-below : (k : ℕ) (event : Event) → touches k event ≡ true → nat_lt k 16 ≡ true
touched-below k (Made info) touched = absurd (let f : false ≡ true = touched in cc)
touched-below k (Logged ledger e) touched =
    any_gives (is_in k ledger) (nat_lt k 16 ≡ true) (resources e)
    (λ r is. same-below (stripe r.class ledger r.name) k (below-sixteen r.class ledger r.name) (eqb-true (stripe r.class ledger r.name) k is)) touched

all-below : (k : ℕ) (events : List Event) → any_touches events k ≡ true → nat_lt k 16 ≡ true
all-below k events touched = any_gives (touches k) (nat_lt k 16 ≡ true) events (touched-below k) touched

-- ---- the decision

volumes-long : (g es : List Entry) → length (all_volumes g es) ≡ length es
volumes-long g [] = refl
volumes-long g (e ∷ es) = ap suc (volumes-long (g ++ e ∷ []) es)

pub paired : (g : List Entry) (answer : Reply × List Entry) (gathering : Gathering) → ComesTo g answer gathering → IsPaired gathering
paired g answer (Failed result) comes = tt
paired g answer (Complete gathered) comes = ap length comes.0.volumes ∙ volumes-long g gathered.entries

module _ (lent : ℕ → Option StripeState) (events : List Event) (ledger : List ℕ) (ground : Ground lent events ledger) (elements : List Element) (atomic go_on : Bool) where
  -- the plan of what was gathered
  is-planned : (gathered : Gathered) (e : Entry) (es : List Entry) → gathered.entries ≡ e ∷ es → IsGathered (log events ledger) gathered
      → IsPlanned events (call.Bulk ledger elements atomic go_on) (on_ledger ledger (gathered_answer gathered)) (list_plan (length events) ledger gathered)
  is-planned gathered e es some is = record {
    whole = refl;
    some = λ none. (let f : ◌≡◌ {A = List Event} (Logged ledger e ∷ map (Logged ledger) es) [] = sym (ap (map (Logged ledger)) some) ∙ none in cc);
    fits = record {
      place = refl;
      prepare = subst (AllPrepare events (map (Logged ledger) gathered.entries)) (sym is.volumes) (entries-prepare events ledger gathered.entries (ready lent events ledger ground) is.follows);
    };
    within = λ k touched. all-below k (map (Logged ledger) gathered.entries) touched;
  }

  none-appended : (gathered : Gathered) → gathered.entries ≡ [] → ◌≡◌ {A = Reply × List Event} (on_ledger ledger (gathered_answer gathered)) (bulk_reply gathered.results, [])
  none-appended gathered none = λ i. (bulk_reply gathered.results, map (Logged ledger) (none i))

  by_entries : (gathered : Gathered) (es : List Entry) → gathered.entries ≡ es → IsGathered (log events ledger) gathered
      → StandsFor events (call.Bulk ledger elements atomic go_on) (on_ledger ledger (gathered_answer gathered)) (gathered_decision (length events) ledger gathered es)
  by_entries gathered [] none is = record { is_list = tt; accepted = λ h. h; whole = none-appended gathered none }
  by_entries gathered (e ∷ es) some is = is-planned gathered e es some is

  pub gathering-stands : (gathering : Gathering) (answer : Reply × List Entry) → ComesTo (log events ledger) answer gathering
      → StandsFor events (call.Bulk ledger elements atomic go_on) (on_ledger ledger answer) (gathering_decision (length events) ledger gathering)
  gathering-stands (Failed result) answer comes =
      subst (λ a. StandsFor events (call.Bulk ledger elements atomic go_on) (on_ledger ledger a) (gathering_decision (length events) ledger (Failed result))) (sym comes)
      (record { is_list = tt; accepted = λ h. h; whole = refl })
  gathering-stands (Complete gathered) answer comes =
      subst (λ a. StandsFor events (call.Bulk ledger elements atomic go_on) (on_ledger ledger a) (gathering_decision (length events) ledger (Complete gathered))) (sym comes.1)
      (by_entries gathered gathered.entries refl comes.0)

-- ---- entries with their volumes

-- the plan of the first entries, each with its volumes
abbrev pub plan_of : ℕ → List ℕ → List BulkItem → List (Entry × FirstVolumes) → PlanState
plan_of place ledger results ys = record {
  place = place;
  events = map (λ (y : Entry × FirstVolumes). Logged ledger y.0) ys;
  volumes = map (λ (y : Entry × FirstVolumes). y.1) ys;
  reply = bulk_reply results;
  mark = no_mark;
}

pub planned-more : (place : ℕ) (ledger : List ℕ) (results : List BulkItem) (ys : List (Entry × FirstVolumes)) (y : Entry × FirstVolumes)
    → plan_of place ledger results (ys ++ y ∷ []) ≡ with_event (plan_of place ledger results ys) (Logged ledger y.0) y.1
planned-more place ledger results ys y = λ i. record {
  place = place;
  events = map-append (λ (p : Entry × FirstVolumes). Logged ledger p.0) ys (y ∷ []) i;
  volumes = map-append (λ (p : Entry × FirstVolumes). p.1) ys (y ∷ []) i;
  reply = bulk_reply results;
  mark = no_mark;
}

same-pairs : (ys : List (Entry × FirstVolumes)) → map (λ (y : Entry × FirstVolumes). (y.0, y.1)) ys ≡ ys
same-pairs [] = refl
same-pairs (y ∷ ys) = ap (λ l. y ∷ l) (same-pairs ys)

logged-firsts : (ledger : List ℕ) (ys : List (Entry × FirstVolumes)) → map (λ (y : Entry × FirstVolumes). Logged ledger y.0) ys ≡ map (Logged ledger) (map (λ (y : Entry × FirstVolumes). y.0) ys)
logged-firsts ledger [] = refl
logged-firsts ledger (y ∷ ys) = ap (λ l. Logged ledger y.0 ∷ l) (logged-firsts ledger ys)

pub planned-whole : (place : ℕ) (ledger : List ℕ) (gathered : Gathered) (ys : List (Entry × FirstVolumes)) → map (λ (y : Entry × FirstVolumes). (y.0, y.1)) ys ≡ zip gathered.entries gathered.volumes
    → length gathered.volumes ≡ length gathered.entries → plan_of place ledger gathered.results ys ≡ list_plan place ledger gathered
planned-whole place ledger gathered ys pairs long =
    let whole : ys ≡ zip gathered.entries gathered.volumes = sym (same-pairs ys) ∙ pairs in
    let entries : map (λ (y : Entry × FirstVolumes). y.0) ys ≡ gathered.entries = ap (map (λ (y : Entry × FirstVolumes). y.0)) whole ∙ firsts-zip gathered.entries gathered.volumes long in
    let events : map (λ (y : Entry × FirstVolumes). Logged ledger y.0) ys ≡ map (Logged ledger) gathered.entries = logged-firsts ledger ys ∙ ap (map (Logged ledger)) entries in
    let volumes : map (λ (y : Entry × FirstVolumes). y.1) ys ≡ gathered.volumes = ap (map (λ (y : Entry × FirstVolumes). y.1)) whole ∙ seconds-zip gathered.entries gathered.volumes long in
    λ i. record { place = place; events = events i; volumes = volumes i; reply = bulk_reply gathered.results; mark = no_mark }

-- ---- the outcome

pub list-outcome : (lent : ℕ → Option StripeState) (events : List Event) (ledger : List ℕ) (elements : List Element) (atomic go_on : Bool) (now : ℤ) → Ground lent events ledger → (gathering : Gathering)
    → ComesTo (log events ledger) (bulk_answer atomic (batched (log events ledger) 0 go_on now elements)) gathering
    → (d : Decision) → d ≡ gathering_decision (length events) ledger gathering → IsOutcome events (call.Bulk ledger elements atomic go_on) now d
unfolding outcome
list-outcome lent events ledger elements atomic go_on now ground gathering comes d is =
    let answer : Reply × List Entry = bulk_answer atomic (batched (log events ledger) 0 go_on now elements) in
    subst (λ b. StandsFor events (call.Bulk ledger elements atomic go_on) (if b then on_ledger ledger answer else no_ledger ledger) d) (sym ground.there)
    (subst (λ x. StandsFor events (call.Bulk ledger elements atomic go_on) (on_ledger ledger answer) x) (sym is)
    (gathering-stands lent events ledger ground elements atomic go_on gathering answer comes))

pub unknown-outcome : (events : List Event) (ledger : List ℕ) (elements : List Element) (atomic go_on : Bool) (now : ℤ) → is_there events ledger ≡ false
    → (d : Decision) → d ≡ decision.Refused (NoLedger ledger) → IsOutcome events (call.Bulk ledger elements atomic go_on) now d
unfolding outcome
unknown-outcome events ledger elements atomic go_on now none d is =
    let answer : Reply × List Entry = bulk_answer atomic (batched (log events ledger) 0 go_on now elements) in
    subst (λ b. StandsFor events (call.Bulk ledger elements atomic go_on) (if b then on_ledger ledger answer else no_ledger ledger) d) (sym none)
    (subst (λ x. StandsFor events (call.Bulk ledger elements atomic go_on) (no_ledger ledger) x) (sym is) refl)
