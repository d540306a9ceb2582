-- What is decided stands for the outcome.
use Rattle.std.proofs.Common.{◌≡◌, ℕ, ℤ, Bool, true, false, ◌||◌, List, [], ◌∷◌, ◌++◌, length, Option, Some, None, refl, sym, ap, subst, ◌∙◌}
use Rattle.std.specs.Prelude.{IsSome, if◌then◌else◌}
use Rattle.std.specs.Option.{option_copied, option_and_then}
use Rattle.std.specs.Str.{bytes_eq}
use Rattle.lg_types.specs.declared.calls.Call.TheVariants as call
use Rattle.lg_types.specs.declared.calls.Write.{Write}
use Rattle.lg_types.specs.declared.calls.Write.TheVariants.{Create, Revert, SetMeta, DropMeta}
use Rattle.lg_types.specs.declared.refusals.Refusal.{Refusal}
use Rattle.lg_types.specs.declared.records.Entry.{Entry}
use Rattle.lg_types.specs.declared.records.EntryBody.{EntryBody}
use Rattle.lg_types.specs.declared.records.Event.{Event}
use Rattle.lg_types.specs.declared.records.Event.TheVariants.{Made, Logged}
use Rattle.lg_types.specs.declared.records.KeyMark.{KeyMark}
use Rattle.lg_types.specs.declared.records.LedgerInfo.{LedgerInfo}
use Rattle.lg_types.specs.declared.refusals.Refusal.TheVariants.{KeyInput, LedgerThere, NoLedger}
use Rattle.lg_types.specs.Changes.{MetaOf}
use Rattle.lg_types.specs.Chain.{input_hash}
use Rattle.lg_types.specs.Known.{kept, date, transactions}
use Rattle.lg_types.specs.Log.{log, is_there}
use Rattle.lg_types.specs.Parts.{touches}
use Rattle.lg_views.specs.declared.decided.Decided.{Decided}
use Rattle.lg_views.specs.declared.decided.Decided.TheVariants.{Denied, Granted}
use Rattle.lg_views.specs.declared.decided.Written.TheVariants.{Finds, Appends, Refuses}
use Rattle.lg_views.specs.declared.replies.Content.TheVariants.{Empty}
use Rattle.lg_views.specs.Import.{fault}
use Rattle.lg_views.specs.Outcome.{ToWrite, on_ledger, no_ledger, in_ledger, made_ledger, make_answer, outcome}
use Rattle.lg_views.specs.Replies.{plain, refused}
use Rattle.lg_views.specs.Writes.{decided, marked, new_entry, appended_if, found_if, found, written_by, written, write_answer}
use Rattle.lg_views.proofs.Granted.{Fits as WrittenFits, written-fits}
use Rattle.lg_book.specs.FirstVolumes.{entry_volumes}
use Rattle.lg_book.proofs.EntryIds.{entries_by_id}
use Rattle.lg_shard.specs.State.{StripeState}
use Rattle.lg_keys.specs.declared.kept.Kept.{Kept}
use Rattle.lg_weigh.specs.declared.weighed.Weighed.{Weighed}
use Rattle.lg_weigh.specs.Trials.{write_trial}
use Rattle.lg_weigh.specs.Weighing.{asked_hash, kept_in, write_weighed}
use Rattle.lg_plan.specs.Events.{MayPrepare}
use Rattle.lg_plan.specs.Laws.{MayEnter}
use Rattle.lg_plan.specs.Plans.{PlanState}
use Rattle.lg_plan.proofs.Entering.{entry-follows, made-follows, faultless-enters}
use Rattle.lg_decide.specs.declared.decisions.Decision.{Decision}
use Rattle.lg_decide.specs.declared.decisions.Decision.TheVariants as decision
use Rattle.lg_decide.specs.declared.looked.Looked.{Looked}
use Rattle.lg_decide.specs.Looking.{Shows, named_id, transaction_at, reverted_by}
use Rattle.lg_decide.specs.Decisions.{known_in, IsKept, IsPlanned, StandsFor, IsOutcome}
use Rattle.lg_decide.specs.Deciding.{write_decision, logged_decision, made_decision, kept_decision, entry_plan, ledger_plan, Ground}
use Rattle.lg_decide.proofs.GroundLemmas.{body-needs, body-within}
use Rattle.lg_decide.proofs.KeptLemmas.{HasKey, kept_there, written_kept}

or_false : (b : Bool) → (b || false) ≡ b
or_false true = refl
or_false false = refl

module _ (lent : ℕ → Option StripeState) (events : List Event) (ledger : List ℕ) (key : Option (List ℕ)) (write : Write) (now : ℤ) (ground : Ground lent events ledger key write) (there : is_there events ledger ≡ true) where
  abbrev g : List Entry
  g = log events ledger

  abbrev entry_of : EntryBody → Entry
  entry_of body = new_entry g (date g now) (marked key write) body

  may-enter : (body : EntryBody) → found g key ≡ None → decided g (date g now) write ≡ Granted body → MayEnter g (entry_of body)
  may-enter body free is =
      let appends : written g key write now ≡ Appends (entry_of body) = ap (written_by g key write (date g now)) free ∙ ap (appended_if g (date g now) (marked key write)) is in
      let faultless : fault g (entry_of body) ≡ None = subst (WrittenFits g) appends (written-fits g key write now) in
      faultless-enters g (entry_of body) faultless (body-within lent events ledger key write ground (date g now) body is)

  may-prepare : (e : Entry) → MayEnter g e → MayPrepare events (Logged ledger e) (entry_volumes (g ++ e ∷ []) e)
  may-prepare e may = record { shards = λ k. entry-follows events ledger e k ground.grown may; book = (there, may.follows); first = refl }

  -- the plan of a new entry
  is-planned : (body : EntryBody) → found g key ≡ None → decided g (date g now) write ≡ Granted body
      → IsPlanned events (call.Write ledger key write) (on_ledger ledger (write_answer g (Appends (entry_of body)))) (entry_plan events ledger (entry_of body))
  is-planned body free is = record {
    whole = refl;
    some = λ h. (let f : ◌≡◌ {A = List Event} (Logged ledger (entry_of body) ∷ []) [] = h in cc);
    fits = record { place = refl; prepare = (may-prepare (entry_of body) (may-enter body free is), refl) };
    within = λ k touched. sym (body-needs lent events ledger key write ground (date g now) body is k) ∙ sym (or_false (touches k (Logged ledger (entry_of body)))) ∙ touched;
  }

  by_decided : (d : Decided) → found g key ≡ None → decided g (date g now) write ≡ d
      → StandsFor events (call.Write ledger key write) (on_ledger ledger (write_answer g (appended_if g (date g now) (marked key write) d))) (write_decision events ledger (appended_if g (date g now) (marked key write) d))
  by_decided (Denied refusal) free is = refl
  by_decided (Granted body) free is = is-planned body free is

  -- the entry that has the key
  is-kept : (name : List ℕ) (e : Entry) → kept g name ≡ Some e → IsKept g (on_ledger ledger (write_answer g (Finds e))) e.id
  is-kept name e is =
      let own : HasKey g name e = kept_there g name e is in
      record { entry = e; found = (entries_by_id events ledger own.place e ground.grown own.there).1; first = refl }

  by_test : (name : List ℕ) (e : Entry) (mark : KeyMark) (given : List ℕ) (b : Bool) → kept g name ≡ Some e
      → StandsFor events (call.Write ledger key write) (on_ledger ledger (write_answer g (if b then Finds e else Refuses (KeyInput mark.key mark.input_hash given))))
      (write_decision events ledger (if b then Finds e else Refuses (KeyInput mark.key mark.input_hash given)))
  by_test name e mark given true is = is-kept name e is
  by_test name e mark given false is = refl

  by_mark : (name : List ℕ) (e : Entry) (o : Option KeyMark) (given : List ℕ) → kept g name ≡ Some e
      → StandsFor events (call.Write ledger key write) (on_ledger ledger (write_answer g (found_if o given e))) (write_decision events ledger (found_if o given e))
  by_mark name e None given is = is-kept name e is
  by_mark name e (Some mark) given is = by_test name e mark given (bytes_eq mark.input_hash given) is

  kept-name : (o : Option (List ℕ)) (e : Entry) → found g o ≡ Some e → (name : List ℕ) × (kept g name ≡ Some e)
  kept-name None e is = absurd (let f : ◌≡◌ {A = Option Entry} None (Some e) = is in cc)
  kept-name (Some name) e is = (name, is)

  by_found : (o : Option Entry) → found g key ≡ o
      → StandsFor events (call.Write ledger key write) (on_ledger ledger (write_answer g (written_by g key write (date g now) o))) (write_decision events ledger (written_by g key write (date g now) o))
  by_found None is = by_decided (decided g (date g now) write) is refl
  by_found (Some e) is = let named = kept-name key e is in by_mark named.0 e e.mark (input_hash write) named.1

module _ (lent : ℕ → Option StripeState) (events : List Event) (ledger : List ℕ) (key : Option (List ℕ)) (write : Write) (now : ℤ) (ground : Ground lent events ledger key write) where
  pub logged-stands : StandsFor events (call.Write ledger key write) (in_ledger events ledger (ToWrite key write) now) (logged_decision events ledger key write now)
  logged-stands = by_there (is_there events ledger) refl
    where
      by_there : (b : Bool) → is_there events ledger ≡ b
          → StandsFor events (call.Write ledger key write) (if b then on_ledger ledger (write_answer (log events ledger) (written (log events ledger) key write now)) else no_ledger ledger)
          (if b then write_decision events ledger (written (log events ledger) key write now) else decision.Refused (NoLedger ledger))
      by_there true is = by_found lent events ledger key write now ground is (found (log events ledger) key) refl
      by_there false is = refl

-- the plan of a new ledger
pub made-stands : (events : List Event) (ledger bucket : List ℕ) (metadata : MetaOf) (now : ℤ)
    → StandsFor events (call.MakeLedger ledger bucket metadata) (make_answer events (made_ledger ledger bucket metadata now)) (made_decision events (made_ledger ledger bucket metadata now))
made-stands events ledger bucket metadata now = by_there (is_there events ledger) refl
  where
    by_there : (b : Bool) → is_there events ledger ≡ b
        → StandsFor events (call.MakeLedger ledger bucket metadata) (if b then (refused (LedgerThere ledger), []) else (plain Empty, Made (made_ledger ledger bucket metadata now) ∷ []))
        (if b then decision.Refused (LedgerThere ledger) else decision.Planned (ledger_plan events (made_ledger ledger bucket metadata now)))
    by_there true is = refl
    by_there false is = record {
      whole = refl;
      some = λ h. (let f : ◌≡◌ {A = List Event} (Made (made_ledger ledger bucket metadata now) ∷ []) [] = h in cc);
      fits = record { place = refl; prepare = (record { shards = λ k. made-follows events (made_ledger ledger bucket metadata now) k; book = is; first = refl }, refl) };
      within = λ k touched. absurd (let f : false ≡ true = touched in cc);
    }

-- ---- the outcome

pub logged-outcome : (lent : ℕ → Option StripeState) (events : List Event) (ledger : List ℕ) (key : Option (List ℕ)) (write : Write) (now : ℤ) → Ground lent events ledger key write
    → (d : Decision) → d ≡ logged_decision events ledger key write now → IsOutcome events (call.Write ledger key write) now d
unfolding outcome
logged-outcome lent events ledger key write now ground d is =
    subst (λ x. StandsFor events (call.Write ledger key write) (in_ledger events ledger (ToWrite key write) now) x) (sym is) (logged-stands lent events ledger key write now ground)

pub made-outcome : (events : List Event) (ledger bucket : List ℕ) (metadata : MetaOf) (now : ℤ) (d : Decision) → d ≡ made_decision events (made_ledger ledger bucket metadata now) → IsOutcome events (call.MakeLedger ledger bucket metadata) now d
unfolding outcome
made-outcome events ledger bucket metadata now d is =
    subst (λ x. StandsFor events (call.MakeLedger ledger bucket metadata) (make_answer events (made_ledger ledger bucket metadata now)) x) (sym is) (made-stands events ledger bucket metadata now)

-- ---- from look-ups to decisions

-- a count that is there
pub count_there : (b : Bool) (n m : ℕ) → Some n ≡ (if b then Some m else None) → (b ≡ true) × (n ≡ m)
count_there true n m h = (refl, cc)
count_there false n m h = absurd (let f : ◌≡◌ {A = Option ℕ} (Some n) None = h in cc)

pub none_counted : (b : Bool) (m : ℕ) → None ≡ (if b then Some m else None) → b ≡ false
none_counted true m h = absurd (let f : ◌≡◌ {A = Option ℕ} None (Some m) = h in cc)
none_counted false m h = refl

module _ (events : List Event) (ledger : List ℕ) (key : Option (List ℕ)) (write : Write) (now : ℤ) where
  pub unknown-decision : (d : Decision) → is_there events ledger ≡ false → d ≡ decision.Refused (NoLedger ledger) → d ≡ logged_decision events ledger key write now
  unknown-decision d none is = is ∙ ap (λ b. if b then write_decision events ledger (written (log events ledger) key write now) else decision.Refused (NoLedger ledger)) (sym none)

  pub there-decision : (d : Decision) → is_there events ledger ≡ true → d ≡ write_decision events ledger (written (log events ledger) key write now) → d ≡ logged_decision events ledger key write now
  there-decision d there is = is ∙ ap (λ b. if b then write_decision events ledger (written (log events ledger) key write now) else decision.Refused (NoLedger ledger)) (sym there)

-- a key of which something is kept is there
pub key-there : (g : List Entry) (key : Option (List ℕ)) (k : Kept) → option_and_then (kept_in g) key ≡ Some k → IsSome key
key-there g None k h = absurd (let f : ◌≡◌ {A = Option Kept} None (Some k) = h in cc)
key-there g (Some name) k h = refl

pub hash-there : (g : List Entry) (key : Option (List ℕ)) (write : Write) (k : Kept) → option_and_then (kept_in g) key ≡ Some k → IsSome (asked_hash key write)
hash-there g None write k h = absurd (let f : ◌≡◌ {A = Option Kept} None (Some k) = h in cc)
hash-there g (Some name) write k h = refl

pub kept-decides : (events : List Event) (ledger : List ℕ) (key : Option (List ℕ)) (write : Write) (now : ℤ) (given : Option (List ℕ)) (k : Kept) (d : Decision)
    → option_and_then (kept_in (log events ledger)) key ≡ Some k → given ≡ asked_hash key write → ((name hash : List ℕ) → key ≡ Some name → given ≡ Some hash → d ≡ kept_decision name hash k)
    → d ≡ write_decision events ledger (written (log events ledger) key write now)
kept-decides events ledger None write now given k d is asked h = absurd (let f : ◌≡◌ {A = Option Kept} None (Some k) = is in cc)
kept-decides events ledger (Some name) write now given k d is asked h = h name (input_hash write) refl asked ∙ sym (written_kept (log events ledger) write now events ledger name k is)

-- what is looked up and weighed is what the log says
pub looked-shows : (g : List Entry) (key : Option (List ℕ)) (write : Write) (looked : Looked) (weighed : Weighed) → weighed ≡ write_weighed g key write (known_in g write) → looked.transactions ≡ length (transactions g)
    → option_copied looked.transaction ≡ option_and_then (transaction_at g) (named_id write) → looked.reverted_by ≡ option_and_then (reverted_by g) (named_id write) → looked.used ≡ weighed.used → Shows g write looked weighed.trial
looked-shows g key write looked weighed is count known reverted used = record {
  count = count;
  known = known;
  reverted = reverted;
  referred = used ∙ ap (λ (w : Weighed). w.used) is;
  refused = ap (λ (w : Weighed). w.trial) is ∙ by_write write known;
}
  where
    by_write : (w : Write) → option_copied looked.transaction ≡ option_and_then (transaction_at g) (named_id w) → write_trial g w (known_in g w) ≡ write_trial g w (option_copied looked.transaction)
    by_write (Create postings reference timestamp metadata accounts force) k = refl
    by_write (Revert id force at_effective_date) k = ap (write_trial g (Revert id force at_effective_date)) (sym k)
    by_write (SetMeta target metadata) k = refl
    by_write (DropMeta target name) k = refl

-- ---- what is appended

pub granted-decision : (events : List Event) (ledger : List ℕ) (date : ℤ) (key : Option (List ℕ)) (write : Write) (body : EntryBody) (plan : PlanState)
    → decided (log events ledger) date write ≡ Granted body → plan ≡ entry_plan events ledger (new_entry (log events ledger) date (marked key write) body)
    → decision.Planned plan ≡ write_decision events ledger (appended_if (log events ledger) date (marked key write) (decided (log events ledger) date write))
granted-decision events ledger date key write body plan is same =
    ap decision.Planned same ∙ ap (λ d. write_decision events ledger (appended_if (log events ledger) date (marked key write) d)) (sym is)

pub denied-decision : (events : List Event) (ledger : List ℕ) (date : ℤ) (key : Option (List ℕ)) (write : Write) (refusal : Refusal) → decided (log events ledger) date write ≡ Denied refusal
    → decision.Refused refusal ≡ write_decision events ledger (appended_if (log events ledger) date (marked key write) (decided (log events ledger) date write))
denied-decision events ledger date key write refusal is = ap (λ d. write_decision events ledger (appended_if (log events ledger) date (marked key write) d)) (sym is)

-- ---- a ledger that is made

pub made-refused : (events : List Event) (info made : LedgerInfo) → info ≡ made → is_there events made.name ≡ true → decision.Refused (LedgerThere info.name) ≡ made_decision events made
made-refused events info made is there =
    ap (λ (x : LedgerInfo). decision.Refused (LedgerThere x.name)) is
    ∙ ap (λ b. if b then decision.Refused (LedgerThere made.name) else decision.Planned (ledger_plan events made)) (sym there)

pub made-planned : (events : List Event) (info made : LedgerInfo) (d : Decision) → info ≡ made → is_there events made.name ≡ false → d ≡ decision.Planned (ledger_plan events info) → d ≡ made_decision events made
made-planned events info made d is none planned =
    planned
    ∙ ap (λ (x : LedgerInfo). decision.Planned (ledger_plan events x)) is
    ∙ ap (λ b. if b then decision.Refused (LedgerThere made.name) else decision.Planned (ledger_plan events made)) (sym none)
