-- The records of a ledger's transactions, when an entry is prepared and when it is added.
use Rattle.std.proofs.Common.{◌≡◌, ℕ, zero, suc, ◌+◌, ◌-◌, ◌<◌, ◌≤◌, ℤ, ◌≤ℤ◌, Bool, true, false, cond, ◌||◌, List, [], ◌∷◌, ◌++◌, map, length, slice_get, IsSome, IfSome, Option, Some, None, refl, sym, ap, ap₂, subst, ◌∙◌, inl, inr, append_assoc, arith}
use Rattle.std.specs.Prelude.{◌⊎◌, nat_eq, is_some, is_none}
use Rattle.std.specs.Option.{option_map, option_or}
use Rattle.std.specs.List.{flat_map, filter, find}
use Rattle.std.proofs.lemmas.List.{append-nil, length-append, map-append}
use Rattle.std.proofs.lemmas.List.Elements.{filter-append}
use Rattle.std.proofs.lemmas.List.Folds.{find-append}
use Rattle.std.proofs.lemmas.Grind.{flat_map-append}
use Rattle.std.proofs.lemmas.Bool.{eqb-true, eq-eqb}
use Rattle.lg_meta.specs.History.{History, first_applied}
use Rattle.lg_meta.specs.Index.{changes_of}
use Rattle.lg_meta.specs.MetaFold.{changes_about, dated_change, last_date}
use Rattle.lg_meta.specs.declared.change.DatedChange.{DatedChange}
use Rattle.lg_types.specs.declared.changes.MetaChange.{MetaChange}
use Rattle.lg_types.specs.declared.changes.MetaChange.TheVariants.{Set, Drop}
use Rattle.lg_types.specs.declared.records.Entry.{Entry}
use Rattle.lg_types.specs.declared.records.EntryBody.{EntryBody}
use Rattle.lg_types.specs.declared.records.EntryBody.TheVariants.{NewTransaction, SetMetadata, Reverted, DeleteMetadata}
use Rattle.lg_types.specs.declared.records.Target.{Target}
use Rattle.lg_types.specs.declared.records.Target.TheVariants.{Account, Transaction as TransactionOf}
use Rattle.lg_types.specs.declared.records.Transaction.{Transaction}
use Rattle.lg_types.specs.Changes.{entry_changes, changes, is_about}
use Rattle.lg_types.specs.Known.{Dated, transactions, has_id, find_transaction, Undoing, body_undoings, entry_undoings, undoings, undoes, undone}
use Rattle.lg_types.specs.Lists.{last_of}
use Rattle.lg_types.specs.Moves.{body_transaction}
use Rattle.lg_views.specs.Import.{is_before, is_misnumbered, is_missing, reverts_wrong, targets_wrong}
use Rattle.lg_book.specs.declared.records.TransactionRecord.{TransactionRecord}
use Rattle.lg_book.specs.Following.{MayFollowLog}
use Rattle.lg_book.specs.Reading.{reverting_of, reverted_by}
use Rattle.lg_book.specs.Index.{by_id, changed_at, IsRecord, with_prepared, with_first_applied, with_reverted_by, new_record, target_prepared, records_prepared, target_added, records_added, IsIdIn, HasTarget, CanPrepare, CanChange, CanChangeTarget, CanAddTo, count_made}
use Rattle.lg_book.proofs.Lists.{some_same, not_some, slice_get_within_length, snoc_cases, there_within, none_past, find-by_id, changed_cases, length-changed}
use Rattle.lg_book.proofs.Sound.{IsSound, own_changes, changed_id, change_in, target_id, dated_as, about-snoc, undone-snoc, own-changes, no_own_changes, own_change_is, next_id, not_undone, none_is, first_none, or_left}

pub about-append : (id : ℕ) (g h : List Entry) → changes_about (TransactionOf id) (g ++ h) ≡ changes_about (TransactionOf id) g ++ changes_about (TransactionOf id) h
about-append id g h =
    ap (λ cs. map dated_change (filter (is_about (TransactionOf id)) cs)) (flat_map-append entry_changes g h)
    ∙ ap (map dated_change) (filter-append (is_about (TransactionOf id)) (changes g) (changes h))
    ∙ map-append dated_change (filter (is_about (TransactionOf id)) (changes g)) (filter (is_about (TransactionOf id)) (changes h))

pub about-cons : (id : ℕ) (e : Entry) (h : List Entry) → changes_about (TransactionOf id) (e ∷ h) ≡ own_changes id e ++ changes_about (TransactionOf id) h
about-cons id e h =
    about-append id (e ∷ []) h
    ∙ ap (λ cs. map dated_change (filter (is_about (TransactionOf id)) cs) ++ changes_about (TransactionOf id) h) (append-nil (entry_changes e))

pub undone-append : (id : ℕ) (g h : List Entry) → undone (g ++ h) id ≡ option_or (undone g id) (undone h id)
undone-append id g h = ap (find (undoes id)) (flat_map-append entry_undoings g h) ∙ find-append (undoes id) (undoings g) (undoings h)

changes_of-append : (cs ds : List DatedChange) → changes_of (cs ++ ds) ≡ changes_of cs ++ changes_of ds
changes_of-append cs ds = map-append (λ (c : DatedChange). c.change) cs ds

pub nil_left : {A : Type 0} (xs ys : List A) → xs ++ ys ≡ [] → xs ≡ []
nil_left [] ys h = refl
nil_left (x ∷ xs) ys h = absurd (let f : x ∷ (xs ++ ys) ≡ [] = h in cc)

pub nil_right : {A : Type 0} (xs ys : List A) → xs ++ ys ≡ [] → ys ≡ []
nil_right [] ys h = h
nil_right (x ∷ xs) ys h = absurd (let f : x ∷ (xs ++ ys) ≡ [] = h in cc)

abbrev pub AreRecords : List Entry → List Entry → List TransactionRecord → Type 0
AreRecords added prepared rs = (k : ℕ) (r : TransactionRecord) → slice_get rs k ≡ Some r → IsRecord added prepared (suc k) r

-- ---- ids

pub find-transaction : (g : List Entry) → IsSound g → (id : ℕ) → find_transaction g id ≡ by_id (transactions g) id
find-transaction g h id = find-by_id (λ (d : Dated). d.transaction.id) (transactions g) h.transaction_ids id

pub id_there : {A B : Type 0} (xs : List A) (ys : List B) (id : ℕ) → length ys ≡ length xs → (by_id xs id ≡ None → ⊥) → (1 ≤ id) × (id ≤ length ys)
id_there xs ys zero same h = absurd (h refl)
id_there xs ys (suc k) same h = elim (cases_within k (length xs)) [ inl lt ↦ (omega arith, omega (arith, lt, same)) | inr le ↦ absurd (h (none_past k xs le)) ]
  where
    cases_within : (a b : ℕ) → (a < b) ⊎ (b ≤ a)
    cases_within a zero = inr (omega arith)
    cases_within zero (suc b) = inl (omega arith)
    cases_within (suc a) (suc b) = elim (cases_within a b) [ inl lt ↦ inl (omega (arith, lt)) | inr le ↦ inr (omega (arith, le)) ]

pub is_id : (g : List Entry) (rs : List TransactionRecord) (id : ℕ) → IsSound g → length rs ≡ length (transactions g) → is_none (find_transaction g id) ≡ false → IsIdIn rs id
is_id g rs id h same there = id_there (transactions g) rs id same (λ none. none_is (find_transaction g id) there (find-transaction g h id ∙ none))

pub none_new : (g : List Entry) (k : ℕ) → IsSound g → length (transactions g) ≤ k → find_transaction g (suc k) ≡ None
none_new g k h le = find-transaction g h (suc k) ∙ none_past k (transactions g) le

-- ---- an entry is prepared

has_target : (g : List Entry) (rs : List TransactionRecord) (target : Target) → IsSound g → length rs ≡ length (transactions g) → is_missing g target ≡ false → HasTarget rs target
has_target g rs (Account name) h same there = tt
has_target g rs (TransactionOf id) h same there = is_id g rs id h same there

pub can_prepare : (g : List Entry) (rs : List TransactionRecord) (body : EntryBody) → IsSound g → length rs ≡ length (transactions g) → targets_wrong g body ≡ false → CanPrepare rs body
can_prepare g rs (NewTransaction t accounts) h same there = tt
can_prepare g rs (SetMetadata target metadata) h same there = has_target g rs target h same there
can_prepare g rs (Reverted id t) h same there = tt
can_prepare g rs (DeleteMetadata target name) h same there = has_target g rs target h same there

module _ (added prepared : List Entry) (e : Entry) where
  quiet : (id : ℕ) (r : TransactionRecord) → IsRecord added prepared id r → own_changes id e ≡ [] → IsRecord added (prepared ++ e ∷ []) id r
  quiet id r h none = record {
    reverted = h.reverted;
    changes = h.changes;
    prepared_changes = h.prepared_changes ∙ ap changes_of (sym (about-snoc id prepared e ∙ ap (λ l. changes_about (TransactionOf id) prepared ++ l) none ∙ append-nil (changes_about (TransactionOf id) prepared)));
  }

  changing : (id : ℕ) (r : TransactionRecord) (change : MetaChange) → IsRecord added prepared id r → own_changes id e ≡ dated_as e.date change ∷ [] → IsRecord added (prepared ++ e ∷ []) id (with_prepared change r)
  changing id r change h own = record {
    reverted = h.reverted;
    changes = h.changes;
    prepared_changes =
        ap (λ l. l ++ change ∷ []) h.prepared_changes
        ∙ sym (changes_of-append (changes_about (TransactionOf id) prepared) (dated_as e.date change ∷ []))
        ∙ ap changes_of (sym (about-snoc id prepared e ∙ ap (λ l. changes_about (TransactionOf id) prepared ++ l) own));
  }

  -- no metadata change, or one of an account
  still : (rs : List TransactionRecord) → AreRecords added prepared rs → changed_id e.body ≡ None → AreRecords added (prepared ++ e ∷ []) rs
  still rs h none k r is = quiet (suc k) r (h k r is) (no_own_changes (suc k) e (λ same. not_some (suc k) (sym none ∙ same)))

  targeted : (rs : List TransactionRecord) (target : Target) (change : MetaChange) → HasTarget rs target → AreRecords added prepared rs → changed_id e.body ≡ target_id target → change_in e.body ≡ change
      → AreRecords added (prepared ++ e ∷ []) (target_prepared target change rs)
  targeted rs (Account name) change there h ids same = still rs h ids
  targeted rs (TransactionOf id) change there h ids same = λ k r is.
      let x = changed_cases (with_prepared change) (id - 1) rs k r is in
      elim x.2 [
        | inl here ↦
            let at : id ≡ suc k = omega (arith, there.0, here.0) in
            subst (IsRecord added (prepared ++ e ∷ []) (suc k)) (sym here.1)
            (changing (suc k) x.0 change (h k x.0 x.1) (own_change_is (suc k) e (ids ∙ ap Some at) ∙ ap (λ c. dated_as e.date c ∷ []) same))
        | inr other ↦
            subst (IsRecord added (prepared ++ e ∷ []) (suc k)) (sym other.1)
            (quiet (suc k) x.0 (h k x.0 x.1) (no_own_changes (suc k) e (λ own. other.0 (let at : id ≡ suc k = some_same id (suc k) (sym ids ∙ own) in let n : k ≡ id - 1 = omega (arith, at) in n))))
      ]

  module _ (sound : IsSound (added ++ prepared)) where
    fresh : (k place : ℕ) (t : Transaction) → length (transactions (added ++ prepared)) ≤ k → own_changes (suc k) e ≡ dated_as e.date (Set t.metadata) ∷ [] → IsRecord added (prepared ++ e ∷ []) (suc k) (new_record place t)
    fresh k place t le own =
        let none : find_transaction (added ++ prepared) (suc k) ≡ None = none_new (added ++ prepared) k sound le in
        let nothing : changes_about (TransactionOf (suc k)) added ++ changes_about (TransactionOf (suc k)) prepared ≡ [] = sym (about-append (suc k) added prepared) ∙ sound.changed (suc k) none in
        record {
          reverted = ap (option_map reverting_of) (sym (first_none _ _ (sym (undone-append (suc k) added prepared) ∙ sound.undone_is (suc k) none)));
          changes = sym (nil_left _ _ nothing);
          prepared_changes = ap changes_of (sym (about-snoc (suc k) prepared e ∙ ap₂ (λ l m. l ++ m) (nil_right _ _ nothing) own));
        }

    renewed : (rs : List TransactionRecord) (place : ℕ) (t : Transaction) → length rs ≡ length (transactions (added ++ prepared)) → AreRecords added prepared rs
        → changed_id e.body ≡ Some t.id → change_in e.body ≡ Set t.metadata → t.id ≡ length (transactions (added ++ prepared)) + 1 → AreRecords added (prepared ++ e ∷ []) (rs ++ new_record place t ∷ [])
    renewed rs place t same h ids change next = λ k r is.
        elim (snoc_cases rs (new_record place t) r k is) [
          | inl old ↦ quiet (suc k) r (h k r old) (no_own_changes (suc k) e (λ own.
              let lt : k < length rs = slice_get_within_length rs k r old in
              let at : t.id ≡ suc k = some_same t.id (suc k) (sym ids ∙ own) in
              omega (arith, lt, at, same, next)))
          | inr new ↦
              let at : t.id ≡ suc k = omega (arith, new.0, same, next) in
              subst (IsRecord added (prepared ++ e ∷ []) (suc k)) new.1
              (fresh k place t (omega (arith, new.0, same)) (own_change_is (suc k) e (ids ∙ ap Some at) ∙ ap (λ c. dated_as e.date c ∷ []) change))
        ]

    pub are_prepared : (body : EntryBody) → e.body ≡ body → (rs : List TransactionRecord) (place : ℕ) → length rs ≡ length (transactions (added ++ prepared)) → AreRecords added prepared rs → MayFollowLog (added ++ prepared) e
        → AreRecords added (prepared ++ e ∷ []) (records_prepared place body rs)
    are_prepared (NewTransaction t accounts) is rs place same h f =
        renewed rs place t same h (ap changed_id is) (ap change_in is) (next_id (added ++ prepared) t (subst (λ b. is_misnumbered (added ++ prepared) (body_transaction b) ≡ false) is f.transaction))
    are_prepared (SetMetadata target metadata) is rs place same h f =
        targeted rs target (Set metadata) (has_target (added ++ prepared) rs target sound same (subst (λ b. targets_wrong (added ++ prepared) b ≡ false) is f.target)) h (ap changed_id is) (ap change_in is)
    are_prepared (Reverted id t) is rs place same h f =
        renewed rs place t same h (ap changed_id is) (ap change_in is) (next_id (added ++ prepared) t (subst (λ b. is_misnumbered (added ++ prepared) (body_transaction b) ≡ false) is f.transaction))
    are_prepared (DeleteMetadata target name) is rs place same h f =
        targeted rs target (Drop name) (has_target (added ++ prepared) rs target sound same (subst (λ b. targets_wrong (added ++ prepared) b ≡ false) is f.target)) h (ap changed_id is) (ap change_in is)

-- ---- the first prepared entry is added

-- what is known of one record before and after
data HistoryStep (e : Entry) (id : ℕ) (before after : History) : Type 0 where
  Still : own_changes id e ≡ [] → after ≡ before → HistoryStep e id before after
  Changed : (change : MetaChange) → own_changes id e ≡ dated_as e.date change ∷ [] → after ≡ first_applied e.date before.changes before.prepared → HistoryStep e id before after

data RevertedStep (e : Entry) (id : ℕ) (added : List Entry) (before after : Option ℕ) : Type 0 where
  Kept : find (undoes id) (entry_undoings e) ≡ None → after ≡ before → RevertedStep e id added before after
  Marked : (u : Undoing) → find (undoes id) (entry_undoings e) ≡ Some u → undone added id ≡ None → after ≡ Some u.by → RevertedStep e id added before after

module _ (added rest : List Entry) (e : Entry) where
  history_after : (id : ℕ) (before after : History) → before.changes ≡ changes_about (TransactionOf id) added → before.prepared ≡ changes_of (changes_about (TransactionOf id) (e ∷ rest)) → HistoryStep e id before after
      → after ≡ record { changes = changes_about (TransactionOf id) (added ++ e ∷ []); prepared = changes_of (changes_about (TransactionOf id) rest) }
  history_after id before after changes prepared (Still none same) =
      let rests : changes_of (changes_about (TransactionOf id) (e ∷ rest)) ≡ changes_of (changes_about (TransactionOf id) rest) = ap changes_of (about-cons id e rest ∙ ap (λ l. l ++ changes_about (TransactionOf id) rest) none) in
      let more : changes_about (TransactionOf id) (added ++ e ∷ []) ≡ changes_about (TransactionOf id) added = about-snoc id added e ∙ ap (λ l. changes_about (TransactionOf id) added ++ l) none ∙ append-nil (changes_about (TransactionOf id) added) in
      same ∙ both before _ _ (changes ∙ sym more) (prepared ∙ rests)
    where
      both : (h : History) (cs : List DatedChange) (ps : List MetaChange) → h.changes ≡ cs → h.prepared ≡ ps → h ≡ record { changes = cs; prepared = ps }
      both h cs ps p q = λ i. record { changes = p i; prepared = q i }
  history_after id before after changes prepared (Changed change own same) =
      let rests : changes_of (changes_about (TransactionOf id) (e ∷ rest)) ≡ change ∷ changes_of (changes_about (TransactionOf id) rest) = ap changes_of (about-cons id e rest ∙ ap (λ l. l ++ changes_about (TransactionOf id) rest) own) in
      let more : changes_about (TransactionOf id) (added ++ e ∷ []) ≡ changes_about (TransactionOf id) added ++ dated_as e.date change ∷ [] = about-snoc id added e ∙ ap (λ l. changes_about (TransactionOf id) added ++ l) own in
      same
      ∙ ap₂ (first_applied e.date) changes (prepared ∙ rests)
      ∙ ap (λ cs. record { changes = cs; prepared = changes_of (changes_about (TransactionOf id) rest) }) (sym more)

  reverted_after : (id : ℕ) (before after : Option ℕ) → before ≡ reverted_by added id → RevertedStep e id added before after → after ≡ reverted_by (added ++ e ∷ []) id
  reverted_after id before after is (Kept none same) =
      same ∙ is ∙ ap (option_map reverting_of) (sym (undone-snoc id added e ∙ ap (option_or (undone added id)) none ∙ or_none (undone added id)))
    where
      or_none : (o : Option Undoing) → option_or o None ≡ o
      or_none None = refl
      or_none (Some u) = refl
  reverted_after id before after is (Marked u found none same) =
      same ∙ ap (option_map reverting_of) (sym (undone-snoc id added e ∙ ap₂ option_or none found))

  after_step : (id : ℕ) (x r : TransactionRecord) → IsRecord added (e ∷ rest) id x → HistoryStep e id x.history r.history → RevertedStep e id added x.reverted_by r.reverted_by → IsRecord (added ++ e ∷ []) rest id r
  after_step id x r h history reverts =
      let is = history_after id x.history r.history h.changes h.prepared_changes history in
      record { reverted = reverted_after id x.reverted_by r.reverted_by h.reverted reverts; changes = ap (λ y. y.changes) is; prepared_changes = ap (λ y. y.prepared) is }

  -- a record after the change of the record of an id
  step_at : (id : ℕ) → 1 ≤ id → changed_id e.body ≡ Some id → (rs : List TransactionRecord) (k : ℕ) (r : TransactionRecord) → slice_get (changed_at (with_first_applied e.date) (id - 1) rs) k ≡ Some r
      → (x : TransactionRecord) × (slice_get rs k ≡ Some x) × HistoryStep e (suc k) x.history r.history × (r.reverted_by ≡ x.reverted_by)
  step_at id one ids rs k r is =
      let x = changed_cases (with_first_applied e.date) (id - 1) rs k r is in
      elim x.2 [
        | inl here ↦
            let at : id ≡ suc k = omega (arith, one, here.0) in
            (x.0, x.1, Changed (change_in e.body) (own_change_is (suc k) e (ids ∙ ap Some at)) (ap (λ y. y.history) here.1), ap (λ y. y.reverted_by) here.1)
        | inr other ↦
            (x.0, x.1, Still (no_own_changes (suc k) e (λ own. other.0 (let at : id ≡ suc k = some_same id (suc k) (sym ids ∙ own) in let n : k ≡ id - 1 = omega (arith, at) in n))) (ap (λ y. y.history) other.1), ap (λ y. y.reverted_by) other.1)
      ]

  changed_after : (id : ℕ) → 1 ≤ id → changed_id e.body ≡ Some id → ((n : ℕ) → find (undoes n) (entry_undoings e) ≡ None) → (rs : List TransactionRecord) → AreRecords added (e ∷ rest) rs → AreRecords (added ++ e ∷ []) rest (changed_at (with_first_applied e.date) (id - 1) rs)
  changed_after id one ids none rs h k r is =
      let x = step_at id one ids rs k r is in
      after_step (suc k) x.0 r (h k x.0 x.1) x.2 (Kept (none (suc k)) x.3)

  still_after : changed_id e.body ≡ None → ((n : ℕ) → find (undoes n) (entry_undoings e) ≡ None) → (rs : List TransactionRecord) → AreRecords added (e ∷ rest) rs → AreRecords (added ++ e ∷ []) rest rs
  still_after ids none rs h k r is =
      after_step (suc k) r r (h k r is) (Still (no_own_changes (suc k) e (λ own. not_some (suc k) (sym ids ∙ own))) refl) (Kept (none (suc k)) refl)

  target_after : (target : Target) (rs : List TransactionRecord) → HasTarget rs target → changed_id e.body ≡ target_id target → ((n : ℕ) → find (undoes n) (entry_undoings e) ≡ None) → AreRecords added (e ∷ rest) rs → AreRecords (added ++ e ∷ []) rest (target_added e.date target rs)
  target_after (Account name) rs there ids none h = still_after ids none rs h
  target_after (TransactionOf id) rs there ids none h = changed_after id there.0 ids none rs h

  -- the record of a reverted transaction is marked
  undoes_one : (reverted : ℕ) (t : Transaction) (id : ℕ) → reverted ≡ id → find (undoes id) (body_undoings e.date (Reverted reverted t)) ≡ Some (record { reverted = reverted; by = t.id; date = e.date })
  undoes_one reverted t id same =
      let u : Undoing = record { reverted = reverted; by = t.id; date = e.date } in
      ap (λ b. cond {A = Option Undoing} b (Some u) None) (eq-eqb reverted id same)

  undoes_none : (reverted : ℕ) (t : Transaction) (id : ℕ) → (reverted ≡ id → ⊥) → find (undoes id) (body_undoings e.date (Reverted reverted t)) ≡ None
  undoes_none reverted t id other = by_test (nat_eq reverted id) refl
    where
      by_test : (b : Bool) → nat_eq reverted id ≡ b → cond {A = Option Undoing} b (Some (record { reverted = reverted; by = t.id; date = e.date })) None ≡ None
      by_test true same = absurd (other (eqb-true reverted id same))
      by_test false same = refl

  revert_after : (reverted : ℕ) (t : Transaction) → e.body ≡ Reverted reverted t → 1 ≤ reverted → 1 ≤ t.id → undone added reverted ≡ None → (rs : List TransactionRecord) → AreRecords added (e ∷ rest) rs
      → AreRecords (added ++ e ∷ []) rest (changed_at (with_reverted_by t.id) (reverted - 1) (changed_at (with_first_applied e.date) (t.id - 1) rs))
  revert_after reverted t is one own none rs h = λ k r at.
      let y = changed_cases (with_reverted_by t.id) (reverted - 1) (changed_at (with_first_applied e.date) (t.id - 1) rs) k r at in
      let x = step_at t.id own (ap changed_id is) rs k y.0 y.1 in
      elim y.2 [
        | inl here ↦
            let same : reverted ≡ suc k = omega (arith, one, here.0) in
            after_step (suc k) x.0 r (h k x.0 x.1) (subst (HistoryStep e (suc k) x.0.history) (sym (ap (λ z. z.history) here.1)) x.2)
            (Marked (record { reverted = reverted; by = t.id; date = e.date }) (ap (λ b. find (undoes (suc k)) (body_undoings e.date b)) is ∙ undoes_one reverted t (suc k) same) (ap (undone added) (sym same) ∙ none) (ap (λ z. z.reverted_by) here.1))
        | inr other ↦
            after_step (suc k) x.0 r (h k x.0 x.1) (subst (HistoryStep e (suc k) x.0.history) (sym (ap (λ z. z.history) other.1)) x.2)
            (Kept (ap (λ b. find (undoes (suc k)) (body_undoings e.date b)) is ∙ undoes_none reverted t (suc k) (λ same. other.0 (let n : k ≡ reverted - 1 = omega (arith, same) in n))) (ap (λ z. z.reverted_by) other.1 ∙ x.3))
      ]

  pub are_added : (body : EntryBody) → e.body ≡ body → (rs : List TransactionRecord) → CanAddTo rs e.date body → MayFollowLog added e → AreRecords added (e ∷ rest) rs → AreRecords (added ++ e ∷ []) rest (records_added e.date body rs)
  are_added (NewTransaction t accounts) is rs can f h = changed_after t.id can.is_id.0 (ap changed_id is) (λ n. ap (λ b. find (undoes n) (body_undoings e.date b)) is) rs h
  are_added (SetMetadata target metadata) is rs can f h = target_after target rs (changes_there target rs can) (ap changed_id is) (λ n. ap (λ b. find (undoes n) (body_undoings e.date b)) is) h
    where
      changes_there : (target : Target) (rs : List TransactionRecord) → CanChangeTarget rs e.date target → HasTarget rs target
      changes_there (Account name) rs can = tt
      changes_there (TransactionOf id) rs can = can.is_id
  are_added (Reverted id t) is rs can f h = revert_after id t is can.1.0 can.0.is_id.0 (not_undone added id t (subst (λ b. reverts_wrong added b ≡ false) is f.revert)) rs h
  are_added (DeleteMetadata target name) is rs can f h = target_after target rs (changes_there target rs can) (ap changed_id is) (λ n. ap (λ b. find (undoes n) (body_undoings e.date b)) is) h
    where
      changes_there : (target : Target) (rs : List TransactionRecord) → CanChangeTarget rs e.date target → HasTarget rs target
      changes_there (Account name) rs can = tt
      changes_there (TransactionOf id) rs can = can.is_id

  -- ---- what is prepared may be added

  change_there : (rs : List TransactionRecord) (id : ℕ) → IsIdIn rs id → changed_id e.body ≡ Some id → IsSound added → is_before (last_of added) e.date ≡ false → AreRecords added (e ∷ rest) rs → CanChange rs e.date id
  change_there rs id there ids sound dated h =
      let r = there_within (id - 1) rs (omega (arith, there.0, there.1)) in
      let at : suc (id - 1) ≡ id = omega (arith, there.0) in
      let is : IsRecord added (e ∷ rest) id r.0 = subst (λ n. IsRecord added (e ∷ rest) n r.0) at (h (id - 1) r.0 r.1) in
      let first : changes_of (changes_about (TransactionOf id) (e ∷ rest)) ≡ change_in e.body ∷ changes_of (changes_about (TransactionOf id) rest) = ap changes_of (about-cons id e rest ∙ ap (λ l. l ++ changes_about (TransactionOf id) rest) (own_change_is id e ids)) in
      record {
        is_id = there;
        first = subst (λ o. IfSome o (λ y. IsSome (slice_get y.history.prepared 0))) (sym r.1) (subst (λ cs. IsSome (slice_get cs 0)) (sym (is.prepared_changes ∙ first)) refl);
        later = subst (λ o. IfSome o (λ y. IfSome (last_date y.history.changes) (λ last. last ≤ℤ e.date))) (sym r.1) (subst (λ cs. IfSome (last_date cs) (λ last. last ≤ℤ e.date)) (sym is.changes) (sound.dates e.date id dated));
      }

  target_can : (rs : List TransactionRecord) (target : Target) → HasTarget rs target → changed_id e.body ≡ target_id target → IsSound added → is_before (last_of added) e.date ≡ false → AreRecords added (e ∷ rest) rs → CanChangeTarget rs e.date target
  target_can rs (Account name) there ids sound dated h = tt
  target_can rs (TransactionOf id) there ids sound dated h = change_there rs id there ids sound dated h

-- ids of the transactions of a log are ids of a longer list of records
pub is_id_more : (g : List Entry) (rs : List TransactionRecord) (id : ℕ) → IsSound g → length (transactions g) ≤ length rs → is_none (find_transaction g id) ≡ false → IsIdIn rs id
is_id_more g rs id h le there =
    let r = id_there (transactions g) (transactions g) id refl (λ none. none_is (find_transaction g id) there (find-transaction g h id ∙ none)) in
    (r.0, omega (arith, r.1, le))

target_more : (g : List Entry) (rs : List TransactionRecord) (target : Target) → IsSound g → length (transactions g) ≤ length rs → is_missing g target ≡ false → HasTarget rs target
target_more g rs (Account name) h le there = tt
target_more g rs (TransactionOf id) h le there = is_id_more g rs id h le there

pub can_add : (added rest : List Entry) (e : Entry) (body : EntryBody) → e.body ≡ body → (rs : List TransactionRecord) → IsSound added → MayFollowLog added e
    → length (transactions added) + count_made body ≤ length rs → AreRecords added (e ∷ rest) rs → CanAddTo rs e.date body
can_add added rest e (NewTransaction t accounts) is rs sound f le h =
    let next : t.id ≡ length (transactions added) + 1 = next_id added t (subst (λ b. is_misnumbered added (body_transaction b) ≡ false) is f.transaction) in
    change_there added rest e rs t.id (omega (arith, next), omega (arith, next, le)) (ap changed_id is) sound f.date h
can_add added rest e (SetMetadata target metadata) is rs sound f le h =
    target_can added rest e rs target (target_more added rs target sound (omega (arith, le)) (subst (λ b. targets_wrong added b ≡ false) is f.target)) (ap changed_id is) sound f.date h
can_add added rest e (Reverted id t) is rs sound f le h =
    let next : t.id ≡ length (transactions added) + 1 = next_id added t (subst (λ b. is_misnumbered added (body_transaction b) ≡ false) is f.transaction) in
    let wrong : (is_none (find_transaction added id) || is_some (undone added id)) ≡ false = subst (λ b. reverts_wrong added b ≡ false) is f.revert in
    (change_there added rest e rs t.id (omega (arith, next), omega (arith, next, le)) (ap changed_id is) sound f.date h, is_id_more added rs id sound (omega (arith, le)) (or_left _ _ wrong))
can_add added rest e (DeleteMetadata target name) is rs sound f le h =
    target_can added rest e rs target (target_more added rs target sound (omega (arith, le)) (subst (λ b. targets_wrong added b ≡ false) is f.target)) (ap changed_id is) sound f.date h
