-- What holds of a log whose entries each may follow those before it.
use Rattle.std.proofs.Common.{◌≡◌, ℕ, zero, suc, ◌+◌, ◌<◌, ◌≤◌, ℤ, ◌≤ℤ◌, Bool, true, false, not, cond, ◌||◌, List, [], ◌∷◌, ◌++◌, map, length, take, slice_get, IfSome, Option, Some, None, refl, sym, ap, subst, ◌∙◌, inl, inr, arith}
use Rattle.std.specs.Prelude.{◌⊎◌, nat_eq, int_lt, is_some, is_none}
use Rattle.std.specs.Option.{option_map, option_or}
use Rattle.std.specs.List.{flat_map, filter, find, last_or, list_any}
use Rattle.std.specs.Str.{bytes_eq}
use Rattle.std.proofs.lemmas.Int.{ints}
use Rattle.std.proofs.lemmas.List.{append-nil, length-append, map-append}
use Rattle.std.proofs.lemmas.List.Elements.{filter-append}
use Rattle.std.proofs.lemmas.List.Folds.{find-append, list_any-append}
use Rattle.std.proofs.lemmas.Grind.{flat_map-append}
use Rattle.std.proofs.lemmas.Bool.{eqb-true, eq-eqb}
use Rattle.std.proofs.lemmas.Slice.Eq.{bytes_eq-Decides}
use Rattle.lg_containers.specs.NameTable as table
use Rattle.lg_meta.specs.declared.change.DatedChange.{DatedChange}
use Rattle.lg_meta.specs.MetaFold.{changes_about, dated_change, last_date}
use Rattle.lg_types.specs.declared.changes.MetaChange.{MetaChange}
use Rattle.lg_types.specs.declared.changes.MetaChange.TheVariants.{Set, Drop}
use Rattle.lg_types.specs.declared.records.Entry.{Entry}
use Rattle.lg_types.specs.declared.records.EntryBody.{EntryBody}
use Rattle.lg_types.specs.declared.records.EntryBody.TheVariants.{NewTransaction, SetMetadata, Reverted, DeleteMetadata}
use Rattle.lg_types.specs.declared.records.Event.{Event}
use Rattle.lg_types.specs.declared.records.Event.TheVariants.{Made, Logged}
use Rattle.lg_types.specs.declared.records.Target.{Target}
use Rattle.lg_types.specs.declared.records.Target.TheVariants.{Account, Transaction as TransactionOf}
use Rattle.lg_types.specs.declared.records.Transaction.{Transaction}
use Rattle.lg_types.specs.Changes.{MetaOf, Change, account_change, body_changes, entry_changes, changes, same_target, is_about}
use Rattle.lg_types.specs.Known.{Dated, dated, entry_transactions, transactions, has_id, find_transaction, Undoing, body_undoings, entry_undoings, undoings, undoes, undone, next_transaction}
use Rattle.lg_types.specs.Lists.{last_of}
use Rattle.lg_types.specs.Log.{log, logged, is_there, is_made_as}
use Rattle.lg_types.specs.Moves.{body_transaction}
use Rattle.lg_views.specs.Import.{is_before, is_misnumbered, is_missing, reverts_wrong, targets_wrong}
use Rattle.lg_book.specs.Following.{MayFollowLog, MayFollow, IsGrown}
use Rattle.lg_book.proofs.Lists.{some_same, not_some, snoc_cases, slice_get-append, take-snoc, there_within}

-- ---- one entry more

pub transactions-snoc : (g : List Entry) (e : Entry) → transactions (g ++ e ∷ []) ≡ transactions g ++ entry_transactions e
transactions-snoc g e = flat_map-append entry_transactions g (e ∷ []) ∙ ap (λ l. transactions g ++ l) (append-nil (entry_transactions e))

-- the changes that an entry makes of the metadata of a transaction
abbrev pub own_changes : ℕ → Entry → List DatedChange
own_changes id e = map dated_change (filter (is_about (TransactionOf id)) (entry_changes e))

pub about-snoc : (id : ℕ) (g : List Entry) (e : Entry) → changes_about (TransactionOf id) (g ++ e ∷ []) ≡ changes_about (TransactionOf id) g ++ own_changes id e
about-snoc id g e =
    ap (λ cs. map dated_change (filter (is_about (TransactionOf id)) cs)) (flat_map-append entry_changes g (e ∷ []) ∙ ap (λ l. changes g ++ l) (append-nil (entry_changes e)))
    ∙ ap (map dated_change) (filter-append (is_about (TransactionOf id)) (changes g) (entry_changes e))
    ∙ map-append dated_change (filter (is_about (TransactionOf id)) (changes g)) (filter (is_about (TransactionOf id)) (entry_changes e))

pub undone-snoc : (id : ℕ) (g : List Entry) (e : Entry) → undone (g ++ e ∷ []) id ≡ option_or (undone g id) (find (undoes id) (entry_undoings e))
undone-snoc id g e =
    ap (find (undoes id)) (flat_map-append entry_undoings g (e ∷ []) ∙ ap (λ l. undoings g ++ l) (append-nil (entry_undoings e)))
    ∙ find-append (undoes id) (undoings g) (entry_undoings e)

pub found-snoc : (id : ℕ) (g : List Entry) (e : Entry) → find_transaction (g ++ e ∷ []) id ≡ option_or (find_transaction g id) (find (has_id id) (entry_transactions e))
found-snoc id g e = ap (find (has_id id)) (transactions-snoc g e) ∙ find-append (has_id id) (transactions g) (entry_transactions e)

last_snoc : {A : Type 0} (o : Option A) (xs : List A) (x : A) → last_or o (xs ++ x ∷ []) ≡ Some x
last_snoc o [] x = refl
last_snoc o (y ∷ xs) x = last_snoc (Some y) xs x

-- ---- changes of an entry

pub accounts_aside : (id : ℕ) (date : ℤ) (pairs : List (List ℕ × MetaOf)) → filter (is_about (TransactionOf id)) (map (account_change date) pairs) ≡ []
accounts_aside id date [] = refl
accounts_aside id date (p ∷ pairs) = accounts_aside id date pairs

-- the transaction whose metadata a body changes, and how
abbrev pub target_id : Target → Option ℕ
target_id (Account name) = None
target_id (TransactionOf id) = Some id

abbrev pub changed_id : EntryBody → Option ℕ
changed_id (NewTransaction t accounts) = Some t.id
changed_id (SetMetadata target metadata) = target_id target
changed_id (Reverted id t) = Some t.id
changed_id (DeleteMetadata target name) = target_id target

abbrev pub change_in : EntryBody → MetaChange
change_in (NewTransaction t accounts) = Set t.metadata
change_in (SetMetadata target metadata) = Set metadata
change_in (Reverted id t) = Set t.metadata
change_in (DeleteMetadata target name) = Drop name

abbrev pub dated_as : ℤ → MetaChange → DatedChange
dated_as date change = record { date = date; change = change }

abbrev pub if_id : ℤ → Option ℕ → MetaChange → ℕ → List DatedChange
if_id date None change id = []
if_id date (Some j) change id = cond (nat_eq j id) (dated_as date change ∷ []) []

abbrev change_to : ℤ → Target → MetaChange → Change
change_to date target change = record { target = target; date = date; change = change }

mapped_if : (b : Bool) (c : Change) → map dated_change (cond b (c ∷ []) []) ≡ cond b (dated_change c ∷ []) []
mapped_if true c = refl
mapped_if false c = refl

target_change : (date : ℤ) (target : Target) (change : MetaChange) (id : ℕ) → map dated_change (filter (is_about (TransactionOf id)) (change_to date target change ∷ [])) ≡ if_id date (target_id target) change id
target_change date (Account name) change id = refl
target_change date (TransactionOf j) change id = mapped_if (nat_eq j id) (change_to date (TransactionOf j) change)

body_change : (date : ℤ) (body : EntryBody) (id : ℕ) → map dated_change (filter (is_about (TransactionOf id)) (body_changes date body)) ≡ if_id date (changed_id body) (change_in body) id
body_change date (NewTransaction t accounts) id =
    ap (λ l. map dated_change (cond (nat_eq t.id id) (change_to date (TransactionOf t.id) (Set t.metadata) ∷ l) l)) (accounts_aside id date (table.pairs_of accounts))
    ∙ mapped_if (nat_eq t.id id) (change_to date (TransactionOf t.id) (Set t.metadata))
body_change date (SetMetadata target metadata) id = target_change date target (Set metadata) id
body_change date (Reverted j t) id = target_change date (TransactionOf t.id) (Set t.metadata) id
body_change date (DeleteMetadata target name) id = target_change date target (Drop name) id

pub own-changes : (id : ℕ) (e : Entry) → own_changes id e ≡ if_id e.date (changed_id e.body) (change_in e.body) id
own-changes id e = body_change e.date e.body id

-- ---- what an entry that may follow says

false_not_true : {A : Type 0} → false ≡ true → A
false_not_true h = absurd (let f : false ≡ true = h in cc)

pub not_false : (b : Bool) → not b ≡ false → b ≡ true
not_false true h = refl
not_false false h = sym h

pub none_is : {A : Type 0} (o : Option A) → is_none o ≡ false → o ≡ None → ⊥
none_is None h e = absurd (let f : true ≡ false = h in cc)
none_is (Some x) h e = absurd (let f : ◌≡◌ {A = Option _} (Some x) None = e in cc)

pub no_some : {A : Type 0} (o : Option A) → is_some o ≡ false → o ≡ None
no_some None h = refl
no_some (Some x) h = absurd (let f : true ≡ false = h in cc)

pub or_left : (a b : Bool) → (a || b) ≡ false → a ≡ false
or_left true b h = absurd (let f : true ≡ false = h in cc)
or_left false b h = refl

pub or_right : (a b : Bool) → (a || b) ≡ false → b ≡ false
or_right true b h = absurd (let f : true ≡ false = h in cc)
or_right false b h = h

-- the first of two that aren't there isn't there
pub first_none : {A : Type 0} (a b : Option A) → option_or a b ≡ None → a ≡ None
first_none None b h = refl
first_none (Some x) b h = h

second_none : {A : Type 0} (a b : Option A) → option_or a b ≡ None → b ≡ None
second_none None b h = h
second_none (Some x) b h = absurd (let f : ◌≡◌ {A = Option _} (Some x) None = h in cc)

-- the id that a new transaction has
pub next_id : (g : List Entry) (t : Transaction) → is_misnumbered g (Some t) ≡ false → t.id ≡ length (transactions g) + 1
next_id g t h = eqb-true t.id (length (transactions g) + 1) (not_false _ h)

own_found : (date : ℤ) (t : Transaction) → find (has_id t.id) (dated date (Some t)) ≡ None → ⊥
own_found date t h =
    let d : Dated = record { date = date; transaction = t } in
    none_is _ (ap (λ b. is_none {T = Dated} (cond b (Some d) None)) (eq-eqb t.id t.id refl)) h

target_found : (g : List Entry) (target : Target) (j : ℕ) → is_missing g target ≡ false → target_id target ≡ Some j → find_transaction g j ≡ None → ⊥
target_found g (Account name) j h e none = not_some j e
target_found g (TransactionOf id) j h e none = none_is (find_transaction g id) h (ap (find_transaction g) (some_same id j e) ∙ none)

body_found : (g : List Entry) (date : ℤ) (body : EntryBody) (j : ℕ) → targets_wrong g body ≡ false → changed_id body ≡ Some j
    → find_transaction g j ≡ None → find (has_id j) (dated date (body_transaction body)) ≡ None → ⊥
body_found g date (NewTransaction t accounts) j h e none own = own_found date t (ap (λ id. find (has_id id) (dated date (Some t))) (some_same t.id j e) ∙ own)
body_found g date (SetMetadata target metadata) j h e none own = target_found g target j h e none
body_found g date (Reverted id t) j h e none own = own_found date t (ap (λ n. find (has_id n) (dated date (Some t))) (some_same t.id j e) ∙ own)
body_found g date (DeleteMetadata target name) j h e none own = target_found g target j h e none

no_change : (date : ℤ) (o : Option ℕ) (change : MetaChange) (id : ℕ) → (o ≡ Some id → ⊥) → if_id date o change id ≡ []
no_change date None change id h = refl
no_change date (Some j) change id h = by_test (nat_eq j id) refl
  where
    by_test : (b : Bool) → nat_eq j id ≡ b → cond b (dated_as date change ∷ []) [] ≡ []
    by_test true e = absurd (h (ap Some (eqb-true j id e)))
    by_test false e = refl

pub no_own_changes : (id : ℕ) (e : Entry) → (changed_id e.body ≡ Some id → ⊥) → own_changes id e ≡ []
no_own_changes id e h = own-changes id e ∙ no_change e.date (changed_id e.body) (change_in e.body) id h

pub own_change_is : (id : ℕ) (e : Entry) → changed_id e.body ≡ Some id → own_changes id e ≡ dated_as e.date (change_in e.body) ∷ []
own_change_is id e h =
    own-changes id e
    ∙ ap (λ o. if_id e.date o (change_in e.body) id) h
    ∙ ap (λ b. cond b (dated_as e.date (change_in e.body) ∷ []) []) (eq-eqb id id refl)

body_undone : (g : List Entry) (date : ℤ) (body : EntryBody) (id : ℕ) → reverts_wrong g body ≡ false → find_transaction g id ≡ None → find (undoes id) (body_undoings date body) ≡ None
body_undone g date (NewTransaction t accounts) id h none = refl
body_undone g date (SetMetadata target metadata) id h none = refl
body_undone g date (Reverted j t) id h none = by_test (nat_eq j id) refl
  where
    by_test : (b : Bool) → nat_eq j id ≡ b → cond {A = Option Undoing} b (Some (record { reverted = j; by = t.id; date = date })) None ≡ None
    by_test true e = absurd (none_is (find_transaction g j) (or_left _ _ h) (ap (find_transaction g) (eqb-true j id e) ∙ none))
    by_test false e = refl
body_undone g date (DeleteMetadata target name) id h none = refl

-- what an entry reverts isn't reverted
pub not_undone : (g : List Entry) (id : ℕ) (t : Transaction) → reverts_wrong g (Reverted id t) ≡ false → undone g id ≡ None
not_undone g id t h = no_some (undone g id) (or_right (is_none (find_transaction g id)) (is_some (undone g id)) h)

-- ---- a log whose entries may follow

pub record IsSound (g : List Entry) : Type 0 where
  pub ids : (k : ℕ) (e : Entry) → slice_get g k ≡ Some e → e.id ≡ suc k
  pub transaction_ids : (k : ℕ) (d : Dated) → slice_get (transactions g) k ≡ Some d → d.transaction.id ≡ suc k
  pub changed : (id : ℕ) → find_transaction g id ≡ None → changes_about (TransactionOf id) g ≡ []
  pub undone_is : (id : ℕ) → find_transaction g id ≡ None → undone g id ≡ None
  pub dates : (date : ℤ) (id : ℕ) → is_before (last_of g) date ≡ false → IfSome (last_date (changes_about (TransactionOf id) g)) (λ last. last ≤ℤ date)

pub sound-nil : IsSound []
sound-nil = record {
  ids = λ k e h. absurd (not_some e h);
  transaction_ids = λ k d h. absurd (not_some d h);
  changed = λ id h. refl;
  undone_is = λ id h. refl;
  dates = λ date id h. tt;
}

last_date-snoc : (cs : List DatedChange) (c : DatedChange) → last_date (cs ++ c ∷ []) ≡ Some c.date
last_date-snoc [] c = refl
last_date-snoc (d ∷ []) c = refl
last_date-snoc (d ∷ e ∷ cs) c = last_date-snoc (e ∷ cs) c

not_less : (a b : ℤ) → int_lt a b ≡ false → b ≤ℤ a
not_less a b h = grind (arith, ints)

up_to_later : (o : Option ℤ) (a b : ℤ) → a ≤ℤ b → IfSome o (λ last. last ≤ℤ a) → IfSome o (λ last. last ≤ℤ b)
up_to_later None a b le h = tt
up_to_later (Some last) a b le h = omega (arith, ints)

dates_more : (cs : List DatedChange) (date later : ℤ) (o : Option ℕ) (change : MetaChange) (id : ℕ) → date ≤ℤ later → IfSome (last_date cs) (λ last. last ≤ℤ date) → IfSome (last_date (cs ++ if_id date o change id)) (λ last. last ≤ℤ later)
dates_more cs date later None change id le h = subst (λ l. IfSome (last_date l) (λ last. last ≤ℤ later)) (sym (append-nil cs)) (up_to_later (last_date cs) date later le h)
dates_more cs date later (Some j) change id le h =
    elim (nat_eq j id) as (λ b. IfSome (last_date (cs ++ cond b (dated_as date change ∷ []) [])) (λ last. last ≤ℤ later)) [
      | true ↦ subst (λ o. IfSome o (λ last. last ≤ℤ later)) (sym (last_date-snoc cs (dated_as date change))) le
      | false ↦ subst (λ l. IfSome (last_date l) (λ last. last ≤ℤ later)) (sym (append-nil cs)) (up_to_later (last_date cs) date later le h)
    ]

new_ids : (g : List Entry) (date : ℤ) (o : Option Transaction) → ((k : ℕ) (d : Dated) → slice_get (transactions g) k ≡ Some d → d.transaction.id ≡ suc k) → is_misnumbered g o ≡ false
    → (k : ℕ) (d : Dated) → slice_get (transactions g ++ dated date o) k ≡ Some d → d.transaction.id ≡ suc k
new_ids g date None ids h k d e = ids k d (subst (λ l. slice_get l k ≡ Some d) (append-nil (transactions g)) e)
new_ids g date (Some t) ids h k d e =
    elim (snoc_cases (transactions g) (record { date = date; transaction = t }) d k e) [
      | inl old ↦ ids k d old
      | inr new ↦ ap (λ x. x.transaction.id) (sym new.1) ∙ next_id g t h ∙ (let at : k ≡ length (transactions g) = new.0 in let r : length (transactions g) + 1 ≡ suc k = omega (arith, at) in r)
    ]

pub sound-snoc : (g : List Entry) (e : Entry) → IsSound g → MayFollowLog g e → IsSound (g ++ e ∷ [])
sound-snoc g e h f = record {
  ids = λ k x is. elim (snoc_cases g e x k is) [
    | inl old ↦ h.ids k x old
    | inr new ↦ ap (λ y. y.id) (sym new.1) ∙ f.id ∙ (let at : k ≡ length g = new.0 in let r : length g + 1 ≡ suc k = omega (arith, at) in r)
  ];
  transaction_ids = λ k d is. new_ids g e.date (body_transaction e.body) h.transaction_ids f.transaction k d (subst (λ l. slice_get l k ≡ Some d) (transactions-snoc g e) is);
  changed = λ id none.
      let both : option_or (find_transaction g id) (find (has_id id) (entry_transactions e)) ≡ None = sym (found-snoc id g e) ∙ none in
      about-snoc id g e
      ∙ ap (λ l. l ++ own_changes id e) (h.changed id (first_none _ _ both))
      ∙ no_own_changes id e (λ is. body_found g e.date e.body id f.target is (first_none _ _ both) (second_none _ _ both));
  undone_is = λ id none.
      let first : find_transaction g id ≡ None = first_none _ _ (sym (found-snoc id g e) ∙ none) in
      undone-snoc id g e
      ∙ ap (λ o. option_or o (find (undoes id) (entry_undoings e))) (h.undone_is id first)
      ∙ body_undone g e.date e.body id f.revert first;
  dates = λ date id after.
      subst (λ l. IfSome (last_date l) (λ last. last ≤ℤ date)) (sym (about-snoc id g e ∙ ap (λ l. changes_about (TransactionOf id) g ++ l) (own-changes id e)))
      (dates_more (changes_about (TransactionOf id) g) e.date date (changed_id e.body) (change_in e.body) id
      (not_less date e.date (subst (λ o. is_before o date ≡ false) (last_snoc None g e) after)) (h.dates e.date id f.date));
}

-- ---- every prefix of a grown list

pub same_bytes : (x : List ℕ) → bytes_eq x x ≡ true
same_bytes x = (bytes_eq-Decides x x).1 refl

pub bytes_same : (x y : List ℕ) → bytes_eq x y ≡ true → x ≡ y
bytes_same x y h = (bytes_eq-Decides x y).0 h

pub log-snoc : (ledger : List ℕ) (events : List Event) (event : Event) → log (events ++ event ∷ []) ledger ≡ log events ledger ++ logged ledger event
log-snoc ledger events event = flat_map-append (logged ledger) events (event ∷ []) ∙ ap (λ l. log events ledger ++ l) (append-nil (logged ledger event))

sound_more : (ledger : List ℕ) (events : List Event) (event : Event) → IsSound (log events ledger) → MayFollow events event → IsSound (log events ledger ++ logged ledger event)
sound_more ledger events (Made info) h f = subst IsSound (sym (append-nil (log events ledger))) h
sound_more ledger events (Logged name e) h f = by_test (bytes_eq name ledger) refl
  where
    by_test : (b : Bool) → bytes_eq name ledger ≡ b → IsSound (log events ledger ++ cond b (e ∷ []) [])
    by_test true is = sound-snoc (log events ledger) e h (subst (λ n. MayFollowLog (log events n) e) (bytes_same name ledger is) f.1)
    by_test false is = subst IsSound (sym (append-nil (log events ledger))) h

pub sound-take : (all : List Event) → IsGrown all → (ledger : List ℕ) (k : ℕ) → k ≤ length all → IsSound (log (take k all) ledger)
sound-take all h ledger zero le = sound-nil
sound-take all h ledger (suc k) le =
    let at = there_within k all (omega arith) in
    subst IsSound (sym (ap (λ es. log es ledger) (take-snoc k all at.0 at.1) ∙ log-snoc ledger (take k all) at.0))
    (sound_more ledger (take k all) at.0 (sound-take all h ledger k (omega arith)) (h.each k at.0 at.1))

-- a ledger that isn't there has no entry
none_more : (ledger : List ℕ) (events : List Event) (event : Event) → MayFollow events event → (is_there events ledger ≡ false → log events ledger ≡ []) → is_there (events ++ event ∷ []) ledger ≡ false → log events ledger ++ logged ledger event ≡ []
none_more ledger events (Made info) f before none = ap (λ l. l ++ []) (before (or_left _ _ (sym (list_any-append (is_made_as ledger) events (Made info ∷ [])) ∙ none)))
none_more ledger events (Logged name e) f before none = by_test (bytes_eq name ledger) refl
  where
    gone : is_there events ledger ≡ false
    gone = or_left _ _ (sym (list_any-append (is_made_as ledger) events (Logged name e ∷ [])) ∙ none)

    by_test : (b : Bool) → bytes_eq name ledger ≡ b → log events ledger ++ cond b (e ∷ []) [] ≡ []
    by_test true is = absurd (let there : is_there events ledger ≡ true = subst (λ n. is_there events n ≡ true) (bytes_same name ledger is) f.0 in let h : true ≡ false = sym there ∙ gone in cc)
    by_test false is = ap (λ l. l ++ []) (before gone)

pub absent-take : (all : List Event) → IsGrown all → (ledger : List ℕ) (k : ℕ) → k ≤ length all → is_there (take k all) ledger ≡ false → log (take k all) ledger ≡ []
absent-take all h ledger zero le none = refl
absent-take all h ledger (suc k) le none =
    let at = there_within k all (omega arith) in
    let more : take (suc k) all ≡ take k all ++ at.0 ∷ [] = take-snoc k all at.0 at.1 in
    ap (λ es. log es ledger) more
    ∙ log-snoc ledger (take k all) at.0
    ∙ none_more ledger (take k all) at.0 (h.each k at.0 at.1) (absent-take all h ledger k (omega arith)) (subst (λ es. is_there es ledger ≡ false) more none)
