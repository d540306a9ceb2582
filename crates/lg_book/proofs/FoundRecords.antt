-- What is read through what is kept of a ledger.
use Rattle.std.proofs.Common.{◌≡◌, ℕ, zero, suc, ◌+◌, ◌<◌, ◌≤◌, ℤ, Bool, true, false, cond, ◌||◌, List, [], ◌∷◌, ◌++◌, map, length, take, drop, slice_get, IsTrue, IfSome, Option, Some, None, refl, sym, ap, ap₂, subst, ◌∙◌, append_assoc, inl, inr, arith}
use Rattle.std.specs.Prelude.{◌⊎◌, is_some}
use Rattle.std.specs.Option.{option_map}
use Rattle.std.specs.List.{flat_map, find, list_any, last_or}
use Rattle.std.specs.Str.{bytes_eq}
use Rattle.std.proofs.lemmas.List.{append-nil, length-append, take-append-le, take-append-drop}
use Rattle.std.proofs.lemmas.Option.{slice_get-map}
use Rattle.std.proofs.lemmas.Grind.{flat_map-append}
use Rattle.lg_meta.specs.MetaFold.{changes_about}
use Rattle.lg_types.specs.declared.records.Entry.{Entry}
use Rattle.lg_types.specs.declared.records.Event.{Event}
use Rattle.lg_types.specs.declared.records.Event.TheVariants.{Made, Logged}
use Rattle.lg_types.specs.declared.records.LedgerInfo.{LedgerInfo}
use Rattle.lg_types.specs.declared.records.Target.TheVariants.{Transaction as TransactionOf}
use Rattle.lg_types.specs.declared.records.Transaction.{Transaction}
use Rattle.lg_types.specs.Known.{Dated, dated, transactions, entry_transactions, find_transaction, undone}
use Rattle.lg_types.specs.Lists.{last_of}
use Rattle.lg_types.specs.Log.{log, logged, made, ledgers, is_there, is_made_as}
use Rattle.lg_types.specs.Moves.{body_transaction}
use Rattle.lg_views.specs.Outcome.{is_named}
use Rattle.lg_book.specs.declared.records.EntryRecord.{EntryRecord}
use Rattle.lg_book.specs.declared.records.TransactionRecord.{TransactionRecord}
use Rattle.lg_book.specs.declared.volumes.FirstVolumes.{FirstVolumes}
use Rattle.lg_book.specs.FirstVolumes.{entry_volumes}
use Rattle.lg_book.specs.Reading.{ledger_of, find_entry, transaction_of, date_of, transaction_at, inserted_at, reverting_of, reverted_by}
use Rattle.lg_book.specs.Index.{places_of, by_id, made_as, event_transactions, LedgerPart, ledger_part, LedgerView, entry_place, first_volumes, transaction_place, all_volumes, IsRecord, IsIndex, IsIndexed, entry_there, info_there, info_if, entry_by_record, made_by_record, transaction_by_entry, date_by_entry, reverted_by_record, history_of}
use Rattle.lg_book.proofs.Lists.{some_same, not_some, slice_get_more, slice_get-take, slice_get_within_length, there_within, none_past, find-by_id}
use Rattle.lg_book.proofs.Places.{Found, found, length-places}
use Rattle.lg_book.proofs.Sound.{IsSound, no_some}
use Rattle.lg_book.proofs.IndexSteps.{whole_log, transactions-events}
use Rattle.lg_book.proofs.RecordSteps.{find-transaction}

-- ---- what events make

one_logged : (ledger : List ℕ) (event : Event) → length (logged ledger event) ≤ 1
one_logged ledger (Made info) = omega arith
one_logged ledger (Logged name e) = elim (bytes_eq name ledger) as (λ b. length (cond b (e ∷ []) []) ≤ 1) [ true ↦ omega arith | false ↦ omega arith ]

one_made : (ledger : List ℕ) (event : Event) → length (made_as ledger event) ≤ 1
one_made ledger (Made info) = elim (bytes_eq info.name ledger) as (λ b. length (cond b (info ∷ []) []) ≤ 1) [ true ↦ omega arith | false ↦ omega arith ]
one_made ledger (Logged name e) = omega arith

one_dated : (date : ℤ) (o : Option Transaction) → length (dated date o ++ []) ≤ 1
one_dated date None = omega arith
one_dated date (Some t) = omega arith

one_transaction : (ledger : List ℕ) (event : Event) → length (event_transactions ledger event) ≤ 1
one_transaction ledger (Made info) = omega arith
one_transaction ledger (Logged name e) =
    elim (bytes_eq name ledger) as (λ b. length (flat_map entry_transactions (cond b (e ∷ []) [])) ≤ 1)
    [ true ↦ one_dated e.date (body_transaction e.body) | false ↦ omega arith ]

nil_not_cons : {A : Type 0} (x : A) (xs : List A) → [] ≡ x ∷ xs → ⊥
nil_not_cons x xs h = cc

first_same : {A : Type 0} (x y : A) → x ∷ [] ≡ y ∷ [] → x ≡ y
first_same x y h = cc

entry_makes : (ledger : List ℕ) (event : Event) (e : Entry) → logged ledger event ≡ e ∷ [] → entry_there (Some event) ≡ Some e
entry_makes ledger (Made info) e h = absurd (nil_not_cons e [] h)
entry_makes ledger (Logged name x) e h = by_test (bytes_eq name ledger) h
  where
    by_test : (b : Bool) → cond b (x ∷ []) [] ≡ e ∷ [] → Some x ≡ Some e
    by_test true k = ap Some (first_same x e k)
    by_test false k = absurd (nil_not_cons e [] k)

info_makes : (ledger : List ℕ) (event : Event) (info : LedgerInfo) → made_as ledger event ≡ info ∷ [] → info_there (Some event) ≡ Some info
info_makes ledger (Made x) info h = by_test (bytes_eq x.name ledger) h
  where
    by_test : (b : Bool) → cond b (x ∷ []) [] ≡ info ∷ [] → Some x ≡ Some info
    by_test true k = ap Some (first_same x info k)
    by_test false k = absurd (nil_not_cons info [] k)
info_makes ledger (Logged name e) info h = absurd (nil_not_cons info [] h)

record MakesDated (event : Event) (d : Dated) : Type 0 where
  entry : Entry
  is : entry_there (Some event) ≡ Some entry
  transaction_is : body_transaction entry.body ≡ Some d.transaction
  date_is : entry.date ≡ d.date

dated_makes : (date : ℤ) (o : Option Transaction) (d : Dated) → dated date o ++ [] ≡ d ∷ [] → (o ≡ Some d.transaction) × (date ≡ d.date)
dated_makes date None d h = absurd (nil_not_cons d [] h)
dated_makes date (Some t) d h = let same = first_same (record { date = date; transaction = t }) d h in (ap (λ x. Some x.transaction) same, ap (λ x. x.date) same)

transaction_makes : (ledger : List ℕ) (event : Event) (d : Dated) → event_transactions ledger event ≡ d ∷ [] → MakesDated event d
transaction_makes ledger (Made info) d h = absurd (nil_not_cons d [] h)
transaction_makes ledger (Logged name e) d h = by_test (bytes_eq name ledger) h
  where
    by_test : (b : Bool) → flat_map entry_transactions (cond b (e ∷ []) []) ≡ d ∷ [] → MakesDated (Logged name e) d
    by_test true k = let r = dated_makes e.date (body_transaction e.body) d k in record { entry = e; is = refl; transaction_is = r.0; date_is = r.1 }
    by_test false k = absurd (nil_not_cons d [] k)

-- ---- lists

mapped : {A B : Type 0} (f : A → B) (o : Option A) (y : B) → option_map f o ≡ Some y → (x : A) × (o ≡ Some x) × (f x ≡ y)
mapped f None y h = absurd (not_some y h)
mapped f (Some x) y h = (x, refl, some_same (f x) y h)

cases_at : (a b : ℕ) → (a < b) ⊎ (b ≤ a)
cases_at a zero = inr (omega arith)
cases_at zero (suc b) = inl (omega arith)
cases_at (suc a) (suc b) = elim (cases_at a b) [ inl lt ↦ inl (omega (arith, lt)) | inr le ↦ inr (omega (arith, le)) ]

none_taken : {A : Type 0} (n : ℕ) (xs : List A) (k : ℕ) → n ≤ k → slice_get (take n xs) k ≡ None
none_taken zero xs k h = refl
none_taken (suc n) [] k h = refl
none_taken (suc n) (x ∷ xs) zero h = absurd (omega arith)
none_taken (suc n) (x ∷ xs) (suc k) h = none_taken n xs k (omega arith)

last-by_id_from : {A : Type 0} (o : Option A) (x : A) (xs : List A) → last_or o (x ∷ xs) ≡ slice_get (x ∷ xs) (length xs)
last-by_id_from o x [] = refl
last-by_id_from o x (y ∷ ys) = last-by_id_from (Some x) y ys

pub last-by_id : {A : Type 0} (xs : List A) → by_id xs (length xs) ≡ last_of xs
last-by_id [] = refl
last-by_id (x ∷ xs) = sym (last-by_id_from None x xs)

pub volumes-at : (before g : List Entry) (k : ℕ) (e : Entry) → slice_get g k ≡ Some e → slice_get (all_volumes before g) k ≡ Some (entry_volumes (before ++ take (suc k) g) e)
volumes-at before [] k e h = absurd (not_some e h)
volumes-at before (x ∷ g) zero e h = ap (λ y. Some (entry_volumes (before ++ x ∷ []) y)) (some_same x e h)
volumes-at before (x ∷ g) (suc k) e h =
    volumes-at (before ++ x ∷ []) g k e h ∙ ap (λ l. Some (entry_volumes l e)) (append_assoc before (x ∷ []) (take (suc k) g))

-- ---- by the index of a ledger

module _ (ledger : List ℕ) (count : ℕ) (all : List Event) (x : LedgerView) (h : IsIndex (ledger_part ledger count all) x) (sound : IsSound (log (take count all) ledger)) where
  -- the entry of an id, and what is kept of it
  pub data ReadsEntry (id : ℕ) : Type 0 where
    NoEntry : find_entry (log (take count all) ledger) id ≡ None → by_id (take x.logged x.entries) id ≡ None → ReadsEntry id
    AnEntry : (e : Entry) (r : EntryRecord) → find_entry (log (take count all) ledger) id ≡ Some e → by_id (take x.logged x.entries) id ≡ Some r → entry_there (slice_get all r.place) ≡ Some e
        → r.volumes ≡ entry_volumes (take id (log (take count all) ledger)) e → id ≡ e.id → ReadsEntry id

  find-entry : (id : ℕ) → find_entry (log (take count all) ledger) id ≡ by_id (log (take count all) ledger) id
  find-entry id = find-by_id (λ (e : Entry). e.id) (log (take count all) ledger) sound.ids id

  entry_at_place : (k : ℕ) → k < length (log (take count all) ledger) → ReadsEntry (suc k)
  entry_at_place k lt =
      let e = there_within k (log (take count all) ledger) lt in
      let whole : slice_get (log all ledger) k ≡ Some e.0 = subst (λ l. slice_get l k ≡ Some e.0) (whole_log ledger count all) (slice_get_more (log (take count all) ledger) (log (drop count all) ledger) k e.0 e.1) in
      let at : Found (logged ledger) 0 all k e.0 = found (logged ledger) (one_logged ledger) 0 all k e.0 whole in
      let r = mapped entry_place (slice_get x.entries k) (0 + at.place) (sym (slice_get-map entry_place x.entries k) ∙ ap (λ l. slice_get l k) h.entries ∙ at.at) in
      let below : k < x.logged = (let n : x.logged ≡ length (log (take count all) ledger) = h.logged_is in omega (arith, n, lt)) in
      let place : r.0.place ≡ at.place = r.2 ∙ (let z : 0 + at.place ≡ at.place = omega arith in z) in
      let volumes : Some r.0.volumes ≡ Some (entry_volumes (take (suc k) (log (take count all) ledger)) e.0) =
      sym (slice_get-map first_volumes x.entries k ∙ ap (option_map first_volumes) r.1)
      ∙ ap (λ l. slice_get l k) h.volumes
      ∙ volumes-at [] (log (take count all) ledger ++ log (drop count all) ledger) k e.0 (slice_get_more (log (take count all) ledger) (log (drop count all) ledger) k e.0 e.1)
      ∙ ap (λ l. Some (entry_volumes l e.0)) (take-append-le (suc k) (log (take count all) ledger) (log (drop count all) ledger) (omega (arith, lt))) in
      AnEntry e.0 r.0 (find-entry (suc k) ∙ e.1) (slice_get-take x.logged x.entries k below ∙ r.1)
      (ap (λ n. entry_there (slice_get all n)) place ∙ ap entry_there at.is ∙ entry_makes ledger at.item e.0 at.makes)
      (some_same _ _ volumes) (sym (sound.ids k e.0 e.1))

  pub reads_entry : (id : ℕ) → ReadsEntry id
  reads_entry zero = NoEntry (find-entry zero) refl
  reads_entry (suc k) =
      elim (cases_at k (length (log (take count all) ledger))) [
        | inl lt ↦ entry_at_place k lt
        | inr le ↦ NoEntry (find-entry (suc k) ∙ none_past k (log (take count all) ledger) le) (none_taken x.logged x.entries k (let n : x.logged ≡ length (log (take count all) ledger) = h.logged_is in omega (arith, n, le)))
      ]

  pub entry-read : (id : ℕ) → entry_by_record all (by_id (take x.logged x.entries) id) ≡ find_entry (log (take count all) ledger) id
  entry-read id = elim (reads_entry id) [ NoEntry none lacking ↦ ap (entry_by_record all) lacking ∙ sym none | AnEntry e r is kept at volumes num ↦ ap (entry_by_record all) kept ∙ at ∙ sym is ]

  pub last-read : entry_by_record all (by_id (take x.logged x.entries) x.logged) ≡ last_of (log (take count all) ledger)
  last-read = entry-read x.logged ∙ find-entry x.logged ∙ ap (by_id (log (take count all) ledger)) h.logged_is ∙ last-by_id (log (take count all) ledger)

  -- the transaction of an id, and what is kept of it
  pub data ReadsTransaction (id : ℕ) : Type 0 where
    NoTransaction : find_transaction (log (take count all) ledger) id ≡ None → by_id (take x.transacted x.transactions) id ≡ None → ReadsTransaction id
    ATransaction : (d : Dated) (r : TransactionRecord) (e : Entry) → find_transaction (log (take count all) ledger) id ≡ Some d → by_id (take x.transacted x.transactions) id ≡ Some r
        → entry_there (slice_get all r.place) ≡ Some e → body_transaction e.body ≡ Some d.transaction → e.date ≡ d.date
        → IsRecord (log (take count all) ledger) (log (drop count all) ledger) id r → ReadsTransaction id

  transaction_at_place : (k : ℕ) → k < length (transactions (log (take count all) ledger)) → ReadsTransaction (suc k)
  transaction_at_place k lt =
      let d = there_within k (transactions (log (take count all) ledger)) lt in
      let whole : slice_get (flat_map (event_transactions ledger) all) k ≡ Some d.0 =
      subst (λ l. slice_get l k ≡ Some d.0)
      (sym (flat_map-append entry_transactions (log (take count all) ledger) (log (drop count all) ledger)) ∙ ap transactions (whole_log ledger count all) ∙ transactions-events ledger all)
      (slice_get_more (transactions (log (take count all) ledger)) (transactions (log (drop count all) ledger)) k d.0 d.1) in
      let at : Found (event_transactions ledger) 0 all k d.0 = found (event_transactions ledger) (one_transaction ledger) 0 all k d.0 whole in
      let r = mapped transaction_place (slice_get x.transactions k) (0 + at.place) (sym (slice_get-map transaction_place x.transactions k) ∙ ap (λ l. slice_get l k) h.transactions_are ∙ at.at) in
      let below : k < x.transacted = (let n : x.transacted ≡ length (transactions (log (take count all) ledger)) = h.transacted_is in omega (arith, n, lt)) in
      let place : r.0.place ≡ at.place = r.2 ∙ (let z : 0 + at.place ≡ at.place = omega arith in z) in
      let made : MakesDated at.item d.0 = transaction_makes ledger at.item d.0 at.makes in
      ATransaction d.0 r.0 made.entry (find-transaction (log (take count all) ledger) sound (suc k) ∙ d.1) (slice_get-take x.transacted x.transactions k below ∙ r.1)
      (ap (λ n. entry_there (slice_get all n)) place ∙ ap entry_there at.is ∙ made.is) made.transaction_is made.date_is (h.records k r.0 r.1)

  pub reads_transaction : (id : ℕ) → ReadsTransaction id
  reads_transaction zero = NoTransaction (find-transaction (log (take count all) ledger) sound zero) refl
  reads_transaction (suc k) =
      elim (cases_at k (length (transactions (log (take count all) ledger)))) [
        | inl lt ↦ transaction_at_place k lt
        | inr le ↦ NoTransaction (find-transaction (log (take count all) ledger) sound (suc k) ∙ none_past k (transactions (log (take count all) ledger)) le) (none_taken x.transacted x.transactions k (let n : x.transacted ≡ length (transactions (log (take count all) ledger)) = h.transacted_is in omega (arith, n, le)))
      ]

  pub transaction-read : (id : ℕ) → transaction_by_entry (made_by_record all (by_id (take x.transacted x.transactions) id)) ≡ transaction_at (log (take count all) ledger) id
  transaction-read id = elim (reads_transaction id) [
    | NoTransaction none lacking ↦ ap (λ o. transaction_by_entry (made_by_record all o)) lacking ∙ ap (option_map transaction_of) (sym none)
    | ATransaction d r e is kept at body date rec ↦ ap (λ o. transaction_by_entry (made_by_record all o)) kept ∙ ap transaction_by_entry at ∙ body ∙ ap (option_map transaction_of) (sym is)
  ]

  pub inserted-read : (id : ℕ) → date_by_entry (made_by_record all (by_id (take x.transacted x.transactions) id)) ≡ inserted_at (log (take count all) ledger) id
  inserted-read id = elim (reads_transaction id) [
    | NoTransaction none lacking ↦ ap (λ o. date_by_entry (made_by_record all o)) lacking ∙ ap (option_map date_of) (sym none)
    | ATransaction d r e is kept at body date rec ↦ ap (λ o. date_by_entry (made_by_record all o)) kept ∙ ap date_by_entry at ∙ ap Some date ∙ ap (option_map date_of) (sym is)
  ]

  pub reverted-read : (id : ℕ) → reverted_by_record (by_id (take x.transacted x.transactions) id) ≡ reverted_by (log (take count all) ledger) id
  reverted-read id = elim (reads_transaction id) [
    | NoTransaction none lacking ↦ ap reverted_by_record lacking ∙ ap (option_map reverting_of) (sym (sound.undone_is id none))
    | ATransaction d r e is kept at body date rec ↦ ap reverted_by_record kept ∙ rec.reverted
  ]

  pub history-there : (id : ℕ) → is_some (option_map history_of (by_id (take x.transacted x.transactions) id)) ≡ is_some (find_transaction (log (take count all) ledger) id)
  history-there id = elim (reads_transaction id) [
    | NoTransaction none lacking ↦ ap (λ o. is_some (option_map history_of o)) lacking ∙ ap is_some (sym none)
    | ATransaction d r e is kept at body date rec ↦ ap (λ o. is_some (option_map history_of o)) kept ∙ ap is_some (sym is)
  ]

  pub history-read : (id : ℕ) → IfSome (option_map history_of (by_id (take x.transacted x.transactions) id)) (λ history. history.changes ≡ changes_about (TransactionOf id) (log (take count all) ledger))
  history-read id = elim (reads_transaction id) [
    | NoTransaction none lacking ↦ subst (λ o. IfSome (option_map history_of o) (λ history. history.changes ≡ changes_about (TransactionOf id) (log (take count all) ledger))) (sym lacking) tt
    | ATransaction d r e is kept at body date rec ↦ subst (λ o. IfSome (option_map history_of o) (λ history. history.changes ≡ changes_about (TransactionOf id) (log (take count all) ledger))) (sym kept) rec.changes
  ]

-- ---- the record of a ledger

pub ledger-made : (ledger : List ℕ) (events : List Event) → ledger_of events ledger ≡ slice_get (flat_map (made_as ledger) events) 0
ledger-made ledger [] = refl
ledger-made ledger (Made info ∷ events) = by_test (bytes_eq info.name ledger) (ledger-made ledger events)
  where
    by_test : (b : Bool) → find (is_named ledger) (ledgers events) ≡ slice_get (flat_map (made_as ledger) events) 0 → cond b (Some info) (find (is_named ledger) (ledgers events)) ≡ slice_get (cond b (info ∷ []) [] ++ flat_map (made_as ledger) events) 0
    by_test true rest = refl
    by_test false rest = rest
ledger-made ledger (Logged name e ∷ events) = ledger-made ledger events

pub there-made : (ledger : List ℕ) (events : List Event) → is_there events ledger ≡ is_some (slice_get (flat_map (made_as ledger) events) 0)
there-made ledger [] = refl
there-made ledger (Made info ∷ events) = by_test (bytes_eq info.name ledger) (there-made ledger events)
  where
    by_test : (b : Bool) → is_there events ledger ≡ is_some (slice_get (flat_map (made_as ledger) events) 0) → (b || is_there events ledger) ≡ is_some (slice_get (cond b (info ∷ []) [] ++ flat_map (made_as ledger) events) 0)
    by_test true rest = refl
    by_test false rest = rest
there-made ledger (Logged name e ∷ events) = there-made ledger events

pub none_made : (ledger : List ℕ) (k : ℕ) (events : List Event) → places_of (made_as ledger) k events ≡ [] → is_there events ledger ≡ false
none_made ledger k events h = there-made ledger events ∙ ap (λ l. is_some (slice_get l 0)) (empty (flat_map (made_as ledger) events) (sym (length-places (made_as ledger) k events) ∙ ap length h))
  where
    empty : (l : List LedgerInfo) → length l ≡ 0 → l ≡ []
    empty [] e = refl
    empty (i ∷ is) e = absurd (omega arith)

pub info-read : (ledger : List ℕ) (count : ℕ) (all : List Event) (x : LedgerView) → IsIndex (ledger_part ledger count all) x → info_if x.there (slice_get all x.made) ≡ ledger_of (take count all) ledger
info-read ledger count all x h = by_first (slice_get (flat_map (made_as ledger) (take count all)) 0) refl
  where
    by_first : (o : Option LedgerInfo) → slice_get (flat_map (made_as ledger) (take count all)) 0 ≡ o → info_if x.there (slice_get all x.made) ≡ ledger_of (take count all) ledger
    by_first None e = ap (λ b. info_if b (slice_get all x.made)) (h.there ∙ there-made ledger (take count all) ∙ ap is_some e) ∙ sym (ledger-made ledger (take count all) ∙ e)
    by_first (Some info) e =
        let whole : slice_get (flat_map (made_as ledger) all) 0 ≡ Some info =
        subst (λ l. slice_get l 0 ≡ Some info) (sym (flat_map-append (made_as ledger) (take count all) (drop count all)) ∙ ap (flat_map (made_as ledger)) (take-append-drop count all))
        (slice_get_more (flat_map (made_as ledger) (take count all)) (flat_map (made_as ledger) (drop count all)) 0 info e) in
        let at : Found (made_as ledger) 0 all 0 info = found (made_as ledger) (one_made ledger) 0 all 0 info whole in
        let place : x.made ≡ at.place = some_same x.made (0 + at.place) (sym (ap (λ l. slice_get l 0) h.made) ∙ at.at) ∙ (let z : 0 + at.place ≡ at.place = omega arith in z) in
        ap (λ b. info_if b (slice_get all x.made)) (h.there ∙ there-made ledger (take count all) ∙ ap is_some e)
        ∙ ap (λ n. info_there (slice_get all n)) place
        ∙ ap info_there at.is
        ∙ info_makes ledger at.item info at.makes
        ∙ sym (ledger-made ledger (take count all) ∙ e)
