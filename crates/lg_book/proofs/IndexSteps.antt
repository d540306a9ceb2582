-- What is kept of a ledger, when events are prepared and added.
use Rattle.std.proofs.Common.{◌≡◌, ℕ, zero, suc, ◌+◌, ◌-◌, ◌<◌, ◌≤◌, Bool, true, false, cond, ◌||◌, List, [], ◌∷◌, ◌++◌, map, length, take, drop, slice_get, Option, Some, None, refl, sym, ap, ap₂, subst, ◌∙◌, append_assoc, arith}
use Rattle.std.specs.List.{flat_map}
use Rattle.std.specs.Str.{bytes_eq}
use Rattle.std.proofs.lemmas.List.{append-nil, length-append, length-map, map-append, take-append-drop, take-append-le, drop-append-le}
use Rattle.std.proofs.lemmas.Grind.{flat_map-append}
use Rattle.lg_types.specs.declared.records.Entry.{Entry}
use Rattle.lg_types.specs.declared.records.EntryBody.{EntryBody}
use Rattle.lg_types.specs.declared.records.EntryBody.TheVariants.{NewTransaction, SetMetadata, Reverted, DeleteMetadata}
use Rattle.lg_types.specs.declared.records.Event.{Event}
use Rattle.lg_types.specs.declared.records.Event.TheVariants.{Made, Logged}
use Rattle.lg_types.specs.declared.records.LedgerInfo.{LedgerInfo}
use Rattle.lg_types.specs.declared.records.Target.{Target}
use Rattle.lg_types.specs.declared.records.Target.TheVariants.{Account, Transaction as TransactionOf}
use Rattle.lg_types.specs.declared.changes.MetaChange.{MetaChange}
use Rattle.lg_types.specs.declared.changes.MetaChange.TheVariants.{Set, Drop}
use Rattle.lg_types.specs.Known.{Dated, dated, transactions, entry_transactions}
use Rattle.lg_types.specs.Log.{log, logged, is_there}
use Rattle.lg_types.specs.Moves.{body_transaction}
use Rattle.lg_book.specs.declared.records.EntryRecord.{EntryRecord}
use Rattle.lg_book.specs.declared.records.TransactionRecord.{TransactionRecord}
use Rattle.lg_book.specs.declared.volumes.FirstVolumes.{FirstVolumes}
use Rattle.lg_book.specs.FirstVolumes.{entry_volumes}
use Rattle.lg_book.specs.Following.{MayFollowLog}
use Rattle.lg_book.specs.Index.{places_of, made_as, event_transactions, LedgerPart, ledger_part, LedgerView, entry_place, first_volumes, transaction_place, all_volumes, IsRecord, IsIndex, IsIndexed, with_prepared, with_first_applied, with_reverted_by, new_record, target_prepared, records_prepared, target_added, records_added, count_made, entry_record, index_prepared, index_added, CanPrepare, CanAdd}
use Rattle.lg_book.proofs.Lists.{map-changed, length-changed}
use Rattle.lg_book.proofs.Places.{places-snoc, length-places}
use Rattle.lg_book.proofs.Sound.{IsSound, transactions-snoc}
use Rattle.lg_book.proofs.RecordSteps.{AreRecords, are_prepared, can_prepare, are_added, can_add}

-- ---- the parts of a log

pub whole_log : (ledger : List ℕ) (count : ℕ) (all : List Event) → log (take count all) ledger ++ log (drop count all) ledger ≡ log all ledger
whole_log ledger count all = sym (flat_map-append (logged ledger) (take count all) (drop count all)) ∙ ap (λ es. log es ledger) (take-append-drop count all)

pub transactions-events : (ledger : List ℕ) (events : List Event) → transactions (log events ledger) ≡ flat_map (event_transactions ledger) events
transactions-events ledger [] = refl
transactions-events ledger (event ∷ events) = flat_map-append entry_transactions (logged ledger event) (log events ledger) ∙ ap (λ l. event_transactions ledger event ++ l) (transactions-events ledger events)

-- the places are as many as the entries and the transactions
pub record IsTied (p : LedgerPart) : Type 0 where
  pub entries : length p.entries ≡ length (p.added ++ p.prepared)
  pub transactions_are : length p.transactions ≡ length (transactions (p.added ++ p.prepared))

pub tied : (ledger : List ℕ) (count : ℕ) (all : List Event) → IsTied (ledger_part ledger count all)
tied ledger count all = record {
  entries = length-places (logged ledger) 0 all ∙ ap length (sym (whole_log ledger count all));
  transactions_are = length-places (event_transactions ledger) 0 all ∙ ap length (sym (transactions-events ledger all) ∙ ap transactions (sym (whole_log ledger count all)));
}

pub all_volumes-snoc : (before g : List Entry) (e : Entry) → all_volumes before (g ++ e ∷ []) ≡ all_volumes before g ++ entry_volumes ((before ++ g) ++ e ∷ []) e ∷ []
all_volumes-snoc before [] e = ap (λ l. entry_volumes (l ++ e ∷ []) e ∷ []) (sym (append-nil before))
all_volumes-snoc before (x ∷ g) e =
    ap (λ l. entry_volumes (before ++ x ∷ []) x ∷ l) (all_volumes-snoc (before ++ x ∷ []) g e)
    ∙ ap (λ l. entry_volumes (before ++ x ∷ []) x ∷ (all_volumes (before ++ x ∷ []) g ++ entry_volumes (l ++ e ∷ []) e ∷ [])) (append_assoc before (x ∷ []) g)

-- ---- one more prepared event

abbrev pub part_with : LedgerPart → ℕ → List LedgerInfo → List Entry → LedgerPart
part_with p place made entries = record {
  made = p.made ++ map (λ _. place) made;
  there = p.there;
  entries = p.entries ++ map (λ _. place) entries;
  transactions = p.transactions ++ map (λ _. place) (flat_map entry_transactions entries);
  added = p.added;
  prepared = p.prepared ++ entries;
}

pub part-snoc : (ledger : List ℕ) (count : ℕ) (all : List Event) (event : Event) → count ≤ length all → ledger_part ledger count (all ++ event ∷ []) ≡ part_with (ledger_part ledger count all) (length all) (made_as ledger event) (logged ledger event)
part-snoc ledger count all event le =
    let made = places-snoc (made_as ledger) all event in
    let entries = places-snoc (logged ledger) all event in
    let made_transactions = places-snoc (event_transactions ledger) all event in
    let before : take count (all ++ event ∷ []) ≡ take count all = take-append-le count all (event ∷ []) le in
    let there : is_there (take count (all ++ event ∷ [])) ledger ≡ is_there (take count all) ledger = ap (λ es. is_there es ledger) before in
    let added : log (take count (all ++ event ∷ [])) ledger ≡ log (take count all) ledger = ap (λ es. log es ledger) before in
    let prepared : log (drop count (all ++ event ∷ [])) ledger ≡ log (drop count all) ledger ++ logged ledger event =
    ap (λ es. log es ledger) (drop-append-le count all (event ∷ []) le) ∙ flat_map-append (logged ledger) (drop count all) (event ∷ []) ∙ ap (λ l. log (drop count all) ledger ++ l) (append-nil (logged ledger event)) in
    λ i. record { made = made i; there = there i; entries = entries i; transactions = made_transactions i; added = added i; prepared = prepared i }

pub part_same : (p : LedgerPart) (place : ℕ) → part_with p place [] [] ≡ p
part_same p place =
    let made = append-nil p.made in
    let entries = append-nil p.entries in
    let made_transactions = append-nil p.transactions in
    let prepared = append-nil p.prepared in
    λ i. record { made = made i; there = p.there; entries = entries i; transactions = made_transactions i; added = p.added; prepared = prepared i }

target_places : (target : Target) (change : MetaChange) (rs : List TransactionRecord) → map transaction_place (target_prepared target change rs) ≡ map transaction_place rs
target_places (Account name) change rs = refl
target_places (TransactionOf id) change rs = map-changed (with_prepared change) transaction_place (λ r. refl) (id - 1) rs

prepared_places : (place : ℕ) (date : _) (body : EntryBody) (rs : List TransactionRecord) → map transaction_place (records_prepared place body rs) ≡ map transaction_place rs ++ map (λ _. place) (dated date (body_transaction body))
prepared_places place date (NewTransaction t accounts) rs = map-append transaction_place rs (new_record place t ∷ [])
prepared_places place date (SetMetadata target metadata) rs = target_places target (Set metadata) rs ∙ sym (append-nil (map transaction_place rs))
prepared_places place date (Reverted id t) rs = map-append transaction_place rs (new_record place t ∷ [])
prepared_places place date (DeleteMetadata target name) rs = target_places target (Drop name) rs ∙ sym (append-nil (map transaction_place rs))

module _ (p : LedgerPart) (x : LedgerView) (h : IsIndex p x) (t : IsTied p) where
  pub record_count : length x.transactions ≡ length (transactions (p.added ++ p.prepared))
  record_count = sym (length-map x.transactions transaction_place) ∙ ap length h.transactions_are ∙ t.transactions_are

  pub entry_count : length x.entries ≡ length (p.added ++ p.prepared)
  entry_count = sym (length-map x.entries entry_place) ∙ ap length h.entries ∙ t.entries

  pub index_can_prepare : (e : Entry) → IsSound (p.added ++ p.prepared) → MayFollowLog (p.added ++ p.prepared) e → CanPrepare x.transactions e.body
  index_can_prepare e sound f = can_prepare (p.added ++ p.prepared) x.transactions e.body sound record_count f.target

  pub index_prepared_is : (e : Entry) (place : ℕ) (volumes : FirstVolumes) → IsSound (p.added ++ p.prepared) → MayFollowLog (p.added ++ p.prepared) e → volumes ≡ entry_volumes ((p.added ++ p.prepared) ++ e ∷ []) e
      → IsIndex (part_with p place [] (e ∷ [])) (index_prepared place e volumes x)
  index_prepared_is e place volumes sound f is = record {
    made = append-nil p.made ∙ h.made;
    there = h.there;
    entries = map-append entry_place x.entries (entry_record place volumes ∷ []) ∙ ap (λ l. l ++ place ∷ []) h.entries;
    volumes =
        map-append first_volumes x.entries (entry_record place volumes ∷ [])
        ∙ ap₂ (λ l v. l ++ v ∷ []) h.volumes is
        ∙ sym (all_volumes-snoc [] (p.added ++ p.prepared) e)
        ∙ ap (all_volumes []) (append_assoc p.added p.prepared (e ∷ []));
    logged_is = h.logged_is;
    transactions_are =
        prepared_places place e.date e.body x.transactions
        ∙ ap₂ (λ l m. l ++ map (λ _. place) m) h.transactions_are (sym (append-nil (entry_transactions e)));
    transacted_is = h.transacted_is;
    records = are_prepared p.added p.prepared e sound e.body refl x.transactions place record_count h.records f;
  }

-- ---- the first prepared event is added

abbrev pub part_added : LedgerPart → Bool → List Entry → List Entry → LedgerPart
part_added p there added rest = record p { there = there; added = added; prepared = rest }

added_target : (date : _) (target : Target) (rs : List TransactionRecord) → map transaction_place (target_added date target rs) ≡ map transaction_place rs
added_target date (Account name) rs = refl
added_target date (TransactionOf id) rs = map-changed (with_first_applied date) transaction_place (λ r. refl) (id - 1) rs

added_places : (date : _) (body : EntryBody) (rs : List TransactionRecord) → map transaction_place (records_added date body rs) ≡ map transaction_place rs
added_places date (NewTransaction t accounts) rs = map-changed (with_first_applied date) transaction_place (λ r. refl) (t.id - 1) rs
added_places date (SetMetadata target metadata) rs = added_target date target rs
added_places date (Reverted id t) rs = map-changed (with_reverted_by t.id) transaction_place (λ r. refl) (id - 1) _ ∙ map-changed (with_first_applied date) transaction_place (λ r. refl) (t.id - 1) rs
added_places date (DeleteMetadata target name) rs = added_target date target rs

counted_is : (date : _) (body : EntryBody) → length (dated date (body_transaction body)) ≡ count_made body
counted_is date (NewTransaction t accounts) = refl
counted_is date (SetMetadata target metadata) = refl
counted_is date (Reverted id t) = refl
counted_is date (DeleteMetadata target name) = refl

pub count-snoc : (g : List Entry) (e : Entry) → length (transactions (g ++ e ∷ [])) ≡ length (transactions g) + count_made e.body
count-snoc g e = ap length (transactions-snoc g e) ∙ length-append (transactions g) (entry_transactions e) ∙ ap (λ n. length (transactions g) + n) (counted_is e.date e.body)

module _ (p : LedgerPart) (rest : List Entry) (e : Entry) (x : LedgerView) (next : p.prepared ≡ e ∷ rest) (h : IsIndex p x) (t : IsTied p) (sound : IsSound p.added) (f : MayFollowLog p.added e) where
  front_count : length (transactions p.added) + count_made e.body ≤ length x.transactions
  front_count =
      let all : length (transactions (p.added ++ (e ∷ rest))) ≡ length (transactions p.added) + count_made e.body + length (transactions rest) =
      ap (λ g. length (transactions g)) (sym (append_assoc p.added (e ∷ []) rest))
      ∙ ap length (flat_map-append entry_transactions (p.added ++ e ∷ []) rest)
      ∙ length-append (transactions (p.added ++ e ∷ [])) (transactions rest)
      ∙ ap (λ n. n + length (transactions rest)) (count-snoc p.added e) in
      let same : length x.transactions ≡ length (transactions (p.added ++ (e ∷ rest))) = record_count p x h t ∙ ap (λ l. length (transactions (p.added ++ l))) next in
      omega (arith, all, same)

  own_records : AreRecords p.added (e ∷ rest) x.transactions
  own_records k r is = subst (λ l. IsRecord p.added l (suc k) r) next (h.records k r is)

  pub index_can_add : CanAdd e x
  index_can_add = record {
    logged_below =
        (let all : length x.entries ≡ length p.added + length (e ∷ rest) = entry_count p x h t ∙ ap (λ l. length (p.added ++ l)) next ∙ length-append p.added (e ∷ rest) in
        let now : x.logged ≡ length p.added = h.logged_is in omega (arith, all, now));
    transacted_below = (let now : x.transacted ≡ length (transactions p.added) = h.transacted_is in omega (arith, now, front_count));
    records = can_add p.added rest e e.body refl x.transactions sound f front_count own_records;
  }

  pub index_added_is : IsIndex (part_added p p.there (p.added ++ e ∷ []) rest) (index_added e x)
  index_added_is = record {
    made = h.made;
    there = h.there;
    entries = h.entries;
    volumes = h.volumes ∙ ap (λ l. all_volumes [] (p.added ++ l)) next ∙ ap (all_volumes []) (sym (append_assoc p.added (e ∷ []) rest));
    logged_is = ap (λ n. n + 1) h.logged_is ∙ sym (length-append p.added (e ∷ []));
    transactions_are = added_places e.date e.body x.transactions ∙ h.transactions_are;
    transacted_is = ap (λ n. n + count_made e.body) h.transacted_is ∙ sym (count-snoc p.added e);
    records = are_added p.added rest e e.body refl x.transactions (can_add p.added rest e e.body refl x.transactions sound f front_count own_records) f own_records;
  }
