-- What is kept of the ledgers while prepared events are given up.
use Rattle.std.proofs.Common.{◌≡◌, ℕ, zero, suc, ◌+◌, ◌-◌, ◌<◌, ◌≤◌, Bool, true, false, cond, ◌||◌, List, [], ◌∷◌, ◌++◌, map, length, take, drop, slice_get, IfSome, Option, Some, None, refl, sym, ap, ap₂, subst, ◌∙◌, inl, inr, append_assoc, arith}
use Rattle.std.specs.Prelude.{◌⊎◌}
use Rattle.std.specs.Option.{option_map}
use Rattle.std.specs.List.{flat_map, list_any, take-map}
use Rattle.std.proofs.lemmas.List.{append-nil, length-append, length-map, take-append-drop, take-append-le}
use Rattle.std.proofs.lemmas.List.Folds.{list_any-append}
use Rattle.std.proofs.lemmas.Grind.{flat_map-append}
use Rattle.std.proofs.Math.Seq.{take-append_seam}
use Rattle.lg_containers.specs.NameTable.{get}
use Rattle.lg_meta.specs.Index.{changes_of}
use Rattle.lg_meta.specs.MetaFold.{changes_about}
use Rattle.lg_types.specs.declared.records.Entry.{Entry}
use Rattle.lg_types.specs.declared.records.EntryBody.{EntryBody}
use Rattle.lg_types.specs.declared.records.EntryBody.TheVariants.{NewTransaction, SetMetadata, Reverted, DeleteMetadata}
use Rattle.lg_types.specs.declared.records.Event.{Event}
use Rattle.lg_types.specs.declared.records.Event.TheVariants.{Made, Logged}
use Rattle.lg_types.specs.declared.records.Target.{Target}
use Rattle.lg_types.specs.declared.records.Target.TheVariants.{Account, Transaction as TransactionOf}
use Rattle.lg_types.specs.declared.records.Transaction.{Transaction}
use Rattle.lg_types.specs.Known.{transactions}
use Rattle.lg_types.specs.Log.{log, logged, is_there, is_made_as}
use Rattle.lg_types.specs.Moves.{body_transaction}
use Rattle.lg_views.specs.Import.{is_misnumbered}
use Rattle.lg_book.specs.declared.records.EntryRecord.{EntryRecord}
use Rattle.lg_book.specs.declared.records.TransactionRecord.{TransactionRecord}
use Rattle.lg_book.specs.FirstVolumes.{entry_volumes}
use Rattle.lg_book.specs.Following.{MayFollowLog, MayFollow, IsGrown}
use Rattle.lg_book.specs.Reading.{reverted_by}
use Rattle.lg_book.specs.Index.{places_of, made_as, event_transactions, changed_at, LedgerPart, ledger_part, LedgerView, entry_place, first_volumes, transaction_place, all_volumes, IsRecord, IsIndex, IsIndexed, IsBook, with_none_prepared, target_forgotten, records_forgotten, index_forgotten, put_changed}
use Rattle.lg_book.specs.Writing.{Ledgers, event_forgotten, events_forgotten}
use Rattle.lg_book.proofs.Lists.{some_same, not_some, slice_get-take, slice_get-taken, slice_get_within_length, changed_cases, map-changed, take-snoc, there_within}
use Rattle.lg_book.proofs.LedgerMaps.{get-taken_here, get-taken_other}
use Rattle.lg_book.proofs.Places.{length-places, places-append}
use Rattle.lg_book.proofs.Sound.{own_changes, changed_id, target_id, no_own_changes, next_id, same_bytes}
use Rattle.lg_book.proofs.RecordSteps.{about-cons}
use Rattle.lg_book.proofs.IndexSteps.{IsTied, tied, transactions-events, record_count, entry_count}
use Rattle.lg_book.proofs.BookSteps.{same_or_not, bytes_differ, no_made, prefix_absent, changed_holds, get-changed-other, drop-next}
use Rattle.lg_book.proofs.FoundRecords.{none_made}

-- ---- lists

take_take : {A : Type 0} (n : ℕ) (xs : List A) → take n (take n xs) ≡ take n xs
take_take zero xs = refl
take_take (suc n) [] = refl
take_take (suc n) (x ∷ xs) = ap (λ l. x ∷ l) (take_take n xs)

drop_take : {A : Type 0} (n : ℕ) (xs : List A) → drop n (take n xs) ≡ []
drop_take zero xs = refl
drop_take (suc n) [] = refl
drop_take (suc n) (x ∷ xs) = drop_take n xs

take_within : {A : Type 0} (n : ℕ) (xs : List A) → length xs ≡ n → xs ≡ take n xs
take_within zero [] h = refl
take_within zero (x ∷ xs) h = absurd (omega arith)
take_within (suc n) [] h = refl
take_within (suc n) (x ∷ xs) h = ap (λ l. x ∷ l) (take_within n xs (omega arith))

taken_lt : {A : Type 0} (n : ℕ) (xs : List A) (k : ℕ) (x : A) → slice_get (take n xs) k ≡ Some x → k < n
taken_lt zero xs k x h = absurd (not_some x h)
taken_lt (suc n) [] k x h = absurd (not_some x h)
taken_lt (suc n) (y ∷ xs) zero x h = omega arith
taken_lt (suc n) (y ∷ xs) (suc k) x h = let r : k < n = taken_lt n xs k x h in omega (arith, r)

front_of : {A : Type 0} (n : ℕ) (xs ys : List A) → n ≡ length xs → take n (xs ++ ys) ≡ xs
front_of n xs ys e = ap (λ m. take m (xs ++ ys)) e ∙ take-append_seam xs ys

only_first : {A : Type 0} (xs ys : List A) (y : A) → xs ++ ys ≡ y ∷ [] → (xs ≡ [] → ⊥) → xs ≡ y ∷ []
only_first [] ys y h some = absurd (some refl)
only_first (x ∷ xs) ys y h some = let e : x ∷ (xs ++ ys) ≡ y ∷ [] = h in let first : x ≡ y = cc in let rest : xs ++ ys ≡ [] = cc in ap₂ (λ a l. a ∷ l) first (nothing xs ys rest)
  where
    nothing : {A : Type 0} (xs ys : List A) → xs ++ ys ≡ [] → xs ≡ []
    nothing [] ys e = refl
    nothing (x ∷ xs) ys e = absurd (let f : x ∷ (xs ++ ys) ≡ [] = e in cc)

volumes_front : (before g h : List Entry) → all_volumes before (g ++ h) ≡ all_volumes before g ++ all_volumes (before ++ g) h
volumes_front before [] h = ap (λ b. all_volumes b h) (sym (append-nil before))
volumes_front before (x ∷ g) h =
    ap (λ l. entry_volumes (before ++ x ∷ []) x ∷ l) (volumes_front (before ++ x ∷ []) g h)
    ∙ ap (λ b. entry_volumes (before ++ x ∷ []) x ∷ (all_volumes (before ++ x ∷ []) g ++ all_volumes b h)) (append_assoc before (x ∷ []) g)

length-volumes : (before g : List Entry) → length (all_volumes before g) ≡ length g
length-volumes before [] = refl
length-volumes before (x ∷ g) = ap suc (length-volumes (before ++ x ∷ []) g)

-- ---- while events are given up

record LooseRecord (added left : List Entry) (id : ℕ) (r : TransactionRecord) : Type 0 where
  reverted : r.reverted_by ≡ reverted_by added id
  changes : r.history.changes ≡ changes_about (TransactionOf id) added
  none_left : changes_about (TransactionOf id) left ≡ [] → r.history.prepared ≡ []

record Loose (left : List Entry) (p : LedgerPart) (x : LedgerView) : Type 0 where
  made : p.made ≡ x.made ∷ []
  there : x.there ≡ p.there
  entries : map entry_place (take x.logged x.entries) ≡ p.entries
  volumes : map first_volumes (take x.logged x.entries) ≡ all_volumes [] p.added
  logged_is : x.logged ≡ length p.added
  transactions_are : map transaction_place (take x.transacted x.transactions) ≡ p.transactions
  transacted_is : x.transacted ≡ length (transactions p.added)
  records : (k : ℕ) (r : TransactionRecord) → slice_get (take x.transacted x.transactions) k ≡ Some r → LooseRecord p.added left (suc k) r
  tail : left ≡ [] → (x.entries ≡ take x.logged x.entries) × (x.transactions ≡ take x.transacted x.transactions)

-- what is found of a ledger, where these entries of it are still to be given up, and the ledger where `making`
data Forgetting (left : List Entry) (making : Bool) (p : LedgerPart) : Option LedgerView → Type 0 where
  Gone : p.made ≡ [] → Forgetting left making p None
  Going : (x : LedgerView) → making ≡ true → p.made ≡ [] → Forgetting left making p (Some x)
  Stays : (x : LedgerView) → Loose left p x → Forgetting left making p (Some x)

-- the part of the ledger in the events that were added
abbrev kept_part : List ℕ → ℕ → List Event → LedgerPart
kept_part ledger count all = ledger_part ledger count (take count all)

kept_added : (ledger : List ℕ) (count : ℕ) (all : List Event) → (kept_part ledger count all).added ≡ log (take count all) ledger
kept_added ledger count all = ap (λ es. log es ledger) (take_take count all)

-- ---- one entry is given up

own_left : (k : ℕ) (e : Entry) (left : List Entry) → (changed_id e.body ≡ Some (suc k) → ⊥) → changes_about (TransactionOf (suc k)) left ≡ [] → changes_about (TransactionOf (suc k)) (e ∷ left) ≡ []
own_left k e left other none = about-cons (suc k) e left ∙ ap₂ (λ l m. l ++ m) (no_own_changes (suc k) e other) none

loosened : (added left : List Entry) (e : Entry) (k : ℕ) (r : TransactionRecord) → (changed_id e.body ≡ Some (suc k) → ⊥) → LooseRecord added (e ∷ left) (suc k) r → LooseRecord added left (suc k) r
loosened added left e k r other h = record { reverted = h.reverted; changes = h.changes; none_left = λ none. h.none_left (own_left k e left other none) }

target_loosened : (added left : List Entry) (e : Entry) (target : Target) → changed_id e.body ≡ target_id target → (rs : List TransactionRecord) (k : ℕ) (r : TransactionRecord)
    → ((r : TransactionRecord) → slice_get rs k ≡ Some r → LooseRecord added (e ∷ left) (suc k) r) → slice_get (target_forgotten target rs) k ≡ Some r → LooseRecord added left (suc k) r
target_loosened added left e (Account name) ids rs k r h is = loosened added left e k r (λ own. not_some (suc k) (sym ids ∙ own)) (h r is)
target_loosened added left e (TransactionOf id) ids rs k r h is =
    let x = changed_cases with_none_prepared (id - 1) rs k r is in
    let before = h x.0 x.1 in
    elim x.2 [
      | inl here ↦ subst (LooseRecord added left (suc k)) (sym here.1) (record { reverted = before.reverted; changes = before.changes; none_left = λ none. refl })
      | inr other ↦ subst (LooseRecord added left (suc k)) (sym other.1) (loosened added left e k x.0 (λ own. other.0 (let at : id ≡ suc k = some_same id (suc k) (sym ids ∙ own) in let n : k ≡ id - 1 = omega (arith, at) in n)) before)
    ]

body_loosened : (added left : List Entry) (e : Entry) (body : EntryBody) → e.body ≡ body → IfSome (body_transaction body) (λ t. length (transactions added) < t.id) → (rs : List TransactionRecord) (k : ℕ) (r : TransactionRecord) → k < length (transactions added)
    → ((r : TransactionRecord) → slice_get rs k ≡ Some r → LooseRecord added (e ∷ left) (suc k) r) → slice_get (records_forgotten body rs) k ≡ Some r → LooseRecord added left (suc k) r
body_loosened added left e (NewTransaction t accounts) is later rs k r lt h at =
    loosened added left e k r (λ own. let same : t.id ≡ suc k = some_same t.id (suc k) (sym (ap changed_id is) ∙ own) in omega (arith, same, later, lt)) (h r at)
body_loosened added left e (SetMetadata target metadata) is later rs k r lt h at = target_loosened added left e target (ap changed_id is) rs k r h at
body_loosened added left e (Reverted id t) is later rs k r lt h at =
    loosened added left e k r (λ own. let same : t.id ≡ suc k = some_same t.id (suc k) (sym (ap changed_id is) ∙ own) in omega (arith, same, later, lt)) (h r at)
body_loosened added left e (DeleteMetadata target name) is later rs k r lt h at = target_loosened added left e target (ap changed_id is) rs k r h at

target_places : (target : Target) (rs : List TransactionRecord) → map transaction_place (target_forgotten target rs) ≡ map transaction_place rs
target_places (Account name) rs = refl
target_places (TransactionOf id) rs = map-changed with_none_prepared transaction_place (λ r. refl) (id - 1) rs

forgotten_places : (body : EntryBody) (rs : List TransactionRecord) → map transaction_place (records_forgotten body rs) ≡ map transaction_place rs
forgotten_places (NewTransaction t accounts) rs = refl
forgotten_places (SetMetadata target metadata) rs = target_places target rs
forgotten_places (Reverted id t) rs = refl
forgotten_places (DeleteMetadata target name) rs = target_places target rs

index_loosened : (left : List Entry) (p : LedgerPart) (e : Entry) (x : LedgerView) → IfSome (body_transaction e.body) (λ t. length (transactions p.added) < t.id) → Loose (e ∷ left) p x → Loose left p (index_forgotten e.body x)
index_loosened left p e x later h = record {
  made = h.made;
  there = h.there;
  entries = ap (map entry_place) (take_take x.logged x.entries) ∙ h.entries;
  volumes = ap (map first_volumes) (take_take x.logged x.entries) ∙ h.volumes;
  logged_is = h.logged_is;
  transactions_are =
      ap (map transaction_place) (take_take x.transacted (records_forgotten e.body x.transactions))
      ∙ sym (take-map transaction_place x.transacted (records_forgotten e.body x.transactions))
      ∙ ap (take x.transacted) (forgotten_places e.body x.transactions)
      ∙ take-map transaction_place x.transacted x.transactions
      ∙ h.transactions_are;
  transacted_is = h.transacted_is;
  records = λ k r is.
      let once = slice_get-taken x.transacted (take x.transacted (records_forgotten e.body x.transactions)) k r is in
      let below : k < x.transacted = taken_lt x.transacted (records_forgotten e.body x.transactions) k r once in
      let count : x.transacted ≡ length (transactions p.added) = h.transacted_is in
      body_loosened p.added left e e.body refl later x.transactions k r (omega (arith, below, count))
      (λ y at. h.records k y (slice_get-take x.transacted x.transactions k below ∙ at))
      (slice_get-taken x.transacted (records_forgotten e.body x.transactions) k r once);
  tail = λ none. (sym (take_take x.logged x.entries), sym (take_take x.transacted (records_forgotten e.body x.transactions)));
}

-- ---- all ledgers

abbrev Facts : List Event → ℕ → List Event → Ledgers → Type 0
Facts rest count all ledgers = (ledger : List ℕ) → Forgetting (log rest ledger) (is_there rest ledger) (kept_part ledger count all) (get ledgers ledger)

-- an event that was prepared, and not added
abbrev IsLate : ℕ → List Event → Event → Type 0
IsLate count all (Made info) = is_there (take count all) info.name ≡ false
IsLate count all (Logged name e) = IfSome (body_transaction e.body) (λ t. length (transactions (log (take count all) name)) < t.id)

same_state : (left more : List Entry) (making still : Bool) (p : LedgerPart) (o : Option LedgerView) → left ≡ more → making ≡ still → Forgetting left making p o → Forgetting more still p o
same_state left more making still p o e f h = subst (λ b. Forgetting more b p o) f (subst (λ l. Forgetting l making p o) e h)

-- a ledger that is prepared is given up
gone : (left : List Entry) (making : Bool) (p : LedgerPart) (o : Option LedgerView) → o ≡ None → p.made ≡ [] → Forgetting left making p o
gone left making p o e none = subst (Forgetting left making p) (sym e) (Gone none)

made_given_up : (count : ℕ) (all rest : List Event) (info : _) (ledgers : Ledgers) → IsLate count all (Made info) → Facts (Made info ∷ rest) count all ledgers → Facts rest count all (event_forgotten (Made info) ledgers)
made_given_up count all rest info ledgers late h ledger =
    elim (same_or_not ledger info.name) [
      | inl same ↦
          gone (log rest ledger) (is_there rest ledger) (kept_part ledger count all) _ (ap (λ l. get (event_forgotten (Made info) ledgers) l) same ∙ get-taken_here info.name ledgers)
          (no_made ledger 0 (take count all) (ap (is_there (take count all)) same ∙ late))
      | inr other ↦
          subst (Forgetting (log rest ledger) (is_there rest ledger) (kept_part ledger count all)) (sym (get-taken_other info.name ledger ledgers other))
          (same_state _ _ _ _ (kept_part ledger count all) (get ledgers ledger) refl (ap (λ b. b || is_there rest ledger) (bytes_differ info.name ledger (λ same. other (sym same)))) (h ledger))
    ]

entry_state : (left : List Entry) (making : Bool) (p : LedgerPart) (e : Entry) (x : LedgerView) → IfSome (body_transaction e.body) (λ t. length (transactions p.added) < t.id) → Forgetting (e ∷ left) making p (Some x) → Forgetting left making p (Some (index_forgotten e.body x))
entry_state left making p e x later (Going _ is none) = Going (index_forgotten e.body x) is none
entry_state left making p e x later (Stays _ h) = Stays (index_forgotten e.body x) (index_loosened left p e x later h)

none_state : (left more : List Entry) (making : Bool) (p : LedgerPart) → Forgetting left making p None → Forgetting more making p None
none_state left more making p (Gone none) = Gone none

entry_given_up : (count : ℕ) (all rest : List Event) (name : List ℕ) (e : Entry) (ledgers : Ledgers) → IsLate count all (Logged name e) → Facts (Logged name e ∷ rest) count all ledgers → Facts rest count all (event_forgotten (Logged name e) ledgers)
entry_given_up count all rest name e ledgers late h ledger =
    elim (same_or_not ledger name) [
      | inl same ↦
          subst (λ l. Forgetting (log rest l) (is_there rest l) (kept_part l count all) (get (event_forgotten (Logged name e) ledgers) l)) (sym same)
          (changed_holds name (index_forgotten e.body) ledgers (Forgetting (e ∷ log rest name) (is_there rest name) (kept_part name count all)) (Forgetting (log rest name) (is_there rest name) (kept_part name count all))
          (same_state _ _ _ _ (kept_part name count all) (get ledgers name) (ap (λ b. cond b (e ∷ []) [] ++ log rest name) (same_bytes name)) refl (h name))
          (none_state _ _ _ _)
          (λ x. entry_state (log rest name) (is_there rest name) (kept_part name count all) e x (subst (λ g. IfSome (body_transaction e.body) (λ t. length (transactions g) < t.id)) (sym (kept_added name count all)) late)))
      | inr other ↦
          subst (Forgetting (log rest ledger) (is_there rest ledger) (kept_part ledger count all)) (sym (get-changed-other name ledger (index_forgotten e.body) ledgers other))
          (same_state _ _ _ _ (kept_part ledger count all) (get ledgers ledger) (ap (λ b. cond b (e ∷ []) [] ++ log rest ledger) (bytes_differ name ledger (λ same. other (sym same)))) refl (h ledger))
    ]

given_up : (count : ℕ) (all rest : List Event) (event : Event) (ledgers : Ledgers) → IsLate count all event → Facts (event ∷ rest) count all ledgers → Facts rest count all (event_forgotten event ledgers)
given_up count all rest (Made info) ledgers late h = made_given_up count all rest info ledgers late h
given_up count all rest (Logged name e) ledgers late h = entry_given_up count all rest name e ledgers late h

all_given_up : (count : ℕ) (all rest : List Event) (ledgers : Ledgers) → ((j : ℕ) (event : Event) → slice_get rest j ≡ Some event → IsLate count all event) → Facts rest count all ledgers → Facts [] count all (events_forgotten rest ledgers)
all_given_up count all [] ledgers late h = h
all_given_up count all (event ∷ rest) ledgers late h =
    all_given_up count all rest (event_forgotten event ledgers) (λ j other is. late (suc j) other is) (given_up count all rest event ledgers (late 0 event refl) h)

-- ---- prepared events are late

take_less : {A : Type 0} (n m : ℕ) (xs : List A) → n ≤ m → take n (take m xs) ≡ take n xs
take_less zero m xs h = refl
take_less (suc n) zero xs h = absurd (omega arith)
take_less (suc n) (suc m) [] h = refl
take_less (suc n) (suc m) (x ∷ xs) h = ap (λ l. x ∷ l) (take_less n m xs (omega arith))

late_transaction : (ledger : List ℕ) (count j : ℕ) (all : List Event) (o : Option Transaction) → count ≤ j → is_misnumbered (log (take j all) ledger) o ≡ false → IfSome o (λ t. length (transactions (log (take count all) ledger)) < t.id)
late_transaction ledger count j all None le h = tt
late_transaction ledger count j all (Some t) le h =
    let next : t.id ≡ length (transactions (log (take j all) ledger)) + 1 = next_id (log (take j all) ledger) t h in
    let parts : log (take j all) ledger ≡ log (take count all) ledger ++ log (drop count (take j all)) ledger =
    sym (sym (flat_map-append (logged ledger) (take count (take j all)) (drop count (take j all))) ∙ ap (λ es. log es ledger) (take-append-drop count (take j all))) ∙ ap (λ es. log es ledger ++ log (drop count (take j all)) ledger) (take_less count j all le) in
    let more : length (transactions (log (take j all) ledger)) ≡ length (transactions (log (take count all) ledger)) + length (transactions (log (drop count (take j all)) ledger)) =
    ap (λ g. length (transactions g)) parts ∙ ap length (flat_map-append _ (log (take count all) ledger) (log (drop count (take j all)) ledger)) ∙ length-append (transactions (log (take count all) ledger)) (transactions (log (drop count (take j all)) ledger)) in
    omega (arith, next, more)

late_event : (count j : ℕ) (all : List Event) (event : Event) → count ≤ j → MayFollow (take j all) event → IsLate count all event
late_event count j all (Made info) le f = ap (λ es. is_there es info.name) (sym (take_less count j all le)) ∙ prefix_absent info.name count (take j all) f
late_event count j all (Logged name e) le f = late_transaction name count j all (body_transaction e.body) le f.1.transaction

pub slice_get-drop : {A : Type 0} (n : ℕ) (xs : List A) (k : ℕ) → slice_get (drop n xs) k ≡ slice_get xs (n + k)
slice_get-drop zero xs k = ap (slice_get xs) (let e : k ≡ zero + k = omega arith in e)
slice_get-drop (suc n) [] k = refl
slice_get-drop (suc n) (x ∷ xs) k = slice_get-drop n xs k ∙ ap (slice_get (x ∷ xs)) (let e : suc (n + k) ≡ suc n + k = omega arith in e)

-- ---- at the beginning

module _ (all : List Event) (count : ℕ) (ledgers : Ledgers) (h : IsBook all count ledgers) (ledger : List ℕ) where
  kept_log : log (take count (take count all)) ledger ≡ log (take count all) ledger
  kept_log = kept_added ledger count all

  parts_of : {B : Type 0} (f : Event → List B) → places_of f 0 all ≡ places_of f 0 (take count all) ++ places_of f (0 + length (take count all)) (drop count all)
  parts_of f = ap (places_of f 0) (sym (take-append-drop count all)) ∙ places-append f 0 (take count all) (drop count all)

  loose_at_first : (x : LedgerView) → IsIndex (ledger_part ledger count all) x → is_there (take count all) ledger ≡ true → Loose (log (drop count all) ledger) (kept_part ledger count all) x
  loose_at_first x i there =
      let entries_first : x.logged ≡ length (places_of (logged ledger) 0 (take count all)) = i.logged_is ∙ sym (length-places (logged ledger) 0 (take count all)) in
      let transactions_first : x.transacted ≡ length (places_of (event_transactions ledger) 0 (take count all)) =
      i.transacted_is ∙ ap length (transactions-events ledger (take count all)) ∙ sym (length-places (event_transactions ledger) 0 (take count all)) in
      let volumes_first : x.logged ≡ length (all_volumes [] (log (take count all) ledger)) = i.logged_is ∙ sym (length-volumes [] (log (take count all) ledger)) in
      record {
        made = only_first _ _ x.made (sym (parts_of (made_as ledger)) ∙ i.made) (λ none. let absent : is_there (take count all) ledger ≡ false = none_made ledger 0 (take count all) none in let f : true ≡ false = sym there ∙ absent in cc);
        there = i.there ∙ ap (λ es. is_there es ledger) (sym (take_take count all));
        entries = sym (take-map entry_place x.logged x.entries) ∙ ap (take x.logged) (i.entries ∙ parts_of (logged ledger)) ∙ front_of x.logged _ _ entries_first;
        volumes = sym (take-map first_volumes x.logged x.entries) ∙ ap (take x.logged) (i.volumes ∙ volumes_front [] (log (take count all) ledger) (log (drop count all) ledger)) ∙ front_of x.logged _ _ volumes_first ∙ ap (all_volumes []) (sym kept_log);
        logged_is = i.logged_is ∙ ap length (sym kept_log);
        transactions_are = sym (take-map transaction_place x.transacted x.transactions) ∙ ap (take x.transacted) (i.transactions_are ∙ parts_of (event_transactions ledger)) ∙ front_of x.transacted _ _ transactions_first;
        transacted_is = i.transacted_is ∙ ap (λ g. length (transactions g)) (sym kept_log);
        records = λ k r is.
            let rec = i.records k r (slice_get-taken x.transacted x.transactions k r is) in
            record {
              reverted = rec.reverted ∙ ap (λ g. reverted_by g (suc k)) (sym kept_log);
              changes = rec.changes ∙ ap (changes_about (TransactionOf (suc k))) (sym kept_log);
              none_left = λ none. rec.prepared_changes ∙ ap changes_of none;
            };
        tail = λ none.
            let whole : log (take count all) ledger ++ log (drop count all) ledger ≡ log (take count all) ledger = ap (λ l. log (take count all) ledger ++ l) none ∙ append-nil _ in (
              take_within x.logged x.entries (entry_count (ledger_part ledger count all) x i (tied ledger count all) ∙ ap length whole ∙ sym i.logged_is),
              take_within x.transacted x.transactions (record_count (ledger_part ledger count all) x i (tied ledger count all) ∙ ap (λ g. length (transactions g)) whole ∙ sym i.transacted_is),
            );
      }

  going_at_first : (x : LedgerView) → IsIndex (ledger_part ledger count all) x → is_there (take count all) ledger ≡ false → is_there (drop count all) ledger ≡ true
  going_at_first x i absent = by_test (is_there (drop count all) ledger) refl
    where
      by_test : (b : Bool) → is_there (drop count all) ledger ≡ b → is_there (drop count all) ledger ≡ true
      by_test true e = e
      by_test false e =
          let none : is_there all ledger ≡ false = ap (λ es. is_there es ledger) (sym (take-append-drop count all)) ∙ list_any-append (is_made_as ledger) (take count all) (drop count all) ∙ ap₂ (λ a b. a || b) absent e in
          absurd (let f : [] ≡ x.made ∷ [] = sym (no_made ledger 0 all none) ∙ i.made in cc)

  first_state : (o : Option LedgerView) → IsIndexed (ledger_part ledger count all) o → Forgetting (log (drop count all) ledger) (is_there (drop count all) ledger) (kept_part ledger count all) o
  first_state None i = Gone (no_made ledger 0 (take count all) (prefix_absent ledger count all (none_made ledger 0 all i)))
  first_state (Some x) i = by_test (is_there (take count all) ledger) refl
    where
      by_test : (b : Bool) → is_there (take count all) ledger ≡ b → Forgetting (log (drop count all) ledger) (is_there (drop count all) ledger) (kept_part ledger count all) (Some x)
      by_test true e = Stays x (loose_at_first x i e)
      by_test false e = Going x (going_at_first x i e) (no_made ledger 0 (take count all) e)

-- ---- at the end

last_index : (p : LedgerPart) (x : LedgerView) → p.prepared ≡ [] → Loose [] p x → IsIndex p x
last_index p x none h =
    let tail = h.tail refl in
    record {
      made = h.made;
      there = h.there;
      entries = ap (map entry_place) tail.0 ∙ h.entries;
      volumes = ap (map first_volumes) tail.0 ∙ h.volumes ∙ ap (all_volumes []) (sym (ap (λ l. p.added ++ l) none ∙ append-nil p.added));
      logged_is = h.logged_is;
      transactions_are = ap (map transaction_place) tail.1 ∙ h.transactions_are;
      transacted_is = h.transacted_is;
      records = λ k r is.
          let rec = h.records k r (subst (λ l. slice_get l k ≡ Some r) tail.1 is) in
          record { reverted = rec.reverted; changes = rec.changes; prepared_changes = rec.none_left refl ∙ ap (λ g. changes_of (changes_about (TransactionOf (suc k)) g)) (sym none) };
    }

last_state : (p : LedgerPart) (o : Option LedgerView) → p.prepared ≡ [] → Forgetting [] false p o → IsIndexed p o
last_state p None none (Gone made) = made
last_state p (Some x) none (Going _ is made) = absurd (let f : false ≡ true = is in cc)
last_state p (Some x) none (Stays _ h) = last_index p x none h

grown_front : (count : ℕ) (all : List Event) → IsGrown all → IsGrown (take count all)
grown_front count all h = record {
  each = λ k event is.
      let below : k < count = taken_lt count all k event is in
      subst (λ es. MayFollow es event) (sym (take_less k count all (omega (arith, below)))) (h.each k event (slice_get-taken count all k event is));
}

length_front : {A : Type 0} (n : ℕ) (xs : List A) → n ≤ length xs → n ≤ length (take n xs)
length_front zero xs h = omega arith
length_front (suc n) [] h = absurd (omega arith)
length_front (suc n) (x ∷ xs) h = let r : n ≤ length (take n xs) = length_front n xs (omega arith) in omega (arith, r)

pub forgotten_is : (all : List Event) (count : ℕ) (ledgers : Ledgers) → IsBook all count ledgers → IsBook (take count all) count (events_forgotten (drop count all) ledgers)
forgotten_is all count ledgers h = record {
  within = length_front count all h.within;
  grown = grown_front count all h.grown;
  indexes = λ ledger. last_state (kept_part ledger count all) (get (events_forgotten (drop count all) ledgers) ledger) (ap (λ es. log es ledger) (drop_take count all))
      (all_given_up count all (drop count all) ledgers
      (λ j event is. late_event count (count + j) all event (omega arith) (h.grown.each (count + j) event (sym (slice_get-drop count all j) ∙ is)))
      (λ l. first_state all count ledgers h l (get ledgers l) (h.indexes l)) ledger);
}
