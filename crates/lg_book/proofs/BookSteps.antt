-- What is kept of all ledgers, when an event is prepared and when it is added.
use Rattle.std.proofs.Common.{◌≡◌, ℕ, zero, suc, ◌+◌, ◌<◌, ◌≤◌, Bool, true, false, cond, ◌||◌, List, [], ◌∷◌, ◌++◌, map, length, take, drop, slice_get, IfSome, Option, Some, None, refl, sym, ap, ap₂, subst, ◌∙◌, inl, inr, arith}
use Rattle.std.specs.Prelude.{◌⊎◌}
use Rattle.std.specs.Option.{option_map}
use Rattle.std.specs.List.{flat_map, list_any}
use Rattle.std.specs.Str.{bytes_eq}
use Rattle.std.proofs.lemmas.List.{append-nil, length-append, take-append-le, take-append-drop}
use Rattle.std.proofs.lemmas.List.Folds.{list_any-append}
use Rattle.std.proofs.lemmas.Grind.{flat_map-append}
use Rattle.std.proofs.Math.Seq.{take-append_seam}
use Rattle.lg_containers.specs.NameTable.{empty, get, insert, get-empty}
use Rattle.lg_types.specs.declared.records.Entry.{Entry}
use Rattle.lg_types.specs.declared.records.Event.{Event}
use Rattle.lg_types.specs.declared.records.Event.TheVariants.{Made, Logged}
use Rattle.lg_types.specs.declared.records.LedgerInfo.{LedgerInfo}
use Rattle.lg_types.specs.Known.{transactions}
use Rattle.lg_types.specs.Log.{log, logged, is_there, is_made_as}
use Rattle.lg_book.specs.declared.volumes.FirstVolumes.{FirstVolumes}
use Rattle.lg_book.specs.FirstVolumes.{entry_volumes, volumes_after}
use Rattle.lg_book.specs.Following.{MayFollowLog, MayFollow, IsGrown}
use Rattle.lg_book.specs.Index.{places_of, made_as, event_transactions, LedgerPart, ledger_part, LedgerView, all_volumes, IsRecord, IsIndex, IsIndexed, IsBook, new_index, index_made, index_prepared, index_added, put_if, put_changed, CanPrepare, CanAdd}
use Rattle.lg_book.specs.Writing.{Ledgers, CanPrepareEvent, event_prepared, CanAddEvent, event_added}
use Rattle.lg_book.proofs.Lists.{not_some, snoc_cases, slice_get_within_length, take-snoc}
use Rattle.lg_book.proofs.LedgerMaps.{get-here, get-other}
use Rattle.lg_book.proofs.Places.{length-places}
use Rattle.lg_book.proofs.Sound.{IsSound, sound-take, absent-take, same_bytes, bytes_same, or_left, or_right}
use Rattle.lg_book.proofs.IndexSteps.{whole_log, transactions-events, tied, part_with, part-snoc, part_same, index_can_prepare, index_prepared_is, part_added, index_can_add, index_added_is}
use Rattle.lg_book.proofs.RecordSteps.{nil_left, nil_right}

-- ---- words

pub bytes_differ : (x y : List ℕ) → (x ≡ y → ⊥) → bytes_eq x y ≡ false
bytes_differ x y h = by_test (bytes_eq x y) refl
  where
    by_test : (b : Bool) → bytes_eq x y ≡ b → bytes_eq x y ≡ false
    by_test true e = absurd (h (bytes_same x y e))
    by_test false e = e

pub same_or_not : (x y : List ℕ) → (x ≡ y) ⊎ (x ≡ y → ⊥)
same_or_not x y = by_test (bytes_eq x y) refl
  where
    by_test : (b : Bool) → bytes_eq x y ≡ b → (x ≡ y) ⊎ (x ≡ y → ⊥)
    by_test true e = inl (bytes_same x y e)
    by_test false e = inr (λ same. let f : false ≡ true = sym e ∙ ap (bytes_eq x) (sym same) ∙ same_bytes x in absurd cc)

pub take_all : {A : Type 0} (xs : List A) → take (length xs) xs ≡ xs
take_all [] = refl
take_all (x ∷ xs) = ap (λ l. x ∷ l) (take_all xs)

nil_by_length : {A : Type 0} (xs : List A) → length xs ≡ 0 → xs ≡ []
nil_by_length [] h = refl
nil_by_length (x ∷ xs) h = absurd (omega arith)

or_same : (b : Bool) → (b || false) ≡ b
or_same true = refl
or_same false = refl

or_true : (b : Bool) → (b || true) ≡ true
or_true true = refl
or_true false = refl

pub drop-next : {A : Type 0} (k : ℕ) (xs : List A) (x : A) → slice_get xs k ≡ Some x → drop k xs ≡ x ∷ drop (suc k) xs
drop-next k [] x h = absurd (not_some x h)
drop-next zero (y ∷ xs) x h = ap (λ o. o ∷ xs) (let e : y ≡ x = cc in e)
drop-next (suc k) (y ∷ xs) x h = drop-next k xs x h

pub grown-snoc : (all : List Event) (event : Event) → IsGrown all → MayFollow all event → IsGrown (all ++ event ∷ [])
grown-snoc all event h f = record {
  each = λ k other is. elim (snoc_cases all event other k is) [
    | inl old ↦ (let lt : k < length all = slice_get_within_length all k other old in let le : k ≤ length all = omega (arith, lt) in subst (λ es. MayFollow es other) (sym (take-append-le k all (event ∷ []) le)) (h.each k other old))
    | inr new ↦ subst (λ es. MayFollow es other) (sym (ap (λ n. take n (all ++ event ∷ [])) new.0 ∙ take-append_seam all (event ∷ []))) (subst (MayFollow all) new.1 f)
  ];
}

-- ---- where a ledger is made

made_none : (ledger : List ℕ) (event : Event) → is_made_as ledger event ≡ false → made_as ledger event ≡ []
made_none ledger (Made info) h = ap (λ b. cond b (info ∷ []) []) h
made_none ledger (Logged name e) h = refl

pub no_made : (ledger : List ℕ) (k : ℕ) (events : List Event) → is_there events ledger ≡ false → places_of (made_as ledger) k events ≡ []
no_made ledger k [] h = refl
no_made ledger k (event ∷ events) h =
    ap₂ (λ l m. map (λ _. k) l ++ m) (made_none ledger event (or_left (is_made_as ledger event) (is_there events ledger) h)) (no_made ledger (suc k) events (or_right (is_made_as ledger event) (is_there events ledger) h))

pub prefix_absent : (ledger : List ℕ) (count : ℕ) (all : List Event) → is_there all ledger ≡ false → is_there (take count all) ledger ≡ false
prefix_absent ledger count all h =
    or_left _ (is_there (drop count all) ledger) (sym (list_any-append (is_made_as ledger) (take count all) (drop count all)) ∙ ap (λ es. is_there es ledger) (take-append-drop count all) ∙ h)

-- ---- maps changed at a name

pub get-changed-other : (name other : List ℕ) (change : LedgerView → LedgerView) (ledgers : Ledgers) → (other ≡ name → ⊥) → get (put_changed name change ledgers) other ≡ get ledgers other
get-changed-other name other change ledgers h = by_found (get ledgers name)
  where
    by_found : (o : Option LedgerView) → get (put_if name (option_map change o) ledgers) other ≡ get ledgers other
    by_found None = refl
    by_found (Some x) = get-other name other (change x) ledgers h

-- what holds of the changed value of the name
pub changed_holds : (name : List ℕ) (change : LedgerView → LedgerView) (ledgers : Ledgers) (P Q : Option LedgerView → Type 0) → P (get ledgers name) → (P None → Q None) → ((x : LedgerView) → P (Some x) → Q (Some (change x)))
    → Q (get (put_changed name change ledgers) name)
changed_holds name change ledgers P Q h none some = by_found (get ledgers name) refl h
  where
    by_found : (o : Option LedgerView) → get ledgers name ≡ o → P o → Q (get (put_if name (option_map change o) ledgers) name)
    by_found None e p = subst Q (sym e) (none p)
    by_found (Some x) e p = subst Q (sym (get-here name (change x) ledgers)) (some x p)

module _ (all : List Event) (count : ℕ) (ledgers : Ledgers) (h : IsBook all count ledgers) where
  whole_sound : (ledger : List ℕ) → IsSound (log (take count all) ledger ++ log (drop count all) ledger)
  whole_sound ledger = subst IsSound (sym (whole_log ledger count all)) (subst (λ es. IsSound (log es ledger)) (take_all all) (sound-take all h.grown ledger (length all) (omega arith)))

  pub log_absent : (ledger : List ℕ) → is_there all ledger ≡ false → log all ledger ≡ []
  log_absent ledger none =
      ap (λ es. log es ledger) (sym (take_all all)) ∙ absent-take all h.grown ledger (length all) (omega arith) (ap (λ es. is_there es ledger) (take_all all) ∙ none)

  pub not_found : (ledger : List ℕ) → is_there all ledger ≡ false → get ledgers ledger ≡ None
  not_found ledger none = by_found (get ledgers ledger) (h.indexes ledger)
    where
      by_found : (o : Option LedgerView) → IsIndexed (ledger_part ledger count all) o → o ≡ None
      by_found None i = refl
      by_found (Some x) i = absurd (let f : [] ≡ x.made ∷ [] = sym (no_made ledger 0 all none) ∙ i.made in cc)

  -- ---- an entry is prepared

  module _ (name : List ℕ) (e : Entry) (f : MayFollow all (Logged name e)) where
    follows : MayFollowLog (log (take count all) name ++ log (drop count all) name) e
    follows = subst (λ g. MayFollowLog g e) (sym (whole_log name count all)) f.1

    own_part : ledger_part name count (all ++ Logged name e ∷ []) ≡ part_with (ledger_part name count all) (length all) [] (e ∷ [])
    own_part = part-snoc name count all (Logged name e) h.within ∙ ap (λ b. part_with (ledger_part name count all) (length all) [] (cond b (e ∷ []) [])) (same_bytes name)

    other_part : (ledger : List ℕ) → (ledger ≡ name → ⊥) → ledger_part ledger count (all ++ Logged name e ∷ []) ≡ ledger_part ledger count all
    other_part ledger other =
        part-snoc ledger count all (Logged name e) h.within
        ∙ ap (λ b. part_with (ledger_part ledger count all) (length all) [] (cond b (e ∷ []) [])) (bytes_differ name ledger (λ same. other (sym same)))
        ∙ part_same (ledger_part ledger count all) (length all)

    entry_can_prepare : IfSome (get ledgers name) (λ x. CanPrepare x.transactions e.body)
    entry_can_prepare = by_found (get ledgers name) (h.indexes name)
      where
        by_found : (o : Option LedgerView) → IsIndexed (ledger_part name count all) o → IfSome o (λ x. CanPrepare x.transactions e.body)
        by_found None i = tt
        by_found (Some x) i = index_can_prepare (ledger_part name count all) x i (tied name count all) e (whole_sound name) follows

    entry_prepared : (volumes : FirstVolumes) → volumes ≡ volumes_after all (Logged name e) → IsBook (all ++ Logged name e ∷ []) count (put_changed name (index_prepared (length all) e volumes) ledgers)
    entry_prepared volumes is = record {
      within = (let le : count ≤ length all = h.within in let more : length (all ++ Logged name e ∷ []) ≡ length all + 1 = length-append all (Logged name e ∷ []) in omega (arith, le, more));
      grown = grown-snoc all (Logged name e) h.grown f;
      indexes = λ ledger. elim (same_or_not ledger name) [
        | inl same ↦
            subst (λ l. IsIndexed (ledger_part l count (all ++ Logged name e ∷ [])) (get (put_changed name (index_prepared (length all) e volumes) ledgers) l)) (sym same)
            (subst (λ p. IsIndexed p (get (put_changed name (index_prepared (length all) e volumes) ledgers) name)) (sym own_part)
            (changed_holds name (index_prepared (length all) e volumes) ledgers (IsIndexed (ledger_part name count all)) (IsIndexed (part_with (ledger_part name count all) (length all) [] (e ∷ []))) (h.indexes name)
            (λ none. append-nil _ ∙ none)
            (λ x i. index_prepared_is (ledger_part name count all) x i (tied name count all) e (length all) volumes (whole_sound name) follows (is ∙ ap (λ g. entry_volumes (g ++ e ∷ []) e) (sym (whole_log name count all))))))
        | inr other ↦
            subst (IsIndexed (ledger_part ledger count (all ++ Logged name e ∷ []))) (sym (get-changed-other name ledger (index_prepared (length all) e volumes) ledgers other))
            (subst (λ p. IsIndexed p (get ledgers ledger)) (sym (other_part ledger other)) (h.indexes ledger))
      ];
    }

  -- ---- a ledger is prepared

  module _ (info : LedgerInfo) (absent : is_there all info.name ≡ false) where
    new_part : ledger_part info.name count (all ++ Made info ∷ []) ≡ part_with (ledger_part info.name count all) (length all) (info ∷ []) []
    new_part = part-snoc info.name count all (Made info) h.within ∙ ap (λ b. part_with (ledger_part info.name count all) (length all) (cond b (info ∷ []) []) []) (same_bytes info.name)

    still_part : (ledger : List ℕ) → (ledger ≡ info.name → ⊥) → ledger_part ledger count (all ++ Made info ∷ []) ≡ ledger_part ledger count all
    still_part ledger other =
        part-snoc ledger count all (Made info) h.within
        ∙ ap (λ b. part_with (ledger_part ledger count all) (length all) (cond b (info ∷ []) []) []) (bytes_differ info.name ledger (λ same. other (sym same)))
        ∙ part_same (ledger_part ledger count all) (length all)

    nothing : log (take count all) info.name ++ log (drop count all) info.name ≡ []
    nothing = whole_log info.name count all ∙ log_absent info.name absent

    new_index_is : IsIndex (part_with (ledger_part info.name count all) (length all) (info ∷ []) []) (new_index (length all))
    new_index_is =
        let t = tied info.name count all in
        let entries = nil_by_length (places_of (logged info.name) 0 all) (t.entries ∙ ap length nothing) in
        let made_transactions = nil_by_length (places_of (event_transactions info.name) 0 all) (t.transactions_are ∙ ap (λ g. length (transactions g)) nothing) in
        let added = nil_left _ _ nothing in
        record {
          made = ap (λ l. l ++ length all ∷ []) (no_made info.name 0 all absent);
          there = sym (prefix_absent info.name count all absent);
          entries = sym (append-nil _ ∙ entries);
          volumes = ap (all_volumes []) (sym (ap (λ l. log (take count all) info.name ++ l) (append-nil (log (drop count all) info.name)) ∙ nothing));
          logged_is = ap length (sym added);
          transactions_are = sym (append-nil _ ∙ made_transactions);
          transacted_is = ap (λ g. length (transactions g)) (sym added);
          records = λ k r is. absurd (not_some r is);
        }

    made_prepared : IsBook (all ++ Made info ∷ []) count (insert ledgers info.name (new_index (length all)))
    made_prepared = record {
      within = (let le : count ≤ length all = h.within in let more : length (all ++ Made info ∷ []) ≡ length all + 1 = length-append all (Made info ∷ []) in omega (arith, le, more));
      grown = grown-snoc all (Made info) h.grown absent;
      indexes = λ ledger. elim (same_or_not ledger info.name) [
        | inl same ↦
            subst (λ l. IsIndexed (ledger_part l count (all ++ Made info ∷ [])) (get (insert ledgers info.name (new_index (length all))) l)) (sym same)
            (subst (IsIndexed (ledger_part info.name count (all ++ Made info ∷ []))) (sym (get-here info.name (new_index (length all)) ledgers)) (subst (λ p. IsIndex p (new_index (length all))) (sym new_part) new_index_is))
        | inr other ↦
            subst (IsIndexed (ledger_part ledger count (all ++ Made info ∷ []))) (sym (get-other info.name ledger (new_index (length all)) ledgers other))
            (subst (λ p. IsIndexed p (get ledgers ledger)) (sym (still_part ledger other)) (h.indexes ledger))
      ];
    }

  pub event_can_prepare : (event : Event) → MayFollow all event → CanPrepareEvent ledgers event
  event_can_prepare (Made info) f = not_found info.name f
  event_can_prepare (Logged name e) f = entry_can_prepare name e f

  pub event_prepared_is : (event : Event) (volumes : FirstVolumes) → MayFollow all event → volumes ≡ volumes_after all event → IsBook (all ++ event ∷ []) count (event_prepared (length all) event volumes ledgers)
  event_prepared_is (Made info) volumes f is = made_prepared info f
  event_prepared_is (Logged name e) volumes f is = entry_prepared name e f volumes is

  -- ---- the first prepared event is added

  module _ (event : Event) (next : slice_get all count ≡ Some event) where
    part-next : (ledger : List ℕ) → ledger_part ledger (suc count) all ≡ part_added (ledger_part ledger count all) (is_there (take count all) ledger || is_made_as ledger event) (log (take count all) ledger ++ logged ledger event) (log (drop (suc count) all) ledger)
    part-next ledger =
        let more = take-snoc count all event next in
        let there : is_there (take (suc count) all) ledger ≡ (is_there (take count all) ledger || is_made_as ledger event) =
        ap (λ es. is_there es ledger) more ∙ list_any-append (is_made_as ledger) (take count all) (event ∷ []) ∙ ap (λ b. is_there (take count all) ledger || b) (or_same (is_made_as ledger event)) in
        let added : log (take (suc count) all) ledger ≡ log (take count all) ledger ++ logged ledger event =
        ap (λ es. log es ledger) more ∙ flat_map-append (logged ledger) (take count all) (event ∷ []) ∙ ap (λ l. log (take count all) ledger ++ l) (append-nil (logged ledger event)) in
        λ i. record (ledger_part ledger count all) { there = there i; added = added i; prepared = log (drop (suc count) all) ledger }

    first_prepared : (ledger : List ℕ) → log (drop count all) ledger ≡ logged ledger event ++ log (drop (suc count) all) ledger
    first_prepared ledger = ap (λ es. log es ledger) (drop-next count all event next)

    added_sound : (ledger : List ℕ) → IsSound (log (take count all) ledger)
    added_sound ledger = sound-take all h.grown ledger count h.within

    unmoved : (ledger : List ℕ) → is_made_as ledger event ≡ false → logged ledger event ≡ [] → ledger_part ledger (suc count) all ≡ ledger_part ledger count all
    unmoved ledger made none =
        part-next ledger
        ∙ (let there : (is_there (take count all) ledger || is_made_as ledger event) ≡ is_there (take count all) ledger = ap (λ b. is_there (take count all) ledger || b) made ∙ or_same _ in
        let added : log (take count all) ledger ++ logged ledger event ≡ log (take count all) ledger = ap (λ l. log (take count all) ledger ++ l) none ∙ append-nil _ in
        let rest : log (drop (suc count) all) ledger ≡ log (drop count all) ledger = sym (first_prepared ledger ∙ ap (λ l. l ++ log (drop (suc count) all) ledger) none) in
        λ i. record (ledger_part ledger count all) { there = there i; added = added i; prepared = rest i })

    next_within : suc count ≤ length all
    next_within = (let lt : count < length all = slice_get_within_length all count event next in omega (arith, lt))

  -- an entry is added
  module _ (name : List ℕ) (e : Entry) (next : slice_get all count ≡ Some (Logged name e)) where
    follows_added : MayFollowLog (log (take count all) name) e
    follows_added = (h.grown.each count (Logged name e) next).1

    entry_first : log (drop count all) name ≡ e ∷ log (drop (suc count) all) name
    entry_first = first_prepared (Logged name e) next name ∙ ap (λ b. cond b (e ∷ []) [] ++ log (drop (suc count) all) name) (same_bytes name)

    entry_part : ledger_part name (suc count) all ≡ part_added (ledger_part name count all) (is_there (take count all) name) (log (take count all) name ++ e ∷ []) (log (drop (suc count) all) name)
    entry_part =
        part-next (Logged name e) next name
        ∙ (let there : (is_there (take count all) name || false) ≡ is_there (take count all) name = or_same _ in
        let added : log (take count all) name ++ logged name (Logged name e) ≡ log (take count all) name ++ e ∷ [] = ap (λ b. log (take count all) name ++ cond b (e ∷ []) []) (same_bytes name) in
        λ i. record (ledger_part name count all) { there = there i; added = added i; prepared = log (drop (suc count) all) name })

    entry_can_add : IfSome (get ledgers name) (λ x. CanAdd e x)
    entry_can_add = by_found (get ledgers name) (h.indexes name)
      where
        by_found : (o : Option LedgerView) → IsIndexed (ledger_part name count all) o → IfSome o (λ x. CanAdd e x)
        by_found None i = tt
        by_found (Some x) i = index_can_add (ledger_part name count all) (log (drop (suc count) all) name) e x entry_first i (tied name count all) (added_sound (Logged name e) next name) follows_added

    entry_added : IsBook all (suc count) (put_changed name (index_added e) ledgers)
    entry_added = record {
      within = next_within (Logged name e) next;
      grown = h.grown;
      indexes = λ ledger. elim (same_or_not ledger name) [
        | inl same ↦
            subst (λ l. IsIndexed (ledger_part l (suc count) all) (get (put_changed name (index_added e) ledgers) l)) (sym same)
            (subst (λ p. IsIndexed p (get (put_changed name (index_added e) ledgers) name)) (sym entry_part)
            (changed_holds name (index_added e) ledgers (IsIndexed (ledger_part name count all)) (IsIndexed (part_added (ledger_part name count all) (is_there (take count all) name) (log (take count all) name ++ e ∷ []) (log (drop (suc count) all) name))) (h.indexes name)
            (λ none. none)
            (λ x i. index_added_is (ledger_part name count all) (log (drop (suc count) all) name) e x entry_first i (tied name count all) (added_sound (Logged name e) next name) follows_added)))
        | inr other ↦
            subst (IsIndexed (ledger_part ledger (suc count) all)) (sym (get-changed-other name ledger (index_added e) ledgers other))
            (subst (λ p. IsIndexed p (get ledgers ledger)) (sym (unmoved (Logged name e) next ledger refl (ap (λ b. cond b (e ∷ []) []) (bytes_differ name ledger (λ same. other (sym same)))))) (h.indexes ledger))
      ];
    }

  -- a ledger is added
  module _ (info : LedgerInfo) (next : slice_get all count ≡ Some (Made info)) where
    made_part : ledger_part info.name (suc count) all ≡ record (ledger_part info.name count all) { there = true }
    made_part =
        part-next (Made info) next info.name
        ∙ (let there : (is_there (take count all) info.name || is_made_as info.name (Made info)) ≡ true = ap (λ b. is_there (take count all) info.name || b) (same_bytes info.name) ∙ or_true _ in
        let added : log (take count all) info.name ++ [] ≡ log (take count all) info.name = append-nil _ in
        let rest : log (drop (suc count) all) info.name ≡ log (drop count all) info.name = sym (first_prepared (Made info) next info.name) in
        λ i. record (ledger_part info.name count all) { there = there i; added = added i; prepared = rest i })

    index_made_is : (x : LedgerView) → IsIndex (ledger_part info.name count all) x → IsIndex (record (ledger_part info.name count all) { there = true }) (index_made x)
    index_made_is x i = record {
      made = i.made;
      there = refl;
      entries = i.entries;
      volumes = i.volumes;
      logged_is = i.logged_is;
      transactions_are = i.transactions_are;
      transacted_is = i.transacted_is;
      records = i.records;
    }

    made_added : IsBook all (suc count) (put_changed info.name index_made ledgers)
    made_added = record {
      within = next_within (Made info) next;
      grown = h.grown;
      indexes = λ ledger. elim (same_or_not ledger info.name) [
        | inl same ↦
            subst (λ l. IsIndexed (ledger_part l (suc count) all) (get (put_changed info.name index_made ledgers) l)) (sym same)
            (subst (λ p. IsIndexed p (get (put_changed info.name index_made ledgers) info.name)) (sym made_part)
            (changed_holds info.name index_made ledgers (IsIndexed (ledger_part info.name count all)) (IsIndexed (record (ledger_part info.name count all) { there = true })) (h.indexes info.name) (λ none. none) index_made_is))
        | inr other ↦
            subst (IsIndexed (ledger_part ledger (suc count) all)) (sym (get-changed-other info.name ledger index_made ledgers other))
            (subst (λ p. IsIndexed p (get ledgers ledger)) (sym (unmoved (Made info) next ledger (bytes_differ info.name ledger (λ same. other (sym same))) refl)) (h.indexes ledger))
      ];
    }

  pub event_can_add : (event : Event) → slice_get all count ≡ Some event → CanAddEvent ledgers event
  event_can_add (Made info) next = tt
  event_can_add (Logged name e) next = entry_can_add name e next

  pub event_added_is : (event : Event) → slice_get all count ≡ Some event → IsBook all (suc count) (event_added event ledgers)
  event_added_is (Made info) next = made_added info next
  event_added_is (Logged name e) next = entry_added name e next

-- no event
pub empty_book : (all : List Event) (ledgers : Ledgers) → all ≡ [] → ledgers ≡ empty → IsBook all 0 ledgers
empty_book all ledgers none is = record {
  within = omega arith;
  grown = subst IsGrown (sym none) (record { each = λ k event h. absurd (not_some event h) });
  indexes = λ ledger.
      subst (IsIndexed (ledger_part ledger 0 all)) (sym (ap (λ t. get t ledger) is ∙ get-empty LedgerView ledger)) (ap (λ es. places_of (made_as ledger) 0 es) none);
}
