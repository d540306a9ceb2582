-- What a book answers, by what it keeps.
use Rattle.std.proofs.Common.{◌≡◌, ℕ, ℤ, Bool, true, false, cond, List, [], ◌∷◌, ◌++◌, length, take, drop, slice_get, IsSome, IfSome, Option, Some, None, refl, sym, ap, ap₂, subst, ◌∙◌}
use Rattle.std.specs.Prelude.{is_some}
use Rattle.std.specs.Option.{option_map}
use Rattle.std.proofs.lemmas.List.{take-append-drop}
use Rattle.lg_containers.specs.NameTable.{get}
use Rattle.lg_meta.specs.MetaFold.{changes_about}
use Rattle.lg_types.specs.declared.records.Entry.{Entry}
use Rattle.lg_types.specs.declared.records.Event.{Event}
use Rattle.lg_types.specs.declared.records.Target.TheVariants.{Transaction as TransactionOf}
use Rattle.lg_types.specs.Chain.{head, entry_hash}
use Rattle.lg_types.specs.Known.{date, date_after, find_transaction, transactions}
use Rattle.lg_types.specs.Lists.{last_of}
use Rattle.lg_types.specs.Log.{log, is_there}
use Rattle.lg_views.specs.declared.replies.Reply.{Reply}
use Rattle.lg_views.specs.Replies.{plain}
use Rattle.lg_views.specs.Writes.{first_reply, up_to}
use Rattle.lg_book.specs.FirstVolumes.{entry_volumes}
use Rattle.lg_book.specs.Reading.{ledger_of, count_entries, count_transactions, find_entry, transaction_at, inserted_at, reverted_by}
use Rattle.lg_book.specs.Index.{by_id, ledger_part, LedgerView, IsIndex, IsIndexed, IsBook, entry_there, info_if, entry_by_record, made_by_record, transaction_by_entry, date_by_entry, reverted_by_record, history_of}
use Rattle.lg_book.specs.Writing.{Ledgers}
use Rattle.lg_book.proofs.Lists.{not_some}
use Rattle.lg_book.proofs.Sound.{IsSound, sound-take, absent-take}
use Rattle.lg_book.proofs.BookSteps.{prefix_absent}
use Rattle.lg_book.proofs.FoundRecords.{none_made, there-made, ledger-made, ReadsEntry, reads_entry, NoEntry, AnEntry, entry-read, last-read, transaction-read, inserted-read, reverted-read, history-there, history-read, info-read}

pub at_name : (name found : List ℕ) (ledgers given : Ledgers) (o : Option LedgerView) → o ≡ get given found → found ≡ name → given ≡ ledgers → get ledgers name ≡ o
at_name name found ledgers given o is n p = sym (is ∙ ap₂ (λ q t. get t q) n p)

pub whole_list : (count : ℕ) (all events prepared : List Event) → take count all ≡ events → drop count all ≡ prepared → events ++ prepared ≡ all
whole_list count all events prepared e p = ap₂ (λ l m. l ++ m) (sym e) (sym p) ∙ take-append-drop count all

-- a reader answers from an empty log where the ledger isn't there
module _ (all : List Event) (count : ℕ) (ledgers : Ledgers) (h : IsBook all count ledgers) (name : List ℕ) (events : List Event) (view : take count all ≡ events) where
  module _ (none : get ledgers name ≡ None) where
    absent : is_there (take count all) name ≡ false
    absent = prefix_absent name count all (none_made name 0 all (subst (IsIndexed (ledger_part name count all)) none (h.indexes name)))

    pub absent_is : is_there events name ≡ false
    absent_is = ap (λ es. is_there es name) (sym view) ∙ absent

    pub empty_log : log events name ≡ []
    empty_log = ap (λ es. log es name) (sym view) ∙ absent-take all h.grown name count h.within absent

    pub no_count : (n : ℕ) → None ≡ cond (is_there events name) (Some n) None
    no_count n = ap (λ b. cond b (Some n) None) (sym absent_is)

    pub no_info : None ≡ ledger_of events name
    no_info = sym (ledger-made name events ∙ missing (slice_get _ 0) (sym (there-made name events) ∙ absent_is))
      where
        missing : {A : Type 0} (o : Option A) → is_some o ≡ false → o ≡ None
        missing None e = refl
        missing (Some x) e = absurd (let f : true ≡ false = e in cc)

  module _ (x : LedgerView) (is : get ledgers name ≡ Some x) where
    index : IsIndex (ledger_part name count all) x
    index = subst (IsIndexed (ledger_part name count all)) is (h.indexes name)

    sound : IsSound (log (take count all) name)
    sound = sound-take all h.grown name count h.within

    pub info_is : (es : List Event) → es ≡ all → info_if x.there (slice_get es x.made) ≡ ledger_of events name
    info_is es e = ap (λ l. info_if x.there (slice_get l x.made)) e ∙ info-read name count all x index ∙ ap (λ l. ledger_of l name) view

    pub log_len_is : cond x.there (Some x.logged) None ≡ count_entries events name
    log_len_is = ap₂ (λ b n. cond b (Some n) None) index.there index.logged_is ∙ ap (λ l. count_entries l name) view

    pub transactions_is : cond x.there (Some x.transacted) None ≡ count_transactions events name
    transactions_is = ap₂ (λ b n. cond b (Some n) None) index.there index.transacted_is ∙ ap (λ l. count_transactions l name) view

    pub entry_is : (es : List Event) → es ≡ all → (id : ℕ) → entry_by_record es (by_id (take x.logged x.entries) id) ≡ find_entry (log events name) id
    entry_is es e id = ap (λ l. entry_by_record l (by_id (take x.logged x.entries) id)) e ∙ entry-read name count all x index sound id ∙ ap (λ l. find_entry (log l name) id) view

    pub transaction_is : (es : List Event) → es ≡ all → (id : ℕ) → transaction_by_entry (made_by_record es (by_id (take x.transacted x.transactions) id)) ≡ transaction_at (log events name) id
    transaction_is es e id = ap (λ l. transaction_by_entry (made_by_record l (by_id (take x.transacted x.transactions) id))) e ∙ transaction-read name count all x index sound id ∙ ap (λ l. transaction_at (log l name) id) view

    pub inserted_is : (es : List Event) → es ≡ all → (id : ℕ) → date_by_entry (made_by_record es (by_id (take x.transacted x.transactions) id)) ≡ inserted_at (log events name) id
    inserted_is es e id = ap (λ l. date_by_entry (made_by_record l (by_id (take x.transacted x.transactions) id))) e ∙ inserted-read name count all x index sound id ∙ ap (λ l. inserted_at (log l name) id) view

    pub reverted_is : (id : ℕ) → reverted_by_record (by_id (take x.transacted x.transactions) id) ≡ reverted_by (log events name) id
    reverted_is id = reverted-read name count all x index sound id ∙ ap (λ l. reverted_by (log l name) id) view

    pub history_there_is : (id : ℕ) → is_some (option_map history_of (by_id (take x.transacted x.transactions) id)) ≡ is_some (find_transaction (log events name) id)
    history_there_is id = history-there name count all x index sound id ∙ ap (λ l. is_some (find_transaction (log l name) id)) view

    pub history_is : (id : ℕ) → IfSome (option_map history_of (by_id (take x.transacted x.transactions) id)) (λ history. history.changes ≡ changes_about (TransactionOf id) (log events name))
    history_is id = subst (λ l. IfSome (option_map history_of (by_id (take x.transacted x.transactions) id)) (λ history. history.changes ≡ changes_about (TransactionOf id) (log l name))) view (history-read name count all x index sound id)

    last_is : (es : List Event) → es ≡ all → entry_by_record es (by_id (take x.logged x.entries) x.logged) ≡ last_of (log events name)
    last_is es e = ap (λ l. entry_by_record l (by_id (take x.logged x.entries) x.logged)) e ∙ last-read name count all x index sound ∙ ap (λ l. last_of (log l name)) view

    pub head_is : (es : List Event) → es ≡ all → option_map entry_hash (entry_by_record es (by_id (take x.logged x.entries) x.logged)) ≡ head (log events name)
    head_is es e = ap (option_map entry_hash) (last_is es e)

    pub date_is : (es : List Event) → es ≡ all → (now : ℤ) → date_after (entry_by_record es (by_id (take x.logged x.entries) x.logged)) now ≡ date (log events name) now
    date_is es e now = ap (λ o. date_after o now) (last_is es e)

    -- the first reply, by the record of the entry
    pub reply_is : (es : List Event) → es ≡ all → (id : ℕ) (reply : Reply)
        → IfSome (by_id (take x.logged x.entries) id) (λ r. IfSome (entry_there (slice_get es r.place)) (λ e. (g : List Entry) → r.volumes ≡ entry_volumes g e → reply ≡ plain (first_reply g e)))
        → IfSome (find_entry (log events name) id) (λ e. reply ≡ plain (first_reply (up_to (log events name) e) e))
    reply_is es same id reply facts =
        subst (λ l. IfSome (find_entry (log l name) id) (λ e. reply ≡ plain (first_reply (up_to (log l name) e) e))) view
        (elim (reads_entry name count all x index sound id) [
          | NoEntry none lacking ↦ subst (λ o. IfSome o (λ e. reply ≡ plain (first_reply (up_to (log (take count all) name) e) e))) (sym none) tt
          | AnEntry e r found kept at volumes number ↦
              subst (λ o. IfSome o (λ e. reply ≡ plain (first_reply (up_to (log (take count all) name) e) e))) (sym found)
              (let there : entry_there (slice_get es r.place) ≡ Some e = ap (λ l. entry_there (slice_get l r.place)) same ∙ at in
              let own = subst (λ o. IfSome o (λ y. (g : List Entry) → r.volumes ≡ entry_volumes g y → reply ≡ plain (first_reply g y))) there (subst (λ o. IfSome o (λ r. IfSome (entry_there (slice_get es r.place)) (λ e. (g : List Entry) → r.volumes ≡ entry_volumes g e → reply ≡ plain (first_reply g e)))) kept facts) in
              own (up_to (log (take count all) name) e) (volumes ∙ ap (λ n. entry_volumes (take n (log (take count all) name)) e) number))
        ])
