-- What is read of a ledger is the outcome of the call that asks for it.
use Rattle.std.proofs.Common.{◌≡◌, ℕ, suc, ◌+◌, ◌<◌, ℤ, Bool, true, false, cond, List, [], ◌∷◌, ◌++◌, length, take, slice_get, Some, None, refl, sym, ap, ◌∙◌, arith}
use Rattle.std.specs.Prelude.{Option}
use Rattle.lg_types.specs.declared.calls.Call.TheVariants.{Read as ReadCall}
use Rattle.lg_types.specs.declared.queries.Read.{Read}
use Rattle.lg_types.specs.declared.queries.Read.TheVariants.{Ledger as OfLedger}
use Rattle.lg_types.specs.declared.records.Entry.{Entry}
use Rattle.lg_types.specs.declared.records.Event.{Event}
use Rattle.lg_types.specs.declared.records.LedgerInfo.{LedgerInfo}
use Rattle.lg_types.specs.declared.refusals.Refusal.TheVariants.{NoLedger}
use Rattle.lg_types.specs.Log.{log, is_there}
use Rattle.lg_views.specs.declared.replies.Content.TheVariants.{Ledger as LedgerShown}
use Rattle.lg_views.specs.declared.replies.Reply.{Reply}
use Rattle.lg_views.specs.Outcome.{Task, ToRead, answer_on, in_ledger, ledger_record, no_ledger, on_ledger, outcome}
use Rattle.lg_views.specs.Reads.{log_content}
use Rattle.lg_views.specs.Replies.{plain, refused}
use Rattle.lg_book.specs.Following.{IsGrown}
use Rattle.lg_book.specs.Reading.{count_entries, find_entry, ledger_of}
use Rattle.lg_book.proofs.Lists.{take-snoc, there_within}
use Rattle.lg_query.specs.Asked.{IsReadAs}
use Rattle.lg_query.proofs.Numbered.{found_at}

-- the record of a ledger, where there is one and where there is none
pub no_record : (events : List Event) (ledger : List ℕ) → None ≡ ledger_of events ledger → (reply : Reply) → reply ≡ refused (NoLedger ledger) → IsReadAs events (ReadCall ledger OfLedger) reply
unfolding outcome
no_record events ledger none reply is now = ap (λ (r : Reply). (r, [])) is ∙ ap (ledger_record ledger) none

pub its_record : (events : List Event) (ledger : List ℕ) (info : LedgerInfo) → Some info ≡ ledger_of events ledger → (reply : Reply) → reply ≡ plain (LedgerShown info) → IsReadAs events (ReadCall ledger OfLedger) reply
unfolding outcome
its_record events ledger info found reply is now = ap (λ (r : Reply). (r, [])) is ∙ ap (ledger_record ledger) found

module _ (events : List Event) (ledger : List ℕ) where
  counted : Bool → Option ℕ
  counted b = cond b (Some (length (log events ledger))) None

  -- a ledger whose entries aren't counted isn't there, and one whose entries are counted is
  absent : None ≡ count_entries events ledger → is_there events ledger ≡ false
  unfolding counted
  absent none = by_test (is_there events ledger) refl
    where
      by_test : (b : Bool) → is_there events ledger ≡ b → is_there events ledger ≡ false
      by_test true t = absurd (let r : None ≡ Some (length (log events ledger)) = none ∙ ap counted t in cc)
      by_test false t = t

  present : (n : ℕ) → Some n ≡ count_entries events ledger → is_there events ledger ≡ true
  unfolding counted
  present n some = by_test (is_there events ledger) refl
    where
      by_test : (b : Bool) → is_there events ledger ≡ b → is_there events ledger ≡ true
      by_test true t = t
      by_test false t = absurd (let r : Some n ≡ None = some ∙ ap counted t in cc)

  -- how many entries it has
  pub all_counted : (n : ℕ) → Some n ≡ count_entries events ledger → n ≡ length (log events ledger)
  unfolding counted
  all_counted n some = let r : Some n ≡ Some (length (log events ledger)) = some ∙ ap counted (present n some) in cc

  -- a task of a ledger that isn't there, and a reading of one that is
  pub not_there : (task : Task) (now : ℤ) → None ≡ count_entries events ledger → (reply : Reply) → reply ≡ refused (NoLedger ledger) → (reply, []) ≡ in_ledger events ledger task now
  not_there task now none reply is =
      ap (λ (r : Reply). (r, [])) is
      ∙ sym (ap (λ (b : Bool). cond b (on_ledger ledger (answer_on task now (log events ledger))) (no_ledger ledger)) (absent none))

  pub read_there : (read : Read) (now : ℤ) (n : ℕ) → Some n ≡ count_entries events ledger → (reply : Reply) → reply ≡ plain (log_content (log events ledger) read) → (reply, []) ≡ in_ledger events ledger (ToRead read) now
  read_there read now n some reply is =
      ap (λ (r : Reply). (r, [])) is
      ∙ sym (ap (λ (b : Bool). cond b (on_ledger ledger (answer_on (ToRead read) now (log events ledger))) (no_ledger ledger)) (present n some))

  -- the entry behind the first ones is found by its id
  found_behind : IsGrown events → (k : ℕ) → k < length (log events ledger) → (e : Entry) → Some e ≡ find_entry (log events ledger) (k + 1) → slice_get (log events ledger) k ≡ Some e
  found_behind grown k within e found =
      let at = there_within k (log events ledger) within in
      at.1 ∙ sym (found ∙ found_at events ledger grown k at.0 at.1)

  pub one_more : IsGrown events → (k : ℕ) → k < length (log events ledger) → (e : Entry) → Some e ≡ find_entry (log events ledger) (k + 1) → (copy : Entry) → copy ≡ e
      → (es : List Entry) → es ≡ take k (log events ledger) → es ++ copy ∷ [] ≡ take (k + 1) (log events ledger)
  one_more grown k within e found copy same es are =
      let next : suc k ≡ k + 1 = omega arith in
      ap (λ (x : Entry). es ++ x ∷ []) same
      ∙ ap (λ (xs : List Entry). xs ++ e ∷ []) are
      ∙ sym (take-snoc k (log events ledger) e (found_behind grown k within e found))
      ∙ ap (λ (j : ℕ). take j (log events ledger)) next

  -- none is missing
  pub none_missing : IsGrown events → (k : ℕ) → k < length (log events ledger) → None ≡ find_entry (log events ledger) (k + 1) → ⊥
  none_missing grown k within none =
      let at = there_within k (log events ledger) within in
      let r : None ≡ Some at.0 = none ∙ found_at events ledger grown k at.0 at.1 in cc
