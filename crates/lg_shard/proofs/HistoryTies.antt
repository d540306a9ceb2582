-- How the ties between histories and shares go from state to state.
use Rattle.std.proofs.Common.{◌≡◌, ℕ, ◌-◌, ◌<◌, ◌≤◌, ℤ, ◌≤ℤ◌, Bool, true, false, cond, List, [], ◌∷◌, ◌++◌, length, take, drop, map, IfSome, Option, refl, sym, ap, subst, ◌∙◌, length-append, arith}
use Rattle.std.specs.List.{filter}
use Rattle.std.proofs.Math.Seq.{take-append_seam, drop-append_seam}
use Rattle.std.proofs.lemmas.List.{map-append}
use Rattle.std.proofs.lemmas.List.Elements.{filter-append}
use Rattle.lg_containers.specs.NameTable.{NameTable, pairs_of}
use Rattle.lg_meta.specs.declared.change.DatedChange.{DatedChange}
use Rattle.lg_meta.specs.Index.{changes_of}
use Rattle.lg_meta.specs.MetaFold.{dated_change, last_date}
use Rattle.lg_types.specs.declared.changes.MetaChange.{MetaChange}
use Rattle.lg_types.specs.declared.records.Entry.{Entry}
use Rattle.lg_types.specs.declared.records.EntryBody.{EntryBody}
use Rattle.lg_types.specs.declared.records.EntryBody.TheVariants.{NewTransaction, SetMetadata, Reverted, DeleteMetadata}
use Rattle.lg_types.specs.declared.records.Target.TheVariants.{Account}
use Rattle.lg_types.specs.Changes.{MetaOf, Change, account_change, body_changes, is_about}
use Rattle.lg_types.specs.Lists.{Each}
use Rattle.lg_types.specs.Parts.{has_change}
use Rattle.lg_shard.specs.declared.accounts.AccountPart.{AccountPart}
use Rattle.lg_shard.specs.Accounts.{history_at, SameHistories}
use Rattle.lg_shard.specs.Histories.{with_all_prepared, without_last, dated_at, with_applied}
use Rattle.lg_shard.specs.Holdings.{own_changes, ChangesFollow}
use Rattle.lg_shard.specs.Shown.{changes_on}
use Rattle.lg_shard.specs.Ties.{HistoriesTied}
use Rattle.lg_shard.proofs.HistoryLemmas.{without-prepared}

-- ---- changes of one list and of another

pub on-append : (xs ys : List Change) (a : List ℕ) → changes_on (xs ++ ys) a ≡ changes_on xs a ++ changes_on ys a
on-append xs ys a = ap (map dated_change) (filter-append (is_about (Account a)) xs ys) ∙ map-append dated_change (filter (is_about (Account a)) xs) (filter (is_about (Account a)) ys)

pub of-append : (xs ys : List Change) (a : List ℕ) → changes_of (changes_on (xs ++ ys) a) ≡ changes_of (changes_on xs a) ++ changes_of (changes_on ys a)
of-append xs ys a = ap changes_of (on-append xs ys a) ∙ map-append (λ (d : DatedChange). d.change) (changes_on xs a) (changes_on ys a)

-- ---- the changes of an entry have its date

pub each-filter : {X : Type 0} (P : X → Type 0) (p : X → Bool) (xs : List X) → Each P xs → Each P (filter p xs)
each-filter P p [] h = tt
each-filter P p (x ∷ xs) h = kept (p x) (each-filter P p xs h.1)
  where
    kept : (b : Bool) → Each P (filter p xs) → Each P (cond b (x ∷ filter p xs) (filter p xs))
    kept true rest = (h.0, rest)
    kept false rest = rest

given_dated : (date : ℤ) (given : List (List ℕ × MetaOf)) → Each (λ (c : Change). c.date ≡ date) (map (account_change date) given)
given_dated date [] = tt
given_dated date (p ∷ ps) = (refl, given_dated date ps)

body_dated : (date : ℤ) (body : EntryBody) → Each (λ (c : Change). c.date ≡ date) (body_changes date body)
body_dated date (NewTransaction t given) = (refl, given_dated date (pairs_of given))
body_dated date (SetMetadata target metadata) = (refl, tt)
body_dated date (Reverted id t) = (refl, tt)
body_dated date (DeleteMetadata target name) = (refl, tt)

dated_on : (date : ℤ) (cs : List Change) → Each (λ (c : Change). c.date ≡ date) cs → Each (λ (d : DatedChange). d.date ≡ date) (map dated_change cs)
dated_on date [] h = tt
dated_on date (c ∷ cs) h = (h.0, dated_on date cs h.1)

pub own-dated : (s : ℕ) (ledger : List ℕ) (e : Entry) (a : List ℕ) → Each (λ (d : DatedChange). d.date ≡ e.date) (changes_on (own_changes s ledger e) a)
own-dated s ledger e a =
    dated_on e.date _ (each-filter (λ (c : Change). c.date ≡ e.date) (is_about (Account a)) (own_changes s ledger e) (each-filter (λ (c : Change). c.date ≡ e.date) (has_change s ledger) (body_changes e.date e.body) (body_dated e.date e.body)))

dated_again : (date : ℤ) (ds : List DatedChange) → Each (λ (d : DatedChange). d.date ≡ date) ds → map (dated_at date) (changes_of ds) ≡ ds
dated_again date [] h = refl
dated_again date (d ∷ ds) h = (λ i. record { date = sym h.0 i; change = d.change } ∷ map (dated_at date) (changes_of ds)) ∙ ap (λ l. d ∷ l) (dated_again date ds h.1)

-- ---- ties

module _ (old new : NameTable AccountPart) where
  -- the same changes
  pub histories-kept : SameHistories old new → (done ahead : List Change) → HistoriesTied old done ahead → HistoriesTied new done ahead
  histories-kept same done ahead tied = record {
    applied = λ a. ap (λ h. h.changes) (same a) ∙ tied.applied a;
    prepared = λ a. ap (λ h. h.prepared) (same a) ∙ tied.prepared a;
  }

  -- more prepared changes
  pub histories-prepared : (own : List Change) → ((a : List ℕ) → history_at new a ≡ with_all_prepared (history_at old a) (changes_of (changes_on own a)))
      → (done ahead : List Change) → HistoriesTied old done ahead → HistoriesTied new done (ahead ++ own)
  histories-prepared own is done ahead tied = record {
    applied = λ a. ap (λ h. h.changes) (is a) ∙ tied.applied a;
    prepared = λ a. ap (λ h. h.prepared) (is a) ∙ ap (λ l. l ++ changes_of (changes_on own a)) (tied.prepared a) ∙ sym (of-append ahead own a);
  }

  -- the last prepared changes are given up
  pub histories-forgotten : (own : List Change) → ((a : List ℕ) → history_at new a ≡ without_last (history_at old a) (length (changes_of (changes_on own a))))
      → (done ahead : List Change) → HistoriesTied old done (ahead ++ own) → HistoriesTied new done ahead
  histories-forgotten own is done ahead tied = record {
    applied = λ a. ap (λ h. h.changes) (is a) ∙ tied.applied a;
    prepared = λ a.
        let last : List MetaChange = changes_of (changes_on own a) in let front : List MetaChange = changes_of (changes_on ahead a) in
        ap (λ h. h.prepared) (is a)
        ∙ ap (λ (l : List MetaChange). take (length l - length last) l) (tied.prepared a ∙ of-append ahead own a)
        ∙ ap (λ h. h.prepared) (without-prepared (record { changes = []; prepared = front }) last (length last) refl);
  }

  -- the first prepared changes are applied
  pub histories-applied : (s : ℕ) (ledger : List ℕ) (e : Entry) → ((a : List ℕ) → history_at new a ≡ with_applied e.date (history_at old a) (length (changes_of (changes_on (own_changes s ledger e) a))))
      → (done ahead : List Change) → HistoriesTied old done (own_changes s ledger e ++ ahead) → HistoriesTied new (done ++ own_changes s ledger e) ahead
  histories-applied s ledger e is done ahead tied = record {
    applied = λ a.
        let own : List Change = own_changes s ledger e in let first : List MetaChange = changes_of (changes_on own a) in let rest : List MetaChange = changes_of (changes_on ahead a) in
        ap (λ h. h.changes) (is a)
        ∙ ap (λ l. l ++ map (dated_at e.date) (take (length first) (history_at old a).prepared)) (tied.applied a)
        ∙ ap (λ l. changes_on done a ++ map (dated_at e.date) l) (ap (take (length first)) (tied.prepared a ∙ of-append own ahead a) ∙ take-append_seam first rest)
        ∙ ap (λ l. changes_on done a ++ l) (dated_again e.date (changes_on own a) (own-dated s ledger e a))
        ∙ sym (on-append done own a);
    prepared = λ a.
        let own : List Change = own_changes s ledger e in let first : List MetaChange = changes_of (changes_on own a) in let rest : List MetaChange = changes_of (changes_on ahead a) in
        ap (λ h. h.prepared) (is a) ∙ ap (drop (length first)) (tied.prepared a ∙ of-append own ahead a) ∙ drop-append_seam first rest;
  }

-- what the histories are ready for
module _ (accounts : NameTable AccountPart) (s : ℕ) (ledger : List ℕ) (e : Entry) (done ahead : List Change) (tied : HistoriesTied accounts done (own_changes s ledger e ++ ahead)) where
  pub ready-room : (a : List ℕ) → length (changes_of (changes_on (own_changes s ledger e) a)) ≤ length (history_at accounts a).prepared
  ready-room a =
      let all = ap length (tied.prepared a ∙ of-append (own_changes s ledger e) ahead a) in
      let n = length-append (changes_of (changes_on (own_changes s ledger e) a)) (changes_of (changes_on ahead a)) in
      omega arith

  first_later : (last : Option ℤ) (ds : List DatedChange) → Each (λ (d : DatedChange). d.date ≡ e.date) ds → Each (λ (d : DatedChange). IfSome last (λ l. l ≤ℤ d.date)) ds → 0 < length (changes_of ds) → IfSome last (λ l. l ≤ℤ e.date)
  first_later last [] dated later lt = absurd (omega arith)
  first_later last (d ∷ ds) dated later lt = subst (λ (date : ℤ). IfSome last (λ l. l ≤ℤ date)) dated.0 later.0

  pub ready-later : ChangesFollow done (own_changes s ledger e) → (a : List ℕ) → 0 < length (changes_of (changes_on (own_changes s ledger e) a)) → IfSome (last_date (history_at accounts a).changes) (λ last. last ≤ℤ e.date)
  ready-later follows a lt =
      subst (λ (cs : List DatedChange). IfSome (last_date cs) (λ last. last ≤ℤ e.date)) (sym (tied.applied a))
      (first_later (last_date (changes_on done a)) (changes_on (own_changes s ledger e) a) (own-dated s ledger e a) (follows a) lt)
