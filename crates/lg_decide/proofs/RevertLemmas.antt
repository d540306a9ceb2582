-- What a revert comes to, and the postings of a revert.
use Rattle.std.proofs.Common.{◌≡◌, ◌≢◌, ℕ, ◌+◌, ◌<◌, ℤ, Bool, List, [], ◌∷◌, ◌++◌, length, map, reverse, take, get_or, Option, Some, None, option_map, option_copied, refl, sym, ◌∙◌, ap, arith}
use mathlib.Core.List.{reverse_aux}
use Rattle.std.proofs.lemmas.List.{take_more, map-append, length-map, length-reverse}
use Rattle.lg_types.specs.declared.calls.Write.TheVariants.{Revert}
use Rattle.lg_types.specs.declared.records.Entry.{Entry}
use Rattle.lg_types.specs.declared.records.EntryBody.{EntryBody}
use Rattle.lg_types.specs.declared.records.Transaction.{Transaction}
use Rattle.lg_types.specs.declared.refusals.Refusal.{Refusal}
use Rattle.lg_types.specs.declared.refusals.Refusal.TheVariants.{NoTransaction, Already}
use Rattle.lg_types.specs.Known.{Dated, Undoing, find_transaction, undone}
use Rattle.lg_types.specs.Trial.{revert_trial, reverting}
use Rattle.lg_views.specs.declared.decided.Decided.TheVariants.{Denied}
use Rattle.lg_views.specs.Writes.{granted_unless, revert_body, revert_decided, decided}
use Rattle.lg_decide.specs.declared.looked.Looked.{Looked}
use Rattle.lg_decide.specs.Looking.{Shows, transaction_in, undone_by}
use Rattle.lg_weigh.specs.Trials.{write_trial}

-- one more item of a list that is taken over item by item
pub next_of : {X Y : Type 0} (f : X → Y) (xs : List X) (i : ℕ) (x : X) (ys : List Y) → i < length xs → x ≡ get_or xs i x → ys ≡ map f (take i xs) → ys ++ f x ∷ [] ≡ map f (take (i + 1) xs)
next_of f xs i x ys h is e =
    ap (λ zs. zs ++ f x ∷ []) e
    ∙ sym (ap (map f) (take_more xs i x h ∙ ap (λ q. take i xs ++ q ∷ []) (sym is)) ∙ map-append f (take i xs) (x ∷ []))

pub reverse-map : {X Y : Type 0} (f : X → Y) (xs : List X) → reverse (map f xs) ≡ map f (reverse xs)
reverse-map f xs = onto xs []
  where
    onto : (xs ys : List _) → reverse_aux (map f xs) (map f ys) ≡ map f (reverse_aux xs ys)
    onto [] ys = refl
    onto (x ∷ xs) ys = onto xs (x ∷ ys)

module _ (g : List Entry) (date : ℤ) (id : ℕ) (force at_effective_date : Bool) (looked : Looked) (tried : Option Refusal) (shows : Shows g (Revert id force at_effective_date) looked tried) where
  -- a revert of a transaction that isn't there
  pub not_there : option_copied looked.transaction ≡ None → Denied (NoTransaction id) ≡ decided g date (Revert id force at_effective_date)
  not_there none = by_found (find_transaction g id) (undone g id) (sym none ∙ shows.known)
    where
      by_found : (found : Option Dated) (undoing : Option Undoing) → None ≡ option_map transaction_in found → Denied (NoTransaction id) ≡ revert_decided g date id force at_effective_date found undoing
      by_found None undoing e = refl
      by_found (Some d) undoing e = absurd cc

  -- a revert of a transaction that is reverted
  pub is_reverted : (t : Transaction) (by : ℕ) → option_copied looked.transaction ≡ Some t → looked.reverted_by ≡ Some by → Denied (Already id by) ≡ decided g date (Revert id force at_effective_date)
  is_reverted t by there gone = by_found (find_transaction g id) (undone g id) (sym there ∙ shows.known) (sym gone ∙ shows.reverted)
    where
      by_found : (found : Option Dated) (undoing : Option Undoing) → Some t ≡ option_map transaction_in found → Some by ≡ option_map undone_by undoing → Denied (Already id by) ≡ revert_decided g date id force at_effective_date found undoing
      by_found None undoing e k = absurd cc
      by_found (Some d) None e k = absurd cc
      by_found (Some d) (Some u) e k = let same : by ≡ u.by = cc in ap (λ n. Denied (Already id n)) same

  -- a revert of any other transaction: the refusal of its postings, or its body
  pub by_trial : (t : Transaction) (body : EntryBody) → option_copied looked.transaction ≡ Some t → looked.reverted_by ≡ None → ((d : Dated) → d.transaction ≡ t → body ≡ revert_body g date id at_effective_date d)
      → granted_unless tried body ≡ decided g date (Revert id force at_effective_date)
  by_trial t body there none is =
      ap (λ o. granted_unless o body) (shows.refused ∙ ap (write_trial g (Revert id force at_effective_date)) there)
      ∙ by_found (find_transaction g id) (undone g id) (sym there ∙ shows.known) (sym none ∙ shows.reverted)
    where
      by_found : (found : Option Dated) (undoing : Option Undoing) → Some t ≡ option_map transaction_in found → None ≡ option_map undone_by undoing
          → granted_unless (revert_trial g (reverting t.postings) force) body ≡ revert_decided g date id force at_effective_date found undoing
      by_found None undoing e k = absurd cc
      by_found (Some d) (Some u) e k = absurd cc
      by_found (Some d) None e k =
          let same : t ≡ d.transaction = cc in
          ap (λ (q : Transaction). granted_unless (revert_trial g (reverting q.postings) force) body) same
          ∙ ap (granted_unless (revert_trial g (reverting d.transaction.postings) force)) (is d (sym same))

  pub refused_by_trial : (t : Transaction) (refusal : Refusal) → option_copied looked.transaction ≡ Some t → looked.reverted_by ≡ None → tried ≡ Some refusal → Denied refusal ≡ decided g date (Revert id force at_effective_date)
  refused_by_trial t refusal there none stop =
      let of : Transaction → EntryBody = λ q. revert_body g date id at_effective_date (record { date = date; transaction = q }) in
      sym (ap (λ o. granted_unless o (of t)) stop)
      ∙ by_trial t (of t) there none (λ d same. ap of (sym same))
