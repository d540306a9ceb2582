-- Entries that follow a log are numbered on, and found by their ids.
use Rattle.std.proofs.Common.{◌≡◌, ℕ, zero, suc, ◌+◌, false, cond, List, [], ◌∷◌, ◌++◌, length, slice_get, Option, Some, None, refl, sym, ap, subst, ◌∙◌, inl, inr, add-one, append_assoc, arith}
use Rattle.std.specs.Prelude.{◌⊎◌, nat_eq}
use Rattle.std.proofs.lemmas.List.{append-nil}
use Rattle.std.proofs.lemmas.Bool.{eqb-true, eq-eqb}
use Rattle.std.proofs.lemmas.Bool.Decides.{nat_tests}
use Rattle.lg_types.specs.declared.records.Entry.{Entry}
use Rattle.lg_types.specs.declared.records.Event.{Event}
use Rattle.lg_types.specs.Known.{next_entry}
use Rattle.lg_types.specs.Log.{log}
use Rattle.lg_views.specs.Import.{causes, fault, FollowsFrom}
use Rattle.lg_views.proofs.TestAnswers.{all_false, not_false}
use Rattle.lg_book.specs.Following.{IsGrown}
use Rattle.lg_book.specs.Reading.{find_entry}
use Rattle.lg_book.proofs.EntryIds.{sound_log}
use Rattle.lg_book.proofs.Sound.{IsSound}

-- each entry has the number of its place, counted from 1
abbrev pub AreNumbered : List Entry → Type 0
AreNumbered h = (k : ℕ) (e : Entry) → slice_get h k ≡ Some e → e.id ≡ suc k

some_same : {A : Type 0} (x y : A) → ◌≡◌ {A = Option A} (Some x) (Some y) → x ≡ y
some_same x y h = cc

not_some : {A : Type 0} (x : A) → ◌≡◌ {A = Option A} None (Some x) → ⊥
not_some x h = cc

-- an item of a list with one more is one of the list, or the one
snoc_cases : {A : Type 0} (xs : List A) (x y : A) (k : ℕ) → slice_get (xs ++ x ∷ []) k ≡ Some y → (slice_get xs k ≡ Some y) ⊎ ((k ≡ length xs) × (x ≡ y))
snoc_cases [] x y zero h = inr (refl, some_same x y h)
snoc_cases [] x y (suc k) h = absurd (not_some y h)
snoc_cases (z ∷ xs) x y zero h = inl h
snoc_cases (z ∷ xs) x y (suc k) h = elim (snoc_cases xs x y k h) [ inl g ↦ inl g | inr g ↦ inr (ap suc g.0, g.1) ]

next_number : (g : List Entry) (e : Entry) → fault g e ≡ None → e.id ≡ length g + 1
next_number g e none = eqb-true e.id (next_entry g) (not_false (nat_eq e.id (next_entry g)) (all_false (causes g e) none).0)

one_more : (g : List Entry) (e : Entry) → AreNumbered g → e.id ≡ length g + 1 → AreNumbered (g ++ e ∷ [])
one_more g e numbered id k x at = by_case (snoc_cases g e x k at)
  where
    by_case : (slice_get g k ≡ Some x) ⊎ ((k ≡ length g) × (e ≡ x)) → x.id ≡ suc k
    by_case (inl there) = numbered k x there
    by_case (inr last) = ap (λ (y : Entry). y.id) (sym last.1) ∙ id ∙ add-one (length g) ∙ ap suc (sym last.0)

follow_numbered : (g es : List Entry) → AreNumbered g → FollowsFrom g es → AreNumbered (g ++ es)
follow_numbered g [] numbered follows = subst AreNumbered (sym (append-nil g)) numbered
follow_numbered g (e ∷ es) numbered follows =
    subst AreNumbered (append_assoc g (e ∷ []) es) (follow_numbered (g ++ e ∷ []) es (one_more g e numbered (next_number g e follows.0)) follows.1)

-- the entries of a ledger's log and those that follow it
pub all_numbered : (events : List Event) (ledger : List ℕ) (earlier : List Entry) → IsGrown events → FollowsFrom (log events ledger) earlier → AreNumbered (log events ledger ++ earlier)
all_numbered events ledger earlier grown follows = let sound : IsSound (log events ledger) = sound_log events ledger grown in follow_numbered (log events ledger) earlier sound.ids follows

different : (m n : ℕ) → (m ≡ n → ⊥) → nat_eq m n ≡ false
different m n h = grind (arith, nat_tests, h)

-- an entry of a list whose numbers count on from k is found by its id
found_from : (k : ℕ) (h : List Entry) → ((j : ℕ) (e : Entry) → slice_get h j ≡ Some e → e.id ≡ suc (k + j)) → (j : ℕ) (e : Entry) → slice_get h j ≡ Some e → find_entry h e.id ≡ Some e
found_from k [] numbered j e at = absurd (not_some e at)
found_from k (x ∷ h) numbered zero e at =
    ap (λ b. cond b (Some x) (find_entry h e.id)) (eq-eqb x.id e.id (ap (λ (y : Entry). y.id) (some_same x e at))) ∙ at
found_from k (x ∷ h) numbered (suc j) e at =
    let first : x.id ≡ suc (k + zero) = numbered zero x refl in
    let own : e.id ≡ suc (k + suc j) = numbered (suc j) e at in
    ap (λ b. cond b (Some x) (find_entry h e.id)) (different x.id e.id (λ same. omega (arith, first, own, same)))
    ∙ found_from (suc k) h (λ i y there. numbered (suc i) y there ∙ ap suc (let r : k + suc i ≡ suc k + i = omega arith in r)) j e at

pub found_by_id : (h : List Entry) (k : ℕ) (e : Entry) → AreNumbered h → slice_get h k ≡ Some e → find_entry h e.id ≡ Some e
found_by_id h k e numbered at = found_from 0 h (λ j y there. numbered j y there ∙ ap suc (let r : j ≡ 0 + j = omega arith in r)) k e at
