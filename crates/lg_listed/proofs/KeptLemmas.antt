-- What a write comes to, by what is kept of its key.
use Rattle.std.proofs.Common.{◌≡◌, ℕ, ℤ, Bool, true, false, List, Option, Some, None, refl, sym, ap, subst, ◌∙◌}
use Rattle.std.specs.Prelude.{if◌then◌else◌}
use Rattle.std.specs.Option.{option_and_then}
use Rattle.std.specs.Str.{bytes_eq}
use Rattle.lg_keys.specs.declared.kept.Kept.{Kept}
use Rattle.lg_types.specs.declared.calls.Write.{Write}
use Rattle.lg_types.specs.declared.records.Entry.{Entry}
use Rattle.lg_types.specs.declared.records.KeyMark.{KeyMark}
use Rattle.lg_types.specs.declared.records.EntryBody.{EntryBody}
use Rattle.lg_types.specs.declared.refusals.Refusal.{Refusal}
use Rattle.lg_types.specs.declared.refusals.Refusal.TheVariants.{KeyInput}
use Rattle.lg_types.specs.Chain.{input_hash}
use Rattle.lg_types.specs.Known.{kept, date}
use Rattle.lg_views.specs.declared.decided.Written.TheVariants.{Refuses, Finds, Appends}
use Rattle.lg_views.specs.declared.decided.Decided.TheVariants.{Denied, Granted}
use Rattle.lg_views.specs.Writes.{decided, marked, appended_if, new_entry, found_if, written_by, written}
use Rattle.lg_weigh.specs.Weighing.{marked_as, kept_of_entry, kept_in}
use Rattle.lg_book.specs.Reading.{find_entry}
use Rattle.lg_decide.proofs.KeptLemmas.{HasKey, kept_there, written_new}
use Rattle.lg_listed.specs.declared.tried.Tried.{Tried}
use Rattle.lg_listed.specs.declared.tried.Tried.TheVariants as tried
use Rattle.lg_listed.specs.Elements.{IsTried}
use Rattle.lg_listed.specs.Trying.{tried_kept}
use Rattle.lg_listed.proofs.EntryLemmas.{AreNumbered, found_by_id}

some_same : {A : Type 0} (x y : A) → ◌≡◌ {A = Option A} (Some x) (Some y) → x ≡ y
some_same x y h = cc

module _ (h : List Entry) (numbered : AreNumbered h) (key : List ℕ) (write : Write) (now : ℤ) where
  by_hash : (e : Entry) (named own given : List ℕ) (b : Bool) → find_entry h e.id ≡ Some e → named ≡ key
      → IsTried h (if b then Finds e else Refuses (KeyInput named own given)) (if b then tried.Kept e.id else tried.Refused (KeyInput key own given))
  by_hash e named own given true found is = found
  by_hash e named own given false found is = ap (λ k. KeyInput k own given) (sym is)

  by_entry : (e : Entry) (k : Kept) → kept h key ≡ Some e → kept_of_entry e ≡ Some k → IsTried h (found_if e.mark (input_hash write) e) (tried_kept key write k)
  by_entry e k there is =
      let own : HasKey h key e = kept_there h key e there in
      let same : ◌≡◌ {A = Kept} (record { entry = e.id; input_hash = own.mark.input_hash }) k = some_same _ _ (sym (ap (marked_as e.id) own.marked) ∙ is) in
      subst (λ m. IsTried h (found_if m (input_hash write) e) (tried_kept key write k)) (sym own.marked)
      (subst (λ q. IsTried h (found_if (Some own.mark) (input_hash write) e) (tried_kept key write q)) same
      (by_hash e own.mark.key own.mark.input_hash (input_hash write) (bytes_eq own.mark.input_hash (input_hash write)) (found_by_id h own.place e numbered own.there) own.named))

  -- a write whose key is kept
  pub kept_tried : (k : Kept) → Some k ≡ kept_in h key → IsTried h (written h (Some key) write now) (tried_kept key write k)
  kept_tried k is = by_kept (kept h key) refl
    where
      by_kept : (o : Option Entry) → kept h key ≡ o → IsTried h (written_by h (Some key) write (date h now) o) (tried_kept key write k)
      by_kept None none = absurd (let f : ◌≡◌ {A = Option Kept} None (Some k) = sym (is ∙ ap (option_and_then kept_of_entry) none) in cc)
      by_kept (Some e) there = by_entry e k there (sym (is ∙ ap (option_and_then kept_of_entry) there))

-- a write whose key isn't kept
pub new_tried : (h : List Entry) (key : Option (List ℕ)) (write : Write) (now : ℤ) (t : Tried) → option_and_then (kept_in h) key ≡ None
    → IsTried h (appended_if h (date h now) (marked key write) (decided h (date h now) write)) t → IsTried h (written h key write now) t
new_tried h key write now t none is = subst (λ w. IsTried h w t) (sym (written_new h write now key none)) is

-- ---- a write that is decided

module _ (h : List Entry) (day own : ℤ) (mark : Option KeyMark) (write : Write) where
  pub denied_tried : (refusal : Refusal) → day ≡ own → decided h own write ≡ Denied refusal → IsTried h (appended_if h day mark (decided h day write)) (tried.Refused refusal)
  denied_tried refusal same is = subst (λ d. IsTried h (appended_if h day mark d) (tried.Refused refusal)) (sym (ap (λ z. decided h z write) same ∙ is)) refl

  pub granted_tried : (body : EntryBody) (t : Tried) → day ≡ own → decided h own write ≡ Granted body → t ≡ tried.Appended (new_entry h own mark body) → IsTried h (appended_if h day mark (decided h day write)) t
  granted_tried body t same is made =
      subst (λ d. IsTried h (appended_if h day mark d) t) (sym (ap (λ z. decided h z write) same ∙ is))
      (subst (λ (u : Tried). IsTried h (Appends (new_entry h day mark body)) u) (sym made) (ap (λ z. new_entry h z mark body) (sym same)))
