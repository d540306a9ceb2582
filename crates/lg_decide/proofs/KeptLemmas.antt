-- A key that is kept, by what a log keeps of it.
use Rattle.std.proofs.Common.{◌≡◌, ℕ, ℤ, suc, Bool, true, false, cond, ◌||◌, List, [], ◌∷◌, Option, Some, None, refl, sym, ap, ◌∙◌, slice_get}
use Rattle.std.specs.Prelude.{if◌then◌else◌}
use Rattle.std.specs.Option.{option_to_list, option_and_then}
use Rattle.std.specs.List.{list_any}
use Rattle.std.specs.Str.{bytes_eq}
use Rattle.std.proofs.lemmas.Slice.Eq.{bytes_eq-Decides}
use Rattle.lg_types.specs.declared.calls.Write.{Write}
use Rattle.lg_types.specs.declared.records.Entry.{Entry}
use Rattle.lg_types.specs.declared.records.Event.{Event}
use Rattle.lg_types.specs.declared.records.KeyMark.{KeyMark}
use Rattle.lg_types.specs.declared.refusals.Refusal.TheVariants.{KeyInput}
use Rattle.lg_types.specs.Chain.{input_hash}
use Rattle.lg_types.specs.Known.{is_mark_of, has_key, kept, date}
use Rattle.lg_keys.specs.declared.kept.Kept.{Kept}
use Rattle.lg_views.specs.declared.decided.Written.TheVariants.{Refuses, Finds}
use Rattle.lg_views.specs.Writes.{decided, marked, appended_if, found_if, found, written_by, written}
use Rattle.lg_weigh.specs.Weighing.{marked_as, kept_of_entry, kept_in}
use Rattle.lg_decide.specs.declared.decisions.Decision.{Decision}
use Rattle.lg_decide.specs.declared.decisions.Decision.TheVariants as decision
use Rattle.lg_decide.specs.Deciding.{write_decision, kept_decision}

-- the entry that has a key: it stands in the log, with a mark of the key
pub record HasKey (g : List Entry) (key : List ℕ) (e : Entry) : Type 0 where
  pub place : ℕ
  pub there : slice_get g place ≡ Some e
  pub mark : KeyMark
  pub marked : e.mark ≡ Some mark
  pub named : mark.key ≡ key

later : (g : List Entry) (key : List ℕ) (first e : Entry) → HasKey g key e → HasKey (first ∷ g) key e
later g key first e h = record { place = suc h.place; there = h.there; mark = h.mark; marked = h.marked; named = h.named }

or_none : (b : Bool) → (b || false) ≡ true → b ≡ true
or_none true h = refl
or_none false h = h

own_mark : (key : List ℕ) (o : Option KeyMark) → list_any (is_mark_of key) (option_to_list o) ≡ true → (mark : KeyMark) × (o ≡ Some mark) × (mark.key ≡ key)
own_mark key None h = absurd (let f : false ≡ true = h in cc)
own_mark key (Some mark) h = (mark, refl, (bytes_eq-Decides mark.key key).0 (or_none (bytes_eq mark.key key) h))

by_first : (key : List ℕ) (first : Entry) (g : List Entry) (e : Entry) (b : Bool) → has_key key first ≡ b → (kept g key ≡ Some e → HasKey g key e) → cond b (Some first) (kept g key) ≡ Some e → HasKey (first ∷ g) key e
by_first key first g e true is rest h =
    let m = own_mark key first.mark is in
    let same : first ≡ e = cc in
    record { place = 0; there = h; mark = m.0; marked = ap (λ (x : Entry). x.mark) (sym same) ∙ m.1; named = m.2 }
by_first key first g e false is rest h = later g key first e (rest h)

pub kept_there : (g : List Entry) (key : List ℕ) (e : Entry) → kept g key ≡ Some e → HasKey g key e
kept_there [] key e h = absurd (let f : ◌≡◌ {A = Option Entry} None (Some e) = h in cc)
kept_there (first ∷ g) key e h = by_first key first g e (has_key key first) refl (kept_there g key e) h

-- what is kept of the entry that has a key
kept_of : (g : List Entry) (key : List ℕ) (e : Entry) (h : HasKey g key e) → kept g key ≡ Some e → kept_in g key ≡ Some (record { entry = e.id; input_hash = h.mark.input_hash })
kept_of g key e h k = ap (option_and_then kept_of_entry) k ∙ ap (marked_as e.id) h.marked

some_same : {A : Type 0} (x y : A) → ◌≡◌ {A = Option A} (Some x) (Some y) → x ≡ y
some_same x y h = cc

module _ (g : List Entry) (write : Write) (now : ℤ) where
  -- a key of which nothing is kept has no entry
  pub not_kept : (key : Option (List ℕ)) → option_and_then (kept_in g) key ≡ None → found g key ≡ None
  not_kept None none = refl
  not_kept (Some key) none = by_kept (kept g key) refl
    where
      by_kept : (o : Option Entry) → kept g key ≡ o → o ≡ None
      by_kept None k = refl
      by_kept (Some e) k = absurd (let f = sym (kept_of g key e (kept_there g key e k) k) ∙ none in cc)

  pub written_new : (key : Option (List ℕ)) → option_and_then (kept_in g) key ≡ None → written g key write now ≡ appended_if g (date g now) (marked key write) (decided g (date g now) write)
  written_new key none = ap (written_by g key write (date g now)) (not_kept key none)

  by_hash : (events : List Event) (ledger key given own : List ℕ) (e : Entry) (named : List ℕ) (b : Bool) → named ≡ key
      → write_decision events ledger (if b then Finds e else Refuses (KeyInput named own given)) ≡ (if b then decision.Kept e.id else decision.Refused (KeyInput key own given))
  by_hash events ledger key given own e named true is = refl
  by_hash events ledger key given own e named false is = ap (λ k. decision.Refused (KeyInput k own given)) is

  -- a key of which something is kept has that entry
  pub written_kept : (events : List Event) (ledger key : List ℕ) (k : Kept) → kept_in g key ≡ Some k → write_decision events ledger (written g (Some key) write now) ≡ kept_decision key (input_hash write) k
  written_kept events ledger key k h = by_kept (kept g key) refl
    where
      by_kept : (o : Option Entry) → kept g key ≡ o → write_decision events ledger (written_by g (Some key) write (date g now) o) ≡ kept_decision key (input_hash write) k
      by_kept None none = absurd (let f = sym (ap (option_and_then kept_of_entry) none) ∙ h in cc)
      by_kept (Some e) is =
          let own = kept_there g key e is in
          let same : ◌≡◌ {A = Kept} (record { entry = e.id; input_hash = own.mark.input_hash }) k = some_same _ _ (sym (kept_of g key e own is) ∙ h) in
          ap (λ m. write_decision events ledger (found_if m (input_hash write) e)) own.marked
          ∙ by_hash events ledger key (input_hash write) own.mark.input_hash e own.mark.key (bytes_eq own.mark.input_hash (input_hash write)) own.named
          ∙ ap (kept_decision key (input_hash write)) same
