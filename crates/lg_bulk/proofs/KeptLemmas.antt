-- An entry that has a key, in the log with the entries of the list.
use Rattle.std.proofs.Common.{◌≡◌, ℕ, zero, suc, true, false, ◌+◌, ◌-◌, ◌<◌, ◌≤◌, List, [], ◌∷◌, ◌++◌, length, take, slice_get, Option, Some, None, refl, sym, ap, subst, ◌∙◌, append_assoc, inl, inr, arith}
use Rattle.std.specs.Prelude.{◌⊎◌, IsSome, IfSome}
use Rattle.std.specs.List.{position_or_len}
use Rattle.std.proofs.Math.Seq.{take-append-add}
use Rattle.std.proofs.lemmas.Bool.{eqb-true}
use Rattle.std.proofs.lemmas.List.{take-append-le}
use Rattle.std.proofs.lemmas.List.Folds.{find_at}
use Rattle.lg_types.specs.declared.records.Entry.{Entry}
use Rattle.lg_types.specs.declared.records.Event.{Event}
use Rattle.lg_types.specs.Log.{log}
use Rattle.lg_views.specs.declared.replies.Reply.{Reply}
use Rattle.lg_views.specs.Replies.{plain}
use Rattle.lg_views.specs.Writes.{first_reply, up_to}
use Rattle.lg_book.specs.FirstVolumes.{entry_volumes}
use Rattle.lg_book.specs.Index.{all_volumes}
use Rattle.lg_book.specs.Reading.{find_entry, is_numbered}
use Rattle.lg_book.proofs.EntryIds.{entries_by_id, sound_log}
use Rattle.lg_book.proofs.Sound.{IsSound}
use Rattle.lg_bulk.specs.declared.gathered.Gathered.{Gathered}
use Rattle.lg_bulk.specs.Gathering.{IsGathered}
use Rattle.lg_bulk.proofs.GroundLemmas.{events_after, log-after, IsReady, ready-after}
use Rattle.lg_bulk.proofs.ListLemmas.{append_cases, find_passes}

-- the volumes of the entry at a place are those over the log up to and with it
volumes-at : (g es : List Entry) (k : ℕ) (e : Entry) → slice_get es k ≡ Some e → slice_get (all_volumes g es) k ≡ Some (entry_volumes (g ++ take (suc k) es) e)
volumes-at g [] k e h = absurd (let f : ◌≡◌ {A = Option Entry} None (Some e) = h in cc)
volumes-at g (x ∷ es) zero e h = let same : x ≡ e = cc in ap (λ y. Some (entry_volumes (g ++ x ∷ []) y)) same
volumes-at g (x ∷ es) (suc k) e h =
    volumes-at (g ++ x ∷ []) es k e h ∙ ap (λ l. Some (entry_volumes l e)) (append_assoc g (x ∷ []) (take (suc k) es))

-- an entry that is found by its id stands at the place of the id
pub record IsPlaced (h : List Entry) (id : ℕ) (e : Entry) (k : ℕ) : Type 0 where
  pub at : slice_get h k ≡ Some e
  pub own : e.id ≡ suc k
  pub named : id ≡ suc k

placed : (h : List Entry) (id : ℕ) (e : Entry) → IsSound h → find_entry h id ≡ Some e → (k : ℕ) × IsPlaced h id e k
placed h id e sound found =
    let k : ℕ = position_or_len (is_numbered id) h in
    let at : slice_get h k ≡ Some e = sym (find_at (is_numbered id) h) ∙ found in
    let own : e.id ≡ suc k = sound.ids k e at in
    (k, record { at = at; own = own; named = sym (eqb-true e.id id (find_passes (is_numbered id) h e found)) ∙ own })

module _ (events : List Event) (ledger : List ℕ) (ready : IsReady events ledger) (gathered : Gathered) (is : IsGathered (log events ledger) gathered) (id : ℕ) (e : Entry) (found : find_entry (log events ledger ++ gathered.entries) id ≡ Some e) where
  abbrev g : List Entry
  g = log events ledger

  abbrev h : List Entry
  h = g ++ gathered.entries

  sound : IsSound h
  sound = subst IsSound (log-after events ledger gathered.entries) (sound_log (events_after events ledger gathered.entries) ledger (ready-after events ledger gathered.entries ready is.follows).grown)

  -- an entry of the book's
  pub record IsOld : Type 0 where
    pub most : id ≤ length g
    pub found_old : find_entry g id ≡ Some e
    pub same : up_to g e ≡ up_to h e

  -- an entry that was gathered
  pub record IsNew : Type 0 where
    pub more : length g < id
    pub entry_at : slice_get gathered.entries (id - length g - 1) ≡ Some e
    pub volumes_at : slice_get gathered.volumes (id - length g - 1) ≡ Some (entry_volumes (up_to h e) e)

  pub old_or_new : IsOld ⊎ IsNew
  old_or_new = let own = placed h id e sound found in by_place own.0 own.1
    where
      by_place : (k : ℕ) → IsPlaced h id e k → IsOld ⊎ IsNew
      by_place k p = elim (append_cases g gathered.entries e k p.at) [
        | inl old ↦ (
            let below : k < length g = old.0 in
            let own : e.id ≡ suc k = p.own in
            let named : id ≡ suc k = p.named in
            let most : e.id ≤ length g = omega arith in
            inl (record {
              most = omega arith;
              found_old = ap (find_entry g) (named ∙ sym own) ∙ (entries_by_id events ledger k e ready.grown old.1).1;
              same = sym (take-append-le e.id g gathered.entries most);
            }))
        | inr new ↦ (
            let past : length g ≤ k = new.0 in
            let own : e.id ≡ suc k = p.own in
            let named : id ≡ suc k = p.named in
            let place : k - length g ≡ id - length g - 1 = omega arith in
            let count : length g + suc (k - length g) ≡ e.id = omega arith in
            inr (record {
              more = omega arith;
              entry_at = ap (slice_get gathered.entries) (sym place) ∙ new.1;
              volumes_at =
                  ap (slice_get gathered.volumes) (sym place)
                  ∙ ap (λ vs. slice_get vs (k - length g)) is.volumes
                  ∙ volumes-at g gathered.entries (k - length g) e new.1
                  ∙ ap (λ l. Some (entry_volumes l e)) (sym (take-append-add g gathered.entries (suc (k - length g))) ∙ ap (λ n. take n h) count);
            }))
      ]

  module _ (logged : ℕ) (count : logged ≡ length g) where
    -- after the log's own ids the entry is one that was gathered
    pub new-at : logged < id → (slice_get gathered.entries (id - logged - 1) ≡ Some e) × (slice_get gathered.volumes (id - logged - 1) ≡ Some (entry_volumes (up_to h e) e))
    new-at past = elim old_or_new [
      | inl old ↦ absurd (let most : id ≤ length g = old.most in omega (arith, most, past, count))
      | inr new ↦ (
        ap (λ n. slice_get gathered.entries (id - n - 1)) count ∙ new.entry_at,
        ap (λ n. slice_get gathered.volumes (id - n - 1)) count ∙ new.volumes_at,
      )
    ]

    -- and within them it is one of the log
    pub old-at : id ≤ logged → (find_entry g id ≡ Some e) × (up_to g e ≡ up_to h e)
    old-at most = elim old_or_new [
      | inl old ↦ (old.found_old, old.same)
      | inr new ↦ absurd (let more : length g < id = new.more in omega (arith, more, most, count))
    ]

-- ---- an option that is there

pub some-of : {A : Type 0} (o : Option A) → IsSome o → (x : A) × (o ≡ Some x)
some-of {A} None h = absurd (let f : false ≡ true = h in cc)
some-of (Some x) h = (x, refl)

pub is-some : {A : Type 0} (o : Option A) (x : A) → o ≡ Some x → IsSome o
is-some o x is = subst IsSome (sym is) refl

-- the first reply that the book gives
pub old-content : (g h : List Entry) (id : ℕ) (e : Entry) (reply : Reply) → IfSome (find_entry g id) (λ x. reply ≡ plain (first_reply (up_to g x) x)) → find_entry g id ≡ Some e → up_to g e ≡ up_to h e → reply.content ≡ first_reply (up_to h e) e
old-content g h id e reply given found same =
    let is : reply ≡ plain (first_reply (up_to g e) e) = subst (λ o. IfSome o (λ x. reply ≡ plain (first_reply (up_to g x) x))) found given in
    ap (λ (r : Reply). r.content) is ∙ ap (λ l. first_reply l e) same
