-- The ids of the transactions of a log whose entries each may follow those before it.
use Rattle.std.proofs.Common.{◌≡◌, ℕ, zero, suc, ◌+◌, ◌<◌, ◌≤◌, ℤ, Bool, true, false, not, cond, List, [], ◌∷◌, ◌++◌, length, take, get_or, slice_get, Option, Some, None, inl, inr, refl, sym, ap, subst, ◌∙◌, add-one, arith}
use Rattle.std.specs.Prelude.{nat_eq}
use Rattle.std.specs.Str.{bytes_eq}
use Rattle.std.proofs.lemmas.Bool.{eqb-true}
use Rattle.std.proofs.lemmas.Grind.{flat_map-append}
use Rattle.std.proofs.lemmas.List.{append-nil, length-append, take_more}
use Rattle.std.proofs.lemmas.Option.{slice_get_cases}
use Rattle.std.proofs.lemmas.Slice.Eq.{bytes_eq-Decides}
use Rattle.lg_types.specs.declared.records.Entry.{Entry}
use Rattle.lg_types.specs.declared.records.Event.{Event}
use Rattle.lg_types.specs.declared.records.Event.TheVariants.{Made, Logged}
use Rattle.lg_types.specs.declared.records.Transaction.{Transaction}
use Rattle.lg_types.specs.Known.{Dated, dated, entry_transactions, transactions}
use Rattle.lg_types.specs.Lists.{Each}
use Rattle.lg_types.specs.Log.{log, logged}
use Rattle.lg_types.specs.Moves.{body_transaction}
use Rattle.lg_types.proofs.Eachs.{each-map, each-append}
use Rattle.lg_types.proofs.Prefixes.{prefix-self, prefix-take}
use Rattle.lg_views.specs.Import.{is_misnumbered}
use Rattle.lg_book.specs.Following.{MayFollowLog, MayFollow, IsGrown}
use Rattle.lg_commit_volumes.specs.Laws.{NextIsGreater}
use Rattle.lg_commit_volumes.specs.Lent.{HasSmallerId}
use Rattle.lg_commit_volumes.proofs.SideLemmas.{at_place}

abbrev pub AreNumbered : List Dated → Type 0
AreNumbered ds = Each (HasSmallerId (length ds + 1)) ds

not_false : (b : Bool) → not b ≡ false → b ≡ true
not_false true h = refl
not_false false h = absurd (let f : true ≡ false = h in cc)

numbered_more : (g : List Entry) (date : ℤ) (o : Option Transaction) → AreNumbered (transactions g) → is_misnumbered g o ≡ false → AreNumbered (transactions g ++ dated date o)
numbered_more g date None h f = subst AreNumbered (sym (append-nil (transactions g))) h
numbered_more g date (Some t) h f =
    let id : t.id ≡ length (transactions g) + 1 = eqb-true t.id (length (transactions g) + 1) (not_false (nat_eq t.id (length (transactions g) + 1)) f) in
    let longer : length (transactions g ++ dated date (Some t)) ≡ length (transactions g) + 1 = length-append (transactions g) (dated date (Some t)) in
    each-append (HasSmallerId (length (transactions g ++ dated date (Some t)) + 1)) (transactions g) (dated date (Some t))
    (each-map (λ d less. omega (arith, less, longer)) (transactions g) h)
    (omega (arith, id, longer), tt)

numbered_entry : (g : List Entry) (e : Entry) → AreNumbered (transactions g) → MayFollowLog g e → AreNumbered (transactions (g ++ e ∷ []))
numbered_entry g e h f =
    subst AreNumbered (sym (flat_map-append entry_transactions g (e ∷ []) ∙ ap (λ l. transactions g ++ l) (append-nil (entry_transactions e))))
    (numbered_more g e.date (body_transaction e.body) h f.transaction)

numbered_if : (ledger name : List ℕ) (events : List Event) (e : Entry) (b : Bool) → bytes_eq name ledger ≡ b → AreNumbered (transactions (log events ledger)) → MayFollowLog (log events name) e
    → AreNumbered (transactions (log events ledger ++ cond b (e ∷ []) []))
numbered_if ledger name events e true is h f = numbered_entry (log events ledger) e h (subst (λ n. MayFollowLog (log events n) e) ((bytes_eq-Decides name ledger).0 is) f)
numbered_if ledger name events e false is h f = subst (λ g. AreNumbered (transactions g)) (sym (append-nil (log events ledger))) h

numbered_event : (ledger : List ℕ) (events : List Event) (event : Event) → AreNumbered (transactions (log events ledger)) → MayFollow events event → AreNumbered (transactions (log events ledger ++ logged ledger event))
numbered_event ledger events (Made info) h f = subst (λ g. AreNumbered (transactions g)) (sym (append-nil (log events ledger))) h
numbered_event ledger events (Logged name e) h f = numbered_if ledger name events e (bytes_eq name ledger) refl h f.1

numbered_next : (all : List Event) → IsGrown all → (ledger : List ℕ) (k : ℕ) (event : Event) → k < length all → slice_get all k ≡ Some event → get_or all k event ≡ event
    → AreNumbered (transactions (log (take k all) ledger)) → AreNumbered (transactions (log (take (suc k) all) ledger))
numbered_next all grown ledger k event less at is h =
    subst (λ g. AreNumbered (transactions g))
    (sym (ap (λ n. log (take n all) ledger) (sym (add-one k))
    ∙ ap (λ es. log es ledger) (take_more all k event less ∙ ap (λ x. take k all ++ x ∷ []) is)
    ∙ flat_map-append (logged ledger) (take k all) (event ∷ [])
    ∙ ap (λ l. log (take k all) ledger ++ l) (append-nil (logged ledger event))))
    (numbered_event ledger (take k all) event h (grown.each k event at))

numbered-take : (all : List Event) → IsGrown all → (ledger : List ℕ) (k : ℕ) → k ≤ length all → AreNumbered (transactions (log (take k all) ledger))
numbered-take all grown ledger zero le = tt
numbered-take all grown ledger (suc k) le =
    let before = numbered-take all grown ledger k (omega (arith, le)) in
    elim (slice_get_cases all k).1 [ inl w ↦ numbered_next all grown ledger k w.0 w.1 w.2 w.3 before | inr w ↦ absurd (let past = w.0 in omega (arith, past, le)) ]

pub next_is_greater : NextIsGreater
next_is_greater events ledger grown =
    let numbered = subst (λ es. AreNumbered (transactions (log es ledger))) (prefix-take events events (prefix-self events)) (numbered-take events grown ledger (length events) (omega arith)) in
    λ k d less. at_place (HasSmallerId (length (transactions (log events ledger)) + 1)) (transactions (log events ledger)) k d numbered less
