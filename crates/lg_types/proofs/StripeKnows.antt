-- What a stripe's part knows of its resources is what the log knows of them.
use Rattle.std.proofs.Common.{◌≡◌, ℕ, ◌+◌, ℤ, Bool, true, false, cond, ◌&&◌, ◌||◌, List, [], ◌∷◌, ◌++◌, map, Option, Some, None, refl, sym, ap, subst, ◌∙◌}
use Rattle.std.specs.Prelude.{nat_eq, if◌then◌else◌}
use Rattle.std.specs.List.{flat_map, filter, list_any, find}
use Rattle.std.specs.Str.{bytes_eq}
use Rattle.std.proofs.lemmas.List.Elements.{filter-append}
use Rattle.std.proofs.lemmas.List.Folds.{list_any-append}
use Rattle.std.proofs.lemmas.Slice.Eq.{bytes_eq-Decides}
use Rattle.std.proofs.lemmas.Bool.{eq-eqb}
use Rattle.std.proofs.lemmas.Grind.{flat_map-append}
use Rattle.lg_containers.specs.NameTable as table
use Rattle.lg_types.specs.declared.classes.Class.{Class}
use Rattle.lg_types.specs.declared.classes.Class.TheVariants.{Account as AccountClass, Key as KeyClass, Reference as ReferenceClass}
use Rattle.lg_types.specs.declared.records.Entry.{Entry}
use Rattle.lg_types.specs.declared.records.EntryBody.{EntryBody}
use Rattle.lg_types.specs.declared.records.EntryBody.TheVariants.{NewTransaction, SetMetadata, Reverted, DeleteMetadata}
use Rattle.lg_types.specs.declared.records.Event.{Event}
use Rattle.lg_types.specs.declared.records.Event.TheVariants.{Made, Logged}
use Rattle.lg_types.specs.declared.records.Posting.{Posting}
use Rattle.lg_types.specs.declared.records.Target.{Target}
use Rattle.lg_types.specs.declared.records.Target.TheVariants.{Account, Transaction as TransactionOf}
use Rattle.lg_types.specs.declared.records.Transaction.{Transaction}
use Rattle.lg_types.specs.Stripes.{stripe}
use Rattle.lg_types.specs.Log.{log, logged}
use Rattle.lg_types.specs.Moves.{what_of, is_of, posting_moves, transaction_moves, body_transaction, entry_moves}
use Rattle.lg_types.specs.Changes.{MetaOf, account_change, body_changes, entry_changes, is_about, same_target}
use Rattle.lg_types.specs.Known.{Marking, marking, posting_accounts, transaction_accounts, own_accounts, entry_accounts, entry_keys, entry_markings, is_marking_of, entry_references, is_referred_as}
use Rattle.lg_types.specs.Parts.{Share, share, shares_of, touches, is_in, account_resource, key_resource, reference_resource, has_account, has_move, has_target, has_change, has_key, has_reference, part_from, is_share_of, shares_in, share_moves, share_changes, share_accounts, share_markings, share_references}
use Rattle.lg_types.specs.PartLaws.{is_account, KnowsMoves, KnowsChanges, KnowsAccounts, KnowsKeys, KnowsReferences}
use Rattle.lg_types.proofs.Shares.{part-nil, part-cons}

-- ---- filters

-- a test that holds wherever another does filters after it as if alone
within_step : {X : Type 0} (b c : Bool) (x : X) (xs ys : List X) (p : X → Bool) → p x ≡ b → (b ≡ true → c ≡ true) → filter p xs ≡ ys → filter p (cond c (x ∷ xs) xs) ≡ cond b (x ∷ ys) ys
within_step true true x xs ys p e h k = ap (λ t. cond t (x ∷ filter p xs) (filter p xs)) e ∙ ap (λ l. x ∷ l) k
within_step true false x xs ys p e h k = absurd (let f : false ≡ true = h refl in cc)
within_step false true x xs ys p e h k = ap (λ t. cond t (x ∷ filter p xs) (filter p xs)) e ∙ k
within_step false false x xs ys p e h k = k

pub filter-within : {X : Type 0} (p q : X → Bool) → ((x : X) → p x ≡ true → q x ≡ true) → (xs : List X) → filter p (filter q xs) ≡ filter p xs
filter-within p q h [] = refl
filter-within p q h (x ∷ xs) = within_step (p x) (q x) x (filter q xs) (filter p xs) p refl (h x) (filter-within p q h xs)

none_step : {X : Type 0} (b : Bool) (x : X) (xs : List X) → b ≡ false → xs ≡ [] → cond b (x ∷ xs) xs ≡ []
none_step b x xs h k = ap (λ c. cond c (x ∷ xs) xs) h ∙ k

or_first : (a b : Bool) → (a || b) ≡ false → a ≡ false
or_first true b h = h
or_first false b h = refl

or_second : (a b : Bool) → (a || b) ≡ false → b ≡ false
or_second true b h = absurd (let f : true ≡ false = h in cc)
or_second false b h = h

pub filter-none : {X : Type 0} (p : X → Bool) (xs : List X) → list_any p xs ≡ false → filter p xs ≡ []
filter-none p [] h = refl
filter-none p (x ∷ xs) h = none_step (p x) x (filter p xs) (or_first (p x) (list_any p xs) h) (filter-none p xs (or_second (p x) (list_any p xs) h))

pub any-map : {X Y : Type 0} (p : Y → Bool) (f : X → Y) (xs : List X) → list_any p (map f xs) ≡ list_any (λ x. p (f x)) xs
any-map p f [] = refl
any-map p f (x ∷ xs) = ap (λ b. p (f x) || b) (any-map p f xs)

map_step : {X Y : Type 0} (b : Bool) (f : X → Y) (x : X) (xs : List X) (ys : List Y) → map f xs ≡ ys → map f (cond b (x ∷ xs) xs) ≡ cond b (f x ∷ ys) ys
map_step true f x xs ys h = ap (λ l. f x ∷ l) h
map_step false f x xs ys h = h

pub filter-map : {X Y : Type 0} (p : Y → Bool) (f : X → Y) (xs : List X) → map f (filter (λ x. p (f x)) xs) ≡ filter p (map f xs)
filter-map p f [] = refl
filter-map p f (x ∷ xs) = map_step (p (f x)) f x (filter (λ y. p (f y)) xs) (filter p (map f xs)) (filter-map p f xs)

-- the first item that passes is the first of those that pass
first_item : {X : Type 0} → List X → Option X
first_item [] = None
first_item (x ∷ xs) = Some x

first_step : {X : Type 0} (b : Bool) (x : X) (xs : List X) (o : Option X) → first_item xs ≡ o → first_item (cond b (x ∷ xs) xs) ≡ cond b (Some x) o
unfolding first_item
first_step true x xs o h = refl
first_step false x xs o h = h

find-first : {X : Type 0} (p : X → Bool) (xs : List X) → first_item (filter p xs) ≡ find p xs
unfolding first_item
find-first p [] = refl
find-first p (x ∷ xs) = first_step (p x) x (filter p xs) (find p xs) (find-first p xs)

pub find-filter : {X : Type 0} (p : X → Bool) (xs ys : List X) → filter p xs ≡ filter p ys → find p xs ≡ find p ys
find-filter p xs ys h = sym (find-first p xs) ∙ ap first_item h ∙ find-first p ys

-- ---- one kind of thing that entries hold

module _ {X : Type 0} (items : Entry → List X) (own : Share → List X) (has : ℕ → List ℕ → X → Bool)
    (same : (s n : ℕ) (ledger : List ℕ) (e : Entry) → own (share s n ledger e) ≡ filter (has s ledger) (items e))
    (quiet : (s : ℕ) (ledger : List ℕ) (e : Entry) → touches s (Logged ledger e) ≡ false → filter (has s ledger) (items e) ≡ []) where
  owned : List ℕ → List Share → List X
  owned ledger shares = flat_map own (shares_in ledger shares)

  of_log : List ℕ → List Event → List X
  of_log ledger events = flat_map items (log events ledger)

  module _ (wanted : X → Bool) (s : ℕ) (ledger : List ℕ) (inside : (x : X) → wanted x ≡ true → has s ledger x ≡ true) where
    -- one entry's own, by whether it is of the ledger and whether it touches the stripe
    one_entry : (n : ℕ) (name : List ℕ) (e : Entry) (b c : Bool) → bytes_eq name ledger ≡ b → touches s (Logged name e) ≡ c
        → filter wanted (flat_map own (filter (is_share_of ledger) (if c then share s n name e ∷ [] else []))) ≡ filter wanted (flat_map items (if b then e ∷ [] else []))
    one_entry n name e true true h k =
        let is : name ≡ ledger = (bytes_eq-Decides name ledger).0 h in
        ap (λ t. filter wanted (flat_map own (cond t (share s n name e ∷ []) []))) h
        ∙ ap (λ l. filter wanted (l ++ [])) (same s n name e)
        ∙ filter-append wanted (filter (has s name) (items e)) []
        ∙ ap (λ l. l ++ []) (ap (λ l. filter wanted (filter (has s l) (items e))) is ∙ filter-within wanted (has s ledger) inside (items e))
        ∙ sym (filter-append wanted (items e) [])
    one_entry n name e true false h k =
        let is : name ≡ ledger = (bytes_eq-Decides name ledger).0 h in
        let none : filter wanted (items e) ≡ [] = sym (filter-within wanted (has s ledger) inside (items e)) ∙ ap (filter wanted) (quiet s ledger e (subst (λ l. touches s (Logged l e) ≡ false) is k)) in
        sym (filter-append wanted (items e) [] ∙ ap (λ l. l ++ []) none)
    one_entry n name e false true h k = ap (λ t. filter wanted (flat_map own (cond t (share s n name e ∷ []) []))) h
    one_entry n name e false false h k = refl

    one_event : (n : ℕ) (event : Event) → filter wanted (flat_map own (filter (is_share_of ledger) (shares_of s n event))) ≡ filter wanted (flat_map items (logged ledger event))
    one_event n (Made info) = refl
    one_event n (Logged name e) = one_entry n name e (bytes_eq name ledger) (touches s (Logged name e)) refl refl

    pub knows_from : (n : ℕ) (events : List Event) → filter wanted (flat_map own (shares_in ledger (part_from n s events))) ≡ filter wanted (flat_map items (log events ledger))
    knows_from n [] = ap (λ l. filter wanted (flat_map own (shares_in ledger l))) (part-nil n s)
    knows_from n (event ∷ events) =
        ap (λ l. filter wanted (flat_map own (shares_in ledger l))) (part-cons n s event events)
        ∙ ap (λ l. filter wanted (flat_map own l)) (filter-append (is_share_of ledger) (shares_of s n event) (part_from (n + 1) s events))
        ∙ ap (filter wanted) (flat_map-append own (filter (is_share_of ledger) (shares_of s n event)) (shares_in ledger (part_from (n + 1) s events)))
        ∙ filter-append wanted (flat_map own (filter (is_share_of ledger) (shares_of s n event))) (flat_map own (shares_in ledger (part_from (n + 1) s events)))
        ∙ ap (λ l. l ++ filter wanted (flat_map own (shares_in ledger (part_from (n + 1) s events)))) (one_event n event)
        ∙ ap (λ l. filter wanted (flat_map items (logged ledger event)) ++ l) (knows_from (n + 1) events)
        ∙ sym (filter-append wanted (flat_map items (logged ledger event)) (flat_map items (log events ledger)))
        ∙ ap (filter wanted) (sym (flat_map-append items (logged ledger event) (log events ledger)))

-- ---- events without a resource of the stripe hold nothing of it

resources-accounts : (s : ℕ) (ledger : List ℕ) (e : Entry) → touches s (Logged ledger e) ≡ false → list_any (has_account s ledger) (entry_accounts e) ≡ false
resources-accounts s ledger e h =
    sym (any-map (is_in s ledger) account_resource (entry_accounts e))
    ∙ or_first _ _ (sym (list_any-append (is_in s ledger) (map account_resource (entry_accounts e)) (map key_resource (entry_keys e) ++ map reference_resource (entry_references e))) ∙ h)

resources-rest : (s : ℕ) (ledger : List ℕ) (e : Entry) → touches s (Logged ledger e) ≡ false → list_any (is_in s ledger) (map key_resource (entry_keys e) ++ map reference_resource (entry_references e)) ≡ false
resources-rest s ledger e h = or_second (list_any (is_in s ledger) (map account_resource (entry_accounts e))) _ (sym (list_any-append (is_in s ledger) (map account_resource (entry_accounts e)) (map key_resource (entry_keys e) ++ map reference_resource (entry_references e))) ∙ h)

quiet-accounts : (s : ℕ) (ledger : List ℕ) (e : Entry) → touches s (Logged ledger e) ≡ false → filter (has_account s ledger) (entry_accounts e) ≡ []
quiet-accounts s ledger e h = filter-none (has_account s ledger) (entry_accounts e) (resources-accounts s ledger e h)

quiet-keys : (s : ℕ) (ledger : List ℕ) (e : Entry) → touches s (Logged ledger e) ≡ false → filter (has_key s ledger) (entry_keys e) ≡ []
quiet-keys s ledger e h = filter-none (has_key s ledger) (entry_keys e)
    (sym (any-map (is_in s ledger) key_resource (entry_keys e))
    ∙ or_first _ _ (sym (list_any-append (is_in s ledger) (map key_resource (entry_keys e)) (map reference_resource (entry_references e))) ∙ resources-rest s ledger e h))

quiet-references : (s : ℕ) (ledger : List ℕ) (e : Entry) → touches s (Logged ledger e) ≡ false → filter (has_reference s ledger) (entry_references e) ≡ []
quiet-references s ledger e h = filter-none (has_reference s ledger) (entry_references e)
    (sym (any-map (is_in s ledger) reference_resource (entry_references e))
    ∙ or_second (list_any (is_in s ledger) (map key_resource (entry_keys e))) _ (sym (list_any-append (is_in s ledger) (map key_resource (entry_keys e)) (map reference_resource (entry_references e))) ∙ resources-rest s ledger e h))

-- the accounts of moves are accounts of the entry
postings-any : (s : ℕ) (ledger : List ℕ) (id : ℕ) (inserted effective : ℤ) (ps : List Posting) → list_any (has_move s ledger) (flat_map (posting_moves id inserted effective) ps) ≡ list_any (has_account s ledger) (flat_map posting_accounts ps)
postings-any s ledger id inserted effective [] = refl
postings-any s ledger id inserted effective (p ∷ ps) = ap (λ b. has_account s ledger p.source || (has_account s ledger p.destination || b)) (postings-any s ledger id inserted effective ps)

transaction-any : (s : ℕ) (ledger : List ℕ) (inserted : ℤ) (o : Option Transaction) → list_any (has_move s ledger) (transaction_moves inserted o) ≡ list_any (has_account s ledger) (transaction_accounts o)
transaction-any s ledger inserted None = refl
transaction-any s ledger inserted (Some t) = postings-any s ledger t.id inserted t.timestamp t.postings

accounts-parts : (s : ℕ) (ledger : List ℕ) (e : Entry) → touches s (Logged ledger e) ≡ false → (list_any (has_account s ledger) (transaction_accounts (body_transaction e.body)) ≡ false) × (list_any (has_account s ledger) (own_accounts e.body) ≡ false)
accounts-parts s ledger e h =
    let all = sym (list_any-append (has_account s ledger) (transaction_accounts (body_transaction e.body)) (own_accounts e.body)) ∙ resources-accounts s ledger e h in
    (or_first _ _ all, or_second (list_any (has_account s ledger) (transaction_accounts (body_transaction e.body))) _ all)

quiet-moves : (s : ℕ) (ledger : List ℕ) (e : Entry) → touches s (Logged ledger e) ≡ false → filter (has_move s ledger) (entry_moves e) ≡ []
quiet-moves s ledger e h = filter-none (has_move s ledger) (entry_moves e) (transaction-any s ledger e.date (body_transaction e.body) ∙ (accounts-parts s ledger e h).0)

-- so are the accounts of changes
given-any : (s : ℕ) (ledger : List ℕ) (date : ℤ) (pairs : List (List ℕ × MetaOf)) → list_any (has_change s ledger) (map (account_change date) pairs) ≡ list_any (has_account s ledger) (map (λ p. p.0) pairs)
given-any s ledger date [] = refl
given-any s ledger date (p ∷ pairs) = ap (λ b. has_account s ledger p.0 || b) (given-any s ledger date pairs)

target-any : (s : ℕ) (ledger : List ℕ) (date : ℤ) (body : EntryBody) → list_any (has_change s ledger) (body_changes date body) ≡ list_any (has_account s ledger) (own_accounts body)
target-any s ledger date (NewTransaction t given) = given-any s ledger date (table.pairs_of given) ∙ ap (list_any (has_account s ledger)) (sym (table.keys-pairs given))
target-any s ledger date (SetMetadata (Account a) metadata) = refl
target-any s ledger date (SetMetadata (TransactionOf id) metadata) = refl
target-any s ledger date (Reverted id t) = refl
target-any s ledger date (DeleteMetadata (Account a) name) = refl
target-any s ledger date (DeleteMetadata (TransactionOf id) name) = refl

quiet-changes : (s : ℕ) (ledger : List ℕ) (e : Entry) → touches s (Logged ledger e) ≡ false → filter (has_change s ledger) (entry_changes e) ≡ []
quiet-changes s ledger e h = filter-none (has_change s ledger) (entry_changes e) (target-any s ledger e.date e.body ∙ (accounts-parts s ledger e h).1)

-- ---- what a stripe knows of its own resources

in_stripe : (class : Class) (ledger name own : List ℕ) (s : ℕ) → stripe class ledger own ≡ s → bytes_eq name own ≡ true → nat_eq (stripe class ledger name) s ≡ true
in_stripe class ledger name own s h e = eq-eqb (stripe class ledger name) s (ap (stripe class ledger) ((bytes_eq-Decides name own).0 e) ∙ h)

both_first : (a b : Bool) → (a && b) ≡ true → a ≡ true
both_first true b h = refl
both_first false b h = h

-- the moves of an account of the stripe
pub knows-moves : KnowsMoves
knows-moves s ledger account asset events h =
    ap (map what_of) (knows_from entry_moves share_moves has_move (λ s n l e. refl) quiet-moves (is_of account asset) s ledger
    (λ m k. in_stripe AccountClass ledger m.account account s h (both_first (bytes_eq m.account account) _ k)) 0 events)

about_account : (s : ℕ) (ledger account : List ℕ) (target : Target) → stripe AccountClass ledger account ≡ s → same_target target (Account account) ≡ true → has_target s ledger target ≡ true
about_account s ledger account (Account name) h k = in_stripe AccountClass ledger name account s h k
about_account s ledger account (TransactionOf id) h k = absurd (let f : false ≡ true = k in cc)

-- the changes of its metadata
pub knows-changes : KnowsChanges
knows-changes s ledger account events h =
    knows_from entry_changes share_changes has_change (λ s n l e. refl) quiet-changes (is_about (Account account)) s ledger
    (λ c k. about_account s ledger account c.target h k) 0 events

-- where it is named
pub knows-accounts : KnowsAccounts
knows-accounts s ledger account events h =
    knows_from entry_accounts share_accounts has_account (λ s n l e. refl) quiet-accounts (is_account account) s ledger
    (λ name k. in_stripe AccountClass ledger name account s h k) 0 events

abbrev pub has_marking : ℕ → List ℕ → Marking → Bool
has_marking s ledger m = has_key s ledger m.mark

quiet-markings : (s : ℕ) (ledger : List ℕ) (e : Entry) → touches s (Logged ledger e) ≡ false → filter (has_marking s ledger) (entry_markings e) ≡ []
quiet-markings s ledger e h = sym (filter-map (has_marking s ledger) (marking e.id) (entry_keys e)) ∙ ap (map (marking e.id)) (quiet-keys s ledger e h)

-- the entry of a key of the stripe, with the key's hash
pub knows-keys : KnowsKeys
knows-keys s ledger key events h =
    find-filter (is_marking_of key) _ _ (knows_from entry_markings share_markings has_marking (λ s n l e. filter-map (has_marking s l) (marking e.id) (entry_keys e)) quiet-markings (is_marking_of key) s ledger
    (λ m k. in_stripe KeyClass ledger m.mark.key key s h k) 0 events)

-- the transaction of a reference of the stripe
pub knows-references : KnowsReferences
knows-references s ledger reference events h =
    find-filter (is_referred_as reference) _ _ (knows_from entry_references share_references has_reference (λ s n l e. refl) quiet-references (is_referred_as reference) s ledger
    (λ r k. in_stripe ReferenceClass ledger r.reference reference s h k) 0 events)
