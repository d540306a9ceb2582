-- What the shares of one more event hold of a ledger.
use Rattle.std.proofs.Common.{◌≡◌, ℕ, ℤ, Bool, true, false, cond, ◌||◌, List, [], ◌∷◌, ◌++◌, map, Option, Some, None, refl, sym, ap, ◌∙◌}
use Rattle.std.specs.List.{flat_map, list_any}
use Rattle.std.specs.Str.{bytes_eq}
use Rattle.std.proofs.lemmas.List.{append-nil}
use Rattle.std.proofs.lemmas.List.Elements.{filter-append}
use Rattle.std.proofs.lemmas.List.Folds.{list_any-append}
use Rattle.std.proofs.lemmas.Grind.{flat_map-append}
use Rattle.lg_containers.specs.NameTable as table
use Rattle.lg_types.specs.declared.records.Entry.{Entry}
use Rattle.lg_types.specs.declared.records.EntryBody.{EntryBody}
use Rattle.lg_types.specs.declared.records.EntryBody.TheVariants.{NewTransaction, SetMetadata, Reverted, DeleteMetadata}
use Rattle.lg_types.specs.declared.records.Event.TheVariants.{Logged}
use Rattle.lg_types.specs.declared.records.Posting.{Posting}
use Rattle.lg_types.specs.declared.records.Target.TheVariants.{Account, Transaction as TransactionOf}
use Rattle.lg_types.specs.declared.records.Transaction.{Transaction}
use Rattle.lg_types.specs.Changes.{MetaOf, account_change, body_changes, entry_changes}
use Rattle.lg_types.specs.Known.{posting_accounts, transaction_accounts, own_accounts, entry_accounts, entry_keys, entry_references, marking}
use Rattle.lg_types.specs.Moves.{posting_moves, transaction_moves, body_transaction, entry_moves}
use Rattle.lg_types.specs.Parts.{Share, share, shares_of, touches, is_in, account_resource, key_resource, reference_resource, has_account, has_move, has_change, has_key, has_reference, is_share_of, shares_in, share_moves, share_changes, share_markings, share_references}
use Rattle.lg_types.proofs.StripeKnows.{filter-none, any-map}
use Rattle.lg_shard.specs.Holdings.{Holding, no_holding, joined, ledger_holding, own_moves, own_changes, own_markings, own_references, own_holding}

or_first : (a b : Bool) → (a || b) ≡ false → a ≡ false
or_first true b h = h
or_first false b h = refl

or_second : (a b : Bool) → (a || b) ≡ false → b ≡ false
or_second true b h = absurd (let f : true ≡ false = h in cc)
or_second false b h = h

any_first : {X : Type 0} (p : X → Bool) (xs ys : List X) → list_any p (xs ++ ys) ≡ false → list_any p xs ≡ false
any_first p xs ys h = or_first (list_any p xs) (list_any p ys) (sym (list_any-append p xs ys) ∙ h)

any_second : {X : Type 0} (p : X → Bool) (xs ys : List X) → list_any p (xs ++ ys) ≡ false → list_any p ys ≡ false
any_second p xs ys h = or_second (list_any p xs) (list_any p ys) (sym (list_any-append p xs ys) ∙ h)

postings-any : (s : ℕ) (ledger : List ℕ) (id : ℕ) (inserted effective : ℤ) (ps : List Posting) → list_any (has_move s ledger) (flat_map (posting_moves id inserted effective) ps) ≡ list_any (has_account s ledger) (flat_map posting_accounts ps)
postings-any s ledger id inserted effective [] = refl
postings-any s ledger id inserted effective (p ∷ ps) = ap (λ b. has_account s ledger p.source || (has_account s ledger p.destination || b)) (postings-any s ledger id inserted effective ps)

transaction-any : (s : ℕ) (ledger : List ℕ) (inserted : ℤ) (o : Option Transaction) → list_any (has_move s ledger) (transaction_moves inserted o) ≡ list_any (has_account s ledger) (transaction_accounts o)
transaction-any s ledger inserted None = refl
transaction-any s ledger inserted (Some t) = postings-any s ledger t.id inserted t.timestamp t.postings

given-any : (s : ℕ) (ledger : List ℕ) (date : ℤ) (pairs : List (List ℕ × MetaOf)) → list_any (has_change s ledger) (map (account_change date) pairs) ≡ list_any (has_account s ledger) (map (λ p. p.0) pairs)
given-any s ledger date [] = refl
given-any s ledger date (p ∷ pairs) = ap (λ b. has_account s ledger p.0 || b) (given-any s ledger date pairs)

body-any : (s : ℕ) (ledger : List ℕ) (date : ℤ) (body : EntryBody) → list_any (has_change s ledger) (body_changes date body) ≡ list_any (has_account s ledger) (own_accounts body)
body-any s ledger date (NewTransaction t given) = given-any s ledger date (table.pairs_of given) ∙ ap (list_any (has_account s ledger)) (sym (table.keys-pairs given))
body-any s ledger date (SetMetadata (Account a) metadata) = refl
body-any s ledger date (SetMetadata (TransactionOf id) metadata) = refl
body-any s ledger date (Reverted id t) = refl
body-any s ledger date (DeleteMetadata (Account a) name) = refl
body-any s ledger date (DeleteMetadata (TransactionOf id) name) = refl

-- an entry that doesn't touch the stripe holds nothing of it
module _ (s : ℕ) (ledger : List ℕ) (e : Entry) (quiet : touches s (Logged ledger e) ≡ false) where
  rest_quiet : list_any (is_in s ledger) (map key_resource (entry_keys e) ++ map reference_resource (entry_references e)) ≡ false
  rest_quiet = any_second (is_in s ledger) (map account_resource (entry_accounts e)) _ quiet

  pub quiet_accounts : list_any (has_account s ledger) (entry_accounts e) ≡ false
  quiet_accounts = sym (any-map (is_in s ledger) account_resource (entry_accounts e)) ∙ any_first (is_in s ledger) (map account_resource (entry_accounts e)) _ quiet

  pub quiet_moves : own_moves s ledger e ≡ []
  quiet_moves =
      filter-none (has_move s ledger) (entry_moves e)
      (transaction-any s ledger e.date (body_transaction e.body) ∙ any_first (has_account s ledger) (transaction_accounts (body_transaction e.body)) (own_accounts e.body) quiet_accounts)

  pub quiet_changes : own_changes s ledger e ≡ []
  quiet_changes =
      filter-none (has_change s ledger) (entry_changes e)
      (body-any s ledger e.date e.body ∙ any_second (has_account s ledger) (transaction_accounts (body_transaction e.body)) (own_accounts e.body) quiet_accounts)

  pub quiet_markings : own_markings s ledger e ≡ []
  quiet_markings =
      ap (map (marking e.id)) (filter-none (has_key s ledger) (entry_keys e)
      (sym (any-map (is_in s ledger) key_resource (entry_keys e)) ∙ any_first (is_in s ledger) (map key_resource (entry_keys e)) (map reference_resource (entry_references e)) rest_quiet))

  pub quiet_references : own_references s ledger e ≡ []
  quiet_references =
      filter-none (has_reference s ledger) (entry_references e)
      (sym (any-map (is_in s ledger) reference_resource (entry_references e)) ∙ any_second (is_in s ledger) (map key_resource (entry_keys e)) (map reference_resource (entry_references e)) rest_quiet)

-- ---- one kind of thing that shares hold

pub one_share : {X : Type 0} (own : Share → List X) (q : List ℕ) (one : Share) (items : List X) (touched same : Bool) → own one ≡ items → (touched ≡ false → items ≡ []) → is_share_of q one ≡ same
    → flat_map own (shares_in q (cond touched (one ∷ []) [])) ≡ cond same items []
one_share own q one items true true is quiet h = ap (λ b. flat_map own (cond b (one ∷ []) [])) h ∙ append-nil (own one) ∙ is
one_share own q one items true false is quiet h = ap (λ b. flat_map own (cond b (one ∷ []) [])) h
one_share own q one items false true is quiet h = sym (quiet refl)
one_share own q one items false false is quiet h = refl

pub more_shares : {X : Type 0} (own : Share → List X) (q : List ℕ) (xs ys : List Share) → flat_map own (shares_in q (xs ++ ys)) ≡ flat_map own (shares_in q xs) ++ flat_map own (shares_in q ys)
more_shares own q xs ys = ap (flat_map own) (filter-append (is_share_of q) xs ys) ∙ flat_map-append own (shares_in q xs) (shares_in q ys)

pub same_holding : (x y : Holding) → x.moves ≡ y.moves → x.changes ≡ y.changes → x.markings ≡ y.markings → x.references ≡ y.references → x ≡ y
same_holding x y p c q r = λ i. record { moves = p i; changes = c i; markings = q i; references = r i }

pub holding-joined : (q : List ℕ) (xs ys : List Share) → ledger_holding q (xs ++ ys) ≡ joined (ledger_holding q xs) (ledger_holding q ys)
holding-joined q xs ys = same_holding _ _ (more_shares share_moves q xs ys) (more_shares share_changes q xs ys) (more_shares share_markings q xs ys) (more_shares share_references q xs ys)

pub joined-nothing : (x : Holding) → joined x no_holding ≡ x
joined-nothing x = same_holding _ _ (append-nil x.moves) (append-nil x.changes) (append-nil x.markings) (append-nil x.references)

cond_holding : (b : Bool) (x : Holding) → record { moves = cond b x.moves []; changes = cond b x.changes []; markings = cond b x.markings []; references = cond b x.references [] } ≡ cond b x no_holding
cond_holding true x = refl
cond_holding false x = refl

-- what the share of an entry holds of a ledger: its own, where it is the entry's ledger
pub holding-logged : (s place : ℕ) (ledger : List ℕ) (e : Entry) (q : List ℕ) → ledger_holding q (shares_of s place (Logged ledger e)) ≡ cond (bytes_eq ledger q) (own_holding s ledger e) no_holding
holding-logged s place ledger e q =
    same_holding _ (record { moves = cond (bytes_eq ledger q) (own_moves s ledger e) []; changes = cond (bytes_eq ledger q) (own_changes s ledger e) []; markings = cond (bytes_eq ledger q) (own_markings s ledger e) []; references = cond (bytes_eq ledger q) (own_references s ledger e) [] })
    (one_share share_moves q (share s place ledger e) (own_moves s ledger e) (touches s (Logged ledger e)) (bytes_eq ledger q) refl (quiet_moves s ledger e) refl)
    (one_share share_changes q (share s place ledger e) (own_changes s ledger e) (touches s (Logged ledger e)) (bytes_eq ledger q) refl (quiet_changes s ledger e) refl)
    (one_share share_markings q (share s place ledger e) (own_markings s ledger e) (touches s (Logged ledger e)) (bytes_eq ledger q) refl (quiet_markings s ledger e) refl)
    (one_share share_references q (share s place ledger e) (own_references s ledger e) (touches s (Logged ledger e)) (bytes_eq ledger q) refl (quiet_references s ledger e) refl)
    ∙ cond_holding (bytes_eq ledger q) (own_holding s ledger e)
