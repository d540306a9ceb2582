-- An account is there at a date where a change of its metadata is dated by then, or a move of it is inserted or effective by then.
use Rattle.std.proofs.Common.{◌≡◌, ℕ, ℤ, Bool, true, false, cond, ◌&&◌, ◌||◌, List, [], ◌∷◌, map, refl, sym, ap, ap₂, ◌∙◌}
use Rattle.std.specs.Prelude.{Option, Some, None}
use Rattle.std.specs.List.{filter, flat_map, list_any}
use Rattle.std.specs.Str.{bytes_eq}
use Rattle.std.proofs.lemmas.List.Folds.{list_any-append}
use Rattle.lg_containers.specs.NameTable as table
use Rattle.lg_types.specs.declared.moves.Move.{Move}
use Rattle.lg_types.specs.declared.records.Entry.{Entry}
use Rattle.lg_types.specs.declared.records.EntryBody.{EntryBody}
use Rattle.lg_types.specs.declared.records.EntryBody.TheVariants.{NewTransaction, SetMetadata, Reverted, DeleteMetadata}
use Rattle.lg_types.specs.declared.records.Posting.{Posting}
use Rattle.lg_types.specs.declared.records.Target.TheVariants.{Account, Transaction as TransactionOf}
use Rattle.lg_types.specs.declared.records.Transaction.{Transaction}
use Rattle.lg_types.specs.Changes.{Change, MetaOf, account_change, body_changes, changes, entry_changes, is_about, is_changed_to}
use Rattle.lg_types.specs.Known.{accounts, entry_accounts, own_accounts, posting_accounts, transaction_accounts}
use Rattle.lg_types.specs.Moves.{Placed, body_transaction, entry_moves, moves, posting_moves, transaction_moves}
use Rattle.lg_types.specs.Tally.{is_to}
use Rattle.lg_views.specs.Reads.{account_of, is_account_at, is_dated_to, is_moved_by}
use Rattle.lg_accounts.proofs.Known.{any-map, any-filter, any-same}

or_both : (a b c d : Bool) → ((a || b) || (c || d)) ≡ ((a || c) || (b || d))
or_both true b c d = refl
or_both false true true d = refl
or_both false true false d = refl
or_both false false c d = refl

-- whether a move is of the account and passes a test, and whether a change is of its metadata and dated by then
abbrev pub is_move_of : List ℕ → (Move → Bool) → Placed → Bool
is_move_of account test m = bytes_eq account m.account && test m.what

abbrev pub is_change_of : List ℕ → Option ℤ → Change → Bool
is_change_of account pit c = is_about (Account account) c && is_changed_to pit c

abbrev pub is_inserted_by : Option ℤ → Move → Bool
is_inserted_by pit m = is_to pit m.inserted

abbrev pub is_effective_by : Option ℤ → Move → Bool
is_effective_by pit m = is_to pit m.effective

module _ (account : List ℕ) (same : (x : List ℕ) → bytes_eq account x ≡ bytes_eq x account) (pit : Option ℤ) where
  none_at : {X : Type 0} (xs : List X) → list_any (λ _. false) xs ≡ false
  none_at [] = refl
  none_at (x ∷ xs) = none_at xs

  -- ---- one entry, where it is dated by then and where it isn't

  postings_at : (id : ℕ) (date effective : ℤ) → is_to pit date ≡ true → (ps : List Posting) → list_any (bytes_eq account) (flat_map posting_accounts ps) ≡ list_any (is_move_of account (is_inserted_by pit)) (flat_map (posting_moves id date effective) ps)
  postings_at id date effective dated [] = refl
  postings_at id date effective dated (p ∷ ps) =
      ap₂ (λ (x y : Bool). x || y) (counted p.source) (ap₂ (λ (x y : Bool). x || y) (counted p.destination) (postings_at id date effective dated ps))
    where
      counted : (x : List ℕ) → bytes_eq account x ≡ (bytes_eq account x && is_to pit date)
      counted x = sym (ap (λ (b : Bool). bytes_eq account x && b) dated ∙ whole (bytes_eq account x))
        where
          whole : (b : Bool) → (b && true) ≡ b
          whole true = refl
          whole false = refl

  transaction_at : (date : ℤ) → is_to pit date ≡ true → (o : Option Transaction) → list_any (bytes_eq account) (transaction_accounts o) ≡ list_any (is_move_of account (is_inserted_by pit)) (transaction_moves date o)
  transaction_at date dated None = refl
  transaction_at date dated (Some t) = postings_at t.id date t.timestamp dated t.postings

  about_at : (x : List ℕ) (date : ℤ) → is_to pit date ≡ true → bytes_eq account x ≡ (bytes_eq x account && is_to pit date)
  about_at x date dated = same x ∙ sym (ap (λ (b : Bool). bytes_eq x account && b) dated ∙ whole (bytes_eq x account))
    where
      whole : (b : Bool) → (b && true) ≡ b
      whole true = refl
      whole false = refl

  given_at : (date : ℤ) → is_to pit date ≡ true → (given : List (List ℕ × MetaOf)) → list_any (bytes_eq account) (map (λ p. p.0) given) ≡ list_any (is_change_of account pit) (map (account_change date) given)
  given_at date dated [] = refl
  given_at date dated (p ∷ ps) = ap₂ (λ (x y : Bool). x || y) (about_at p.0 date dated) (given_at date dated ps)

  only : (x y : Bool) → x ≡ y → (x || false) ≡ (y || false)
  only x y h = ap (λ (b : Bool). b || false) h

  body_at : (date : ℤ) → is_to pit date ≡ true → (body : EntryBody) → list_any (bytes_eq account) (own_accounts body) ≡ list_any (is_change_of account pit) (body_changes date body)
  body_at date dated (NewTransaction t given) = ap (list_any (bytes_eq account)) (table.keys-pairs given) ∙ given_at date dated (table.pairs_of given)
  body_at date dated (SetMetadata (Account name) metadata) = only _ _ (about_at name date dated)
  body_at date dated (SetMetadata (TransactionOf id) metadata) = refl
  body_at date dated (Reverted id t) = refl
  body_at date dated (DeleteMetadata (Account name) x) = only _ _ (about_at name date dated)
  body_at date dated (DeleteMetadata (TransactionOf id) x) = refl

  Named : Entry → Bool
  Named e = list_any (is_change_of account pit) (entry_changes e) || list_any (is_move_of account (is_inserted_by pit)) (entry_moves e)

  or_swap : (a b : Bool) → (a || b) ≡ (b || a)
  or_swap true true = refl
  or_swap true false = refl
  or_swap false true = refl
  or_swap false false = refl

  entry_at : (e : Entry) → is_to pit e.date ≡ true → list_any (bytes_eq account) (entry_accounts e) ≡ Named e
  unfolding Named
  entry_at e dated =
      list_any-append (bytes_eq account) (transaction_accounts (body_transaction e.body)) (own_accounts e.body)
      ∙ ap₂ (λ (x y : Bool). x || y) (transaction_at e.date dated (body_transaction e.body)) (body_at e.date dated e.body)
      ∙ or_swap (list_any (is_move_of account (is_inserted_by pit)) (entry_moves e)) (list_any (is_change_of account pit) (entry_changes e))

  late_moves : (id : ℕ) (date effective : ℤ) → is_to pit date ≡ false → (ps : List Posting) → list_any (is_move_of account (is_inserted_by pit)) (flat_map (posting_moves id date effective) ps) ≡ false
  late_moves id date effective late [] = refl
  late_moves id date effective late (p ∷ ps) = ap₂ (λ (x y : Bool). x || y) (none p.source) (ap₂ (λ (x y : Bool). x || y) (none p.destination) (late_moves id date effective late ps))
    where
      never : (b : Bool) → (b && false) ≡ false
      never true = refl
      never false = refl

      none : (x : List ℕ) → (bytes_eq account x && is_to pit date) ≡ false
      none x = ap (λ (b : Bool). bytes_eq account x && b) late ∙ never (bytes_eq account x)

  late_transaction : (date : ℤ) → is_to pit date ≡ false → (o : Option Transaction) → list_any (is_move_of account (is_inserted_by pit)) (transaction_moves date o) ≡ false
  late_transaction date late None = refl
  late_transaction date late (Some t) = late_moves t.id date t.timestamp late t.postings

  late_about : (b : Bool) (date : ℤ) → is_to pit date ≡ false → (b && is_to pit date) ≡ false
  late_about true date late = late
  late_about false date late = refl

  late_given : (date : ℤ) → is_to pit date ≡ false → (given : List (List ℕ × MetaOf)) → list_any (is_change_of account pit) (map (account_change date) given) ≡ false
  late_given date late [] = refl
  late_given date late (p ∷ ps) = ap₂ (λ (x y : Bool). x || y) (late_about (bytes_eq p.0 account) date late) (late_given date late ps)

  late_body : (date : ℤ) → is_to pit date ≡ false → (body : EntryBody) → list_any (is_change_of account pit) (body_changes date body) ≡ false
  late_body date late (NewTransaction t given) = late_given date late (table.pairs_of given)
  late_body date late (SetMetadata (Account name) metadata) = ap (λ (b : Bool). b || false) (late_about (bytes_eq name account) date late)
  late_body date late (SetMetadata (TransactionOf id) metadata) = refl
  late_body date late (Reverted id t) = refl
  late_body date late (DeleteMetadata (Account name) x) = ap (λ (b : Bool). b || false) (late_about (bytes_eq name account) date late)
  late_body date late (DeleteMetadata (TransactionOf id) x) = refl

  late_entry : (e : Entry) → is_to pit e.date ≡ false → false ≡ Named e
  unfolding Named
  late_entry e late = sym (ap₂ (λ (x y : Bool). x || y) (late_body e.date late e.body) (late_transaction e.date late (body_transaction e.body)))

  -- ---- all entries

  one_more : (e : Entry) (rest : List Entry) (b : Bool) → is_to pit e.date ≡ b → list_any (bytes_eq account) (accounts (cond b (e ∷ rest) rest)) ≡ (Named e || list_any (bytes_eq account) (accounts rest))
  one_more e rest true dated = list_any-append (bytes_eq account) (entry_accounts e) (accounts rest) ∙ ap (λ (b : Bool). b || list_any (bytes_eq account) (accounts rest)) (entry_at e dated)
  one_more e rest false late = ap (λ (b : Bool). b || list_any (bytes_eq account) (accounts rest)) (late_entry e late)

  named_at : (g : List Entry) → list_any (bytes_eq account) (accounts (filter (is_dated_to pit) g)) ≡ (list_any (is_change_of account pit) (changes g) || list_any (is_move_of account (is_inserted_by pit)) (moves g))
  unfolding Named
  named_at [] = refl
  named_at (e ∷ g) =
      one_more e (filter (is_dated_to pit) g) (is_to pit e.date) refl
      ∙ ap (λ (b : Bool). Named e || b) (named_at g)
      ∙ or_both (list_any (is_change_of account pit) (entry_changes e)) (list_any (is_move_of account (is_inserted_by pit)) (entry_moves e)) (list_any (is_change_of account pit) (changes g)) (list_any (is_move_of account (is_inserted_by pit)) (moves g))
      ∙ sym (ap₂ (λ (x y : Bool). x || y)
      (list_any-append (is_change_of account pit) (entry_changes e) (changes g))
      (list_any-append (is_move_of account (is_inserted_by pit)) (entry_moves e) (moves g)))

  flip : (a b : Bool) → (a && b) ≡ (b && a)
  flip true true = refl
  flip true false = refl
  flip false true = refl
  flip false false = refl

  moved_at : (ms : List Placed) → list_any (bytes_eq account) (map account_of (filter (is_moved_by pit) ms)) ≡ list_any (is_move_of account (is_effective_by pit)) ms
  moved_at ms =
      any-map (bytes_eq account) account_of (filter (is_moved_by pit) ms)
      ∙ any-filter (λ m. bytes_eq account m.account) (is_moved_by pit) ms
      ∙ any-same (λ m. is_moved_by pit m && bytes_eq account m.account) (is_move_of account (is_effective_by pit)) (λ m. flip (is_moved_by pit m) (bytes_eq account m.account)) ms

  pub there_at : (g : List Entry) → is_account_at g pit account ≡ ((list_any (is_change_of account pit) (changes g) || list_any (is_move_of account (is_inserted_by pit)) (moves g)) || list_any (is_move_of account (is_effective_by pit)) (moves g))
  there_at g =
      list_any-append (bytes_eq account) (accounts (filter (is_dated_to pit) g)) (map account_of (filter (is_moved_by pit) (moves g)))
      ∙ ap₂ (λ (x y : Bool). x || y) (named_at g) (moved_at (moves g))
