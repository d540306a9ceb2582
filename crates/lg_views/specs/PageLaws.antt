-- The law of pages: following `next` from the first page gives the whole list.
use Rattle.std.specs.Prelude.{◌≡◌, ℕ, zero, suc, ◌<◌, Bool, true, false, List, [], ◌++◌, length, take, Option, Some, None}
use Rattle.lg_types.specs.declared.queries.Query.{Query}
use Rattle.lg_types.specs.declared.filters.After.TheVariants.{Address as AddressPlace}
use Rattle.lg_types.specs.declared.records.Entry.{Entry}
use Rattle.lg_types.specs.declared.records.Event.{Event}
use Rattle.lg_types.specs.Lists.{Pairs}
use Rattle.lg_views.specs.Import.{IsFaultless}
use Rattle.lg_views.specs.Pages.{after_place, next_place}
use Rattle.lg_views.specs.Reads.{whole_accounts, whole_transactions, whole_entries, whole_volumes, whole_ledgers, is_after_name, is_after_transaction, is_after_entry, is_after_pair, is_after_ledger, transaction_place, entry_place, volume_place, ledger_place}

-- what a page shows, and what comes from its last place on
abbrev pub walk_on : {P A : Type 0} → List A → Option P → (P → List A) → List A
walk_on shown None go = shown
walk_on shown (Some place) go = shown ++ go place

-- the items of at most so many pages, each after the last place of the one before
abbrev pub walk : {P A : Type 0} → (P → A → Bool) → (A → P) → ℕ → ℕ → Option P → List A → List A
walk is_after place size zero from whole = []
walk is_after place size (suc n) from whole = walk_on (take size (after_place is_after from whole)) (next_place place size (after_place is_after from whole)) (λ p. walk is_after place size n (Some p) whole)

-- each item stands after the places of those before it, and not after its own place nor after those of later ones
abbrev pub IsLater : {P A : Type 0} → (P → A → Bool) → (A → P) → A → A → Type 0
IsLater is_after place x y = (is_after (place x) y ≡ true) × (is_after (place y) x ≡ false)

pub record IsInOrder {P A : Type 0} (is_after : P → A → Bool) (place : A → P) (xs : List A) : Type 0 where
  pub pairs : Pairs (IsLater is_after place) xs
  pub own : (x : A) → is_after (place x) x ≡ false

-- the pages of accounts give all accounts of the list, each once and in order
abbrev pub AccountPages : Type 0
AccountPages = (g : List Entry) (q : Query) → 0 < q.page_size → walk is_after_name AddressPlace q.page_size (length (whole_accounts g q)) None (whole_accounts g q) ≡ whole_accounts g q

-- so do the pages of a faultless log's entries and transactions
abbrev pub EntryPages : Type 0
EntryPages = (g : List Entry) (q : Query) → IsFaultless g → 0 < q.page_size → walk is_after_entry entry_place q.page_size (length (whole_entries g q)) None (whole_entries g q) ≡ whole_entries g q

abbrev pub TransactionPages : Type 0
TransactionPages = (g : List Entry) (q : Query) → IsFaultless g → 0 < q.page_size → walk is_after_transaction transaction_place q.page_size (length (whole_transactions g q)) None (whole_transactions g q) ≡ whole_transactions g q

-- and those of volumes, and of ledgers
abbrev pub VolumePages : Type 0
VolumePages = (g : List Entry) (q : Query) → 0 < q.page_size → walk is_after_pair volume_place q.page_size (length (whole_volumes g q)) None (whole_volumes g q) ≡ whole_volumes g q

abbrev pub LedgerPages : Type 0
LedgerPages = (events : List Event) (q : Query) → 0 < q.page_size → walk is_after_ledger ledger_place q.page_size (length (whole_ledgers events q)) None (whole_ledgers events q) ≡ whole_ledgers events q
