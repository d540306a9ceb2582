-- What reads answer: whole lists at a date, filtered, in their order, and pages of them.
use Rattle.std.specs.Prelude.{ℕ, ℤ, Bool, false, ◌&&◌, ◌||◌, nat_eq, nat_lt, if◌then◌else◌, List, [], ◌∷◌, ◌++◌, map, reverse, length, take, Option, Some, None, is_some}
use Rattle.std.specs.Ordering.{is_lt, is_eq}
use Rattle.std.specs.List.{filter, flat_map, list_any, join_with_byte, enumerate_from}
use Rattle.std.specs.Str.{bytes_eq}
use Rattle.lg_base.specs.declared.amounts.Volumes.{Volumes}
use Rattle.lg_base.specs.Volumes.{balance_of}
use Rattle.lg_containers.specs.NameOrder.{name_order}
use Rattle.lg_containers.specs.NameTable as table
use Rattle.lg_types.specs.declared.filters.Filter.{Filter}
use Rattle.lg_types.specs.declared.filters.ListKind.TheVariants as kind
use Rattle.lg_types.specs.declared.filters.After.{After}
use Rattle.lg_types.specs.declared.filters.After.TheVariants.{Place, Address as AddressPlace, Pair}
use Rattle.lg_types.specs.declared.moves.Move.{Move}
use Rattle.lg_types.specs.declared.queries.Expand.{Expand}
use Rattle.lg_types.specs.declared.queries.Query.{Query}
use Rattle.lg_types.specs.declared.queries.Read.{Read}
use Rattle.lg_types.specs.declared.queries.Read.TheVariants as read
use Rattle.lg_types.specs.declared.records.Entry.{Entry}
use Rattle.lg_types.specs.declared.records.Event.{Event}
use Rattle.lg_types.specs.declared.records.Event.TheVariants.{Made, Logged}
use Rattle.lg_types.specs.declared.records.LedgerInfo.{LedgerInfo}
use Rattle.lg_types.specs.declared.records.Target.TheVariants.{Account, Transaction as TransactionOf}
use Rattle.lg_types.specs.declared.refusals.Refusal.TheVariants.{NoTransaction, NoAccount, SumLimit}
use Rattle.lg_types.specs.Changes.{MetaOf, metadata_at}
use Rattle.lg_types.specs.Known.{Dated, accounts, transactions, find_transaction}
use Rattle.lg_types.specs.Moves.{Placed, moves, volumes, total}
use Rattle.lg_types.specs.Tally.{is_to, is_between}
use Rattle.lg_types.specs.Trial.{passes_limit}
use Rattle.lg_views.specs.declared.items.Items.{Items}
use Rattle.lg_views.specs.declared.items.Items.TheVariants as items
use Rattle.lg_views.specs.declared.replies.Content.{Content}
use Rattle.lg_views.specs.declared.replies.Content.TheVariants as content
use Rattle.lg_views.specs.declared.views.VolumeItem.{VolumeItem}
use Rattle.lg_views.specs.declared.views.BalanceItem.{BalanceItem}
use Rattle.lg_views.specs.Filters.{passes, account_atom, transaction_atom, entry_atom, ledger_atom, has_name, no_name, segments}
use Rattle.lg_views.specs.Pages.{page}
use Rattle.lg_views.specs.Pairs.{AssetMap, AccountMap, pair_of, pair_map, in_byte_order}
use Rattle.lg_views.specs.Views.{account_view, transaction_view, undone_by, inserted_by}

-- ---- accounts

abbrev pub is_dated_to : Option ℤ → Entry → Bool
is_dated_to pit e = is_to pit e.date

abbrev pub is_moved_by : Option ℤ → Placed → Bool
is_moved_by pit m = is_to pit m.what.effective

abbrev pub account_of : Placed → List ℕ
account_of m = m.account

-- an account is there where an entry of the date or before names it, or a move of it is effective by then
abbrev pub accounts_at : List Entry → Option ℤ → List (List ℕ)
accounts_at g pit = accounts (filter (is_dated_to pit) g) ++ map account_of (filter (is_moved_by pit) (moves g))

abbrev pub is_account_at : List Entry → Option ℤ → List ℕ → Bool
is_account_at g pit address = list_any (bytes_eq address) (accounts_at g pit)

-- the balance of all moves inserted by the date
abbrev pub balance_at : List Entry → Option ℤ → List ℕ → List ℕ → ℤ
balance_at g pit account asset = balance_of (volumes (moves g) (inserted_by pit) account asset)

-- whether an account passes a filter, with its metadata and its balances at a date
abbrev pub account_passes : List Entry → Option ℤ → Filter → List ℕ → Bool
account_passes g pit filter address = passes (account_atom address (metadata_at g (Account address) pit) (balance_at g pit address)) (has_name (metadata_at g (Account address) pit)) filter

abbrev pub whole_accounts : List Entry → Query → List (List ℕ)
whole_accounts g q = filter (account_passes g q.pit q.filter) (in_byte_order (accounts_at g q.pit))

abbrev pub is_after_name : After → List ℕ → Bool
is_after_name (Place n) name = false
is_after_name (AddressPlace address) name = is_lt (name_order address name)
is_after_name (Pair account asset) name = false

abbrev pub account_items : List Entry → Query → List (List ℕ) → Items
account_items g q names = items.Accounts (map (account_view g q.pit q.expand) names)

abbrev pub accounts_page : List Entry → Query → Content
accounts_page g q = page kind.Accounts q is_after_name AddressPlace (account_items g q) (whole_accounts g q)

-- ---- transactions

abbrev pub is_effective_at : Option ℤ → Dated → Bool
is_effective_at pit d = is_to pit d.transaction.timestamp

abbrev pub transaction_metadata : List Entry → Option ℤ → Dated → MetaOf
transaction_metadata g pit d = metadata_at g (TransactionOf d.transaction.id) pit

abbrev pub transaction_passes : List Entry → Option ℤ → Filter → Dated → Bool
transaction_passes g pit filter d = passes (transaction_atom d (transaction_metadata g pit d) (is_some (undone_by g d.transaction.id pit))) (has_name (transaction_metadata g pit d)) filter

-- the transactions with a timestamp of the date or before, the last first
abbrev pub whole_transactions : List Entry → Query → List Dated
whole_transactions g q = filter (transaction_passes g q.pit q.filter) (filter (is_effective_at q.pit) (reverse (transactions g)))

abbrev pub transaction_place : Dated → After
transaction_place d = Place d.transaction.id

abbrev pub is_after_transaction : After → Dated → Bool
is_after_transaction (Place n) d = nat_lt d.transaction.id n
is_after_transaction (AddressPlace address) d = false
is_after_transaction (Pair account asset) d = false

abbrev pub transaction_items : List Entry → Query → List Dated → Items
transaction_items g q ds = items.Transactions (map (transaction_view g q.pit q.expand) ds)

abbrev pub transactions_page : List Entry → Query → Content
transactions_page g q = page kind.Transactions q is_after_transaction transaction_place (transaction_items g q) (whole_transactions g q)

-- ---- entries

abbrev pub entry_passes : Filter → Entry → Bool
entry_passes filter e = passes (entry_atom e) no_name filter

-- the entries of the date or before, the last first
abbrev pub whole_entries : List Entry → Query → List Entry
whole_entries g q = filter (entry_passes q.filter) (filter (is_dated_to q.pit) (reverse g))

abbrev pub entry_place : Entry → After
entry_place e = Place e.id

abbrev pub is_after_entry : After → Entry → Bool
is_after_entry (Place n) e = nat_lt e.id n
is_after_entry (AddressPlace address) e = false
is_after_entry (Pair account asset) e = false

abbrev pub entries_page : List Entry → Query → Content
entries_page g q = page kind.Logs q is_after_entry entry_place items.Entries (whole_entries g q)

-- ---- volumes and balances

-- an address cut after its first n segments; whole for 0
abbrev pub grouped : ℕ → List ℕ → List ℕ
grouped n address = if nat_eq n 0 then address else join_with_byte 58 (take n (segments address))

abbrev pub regrouped : ℕ → Placed → Placed
regrouped n m = record m { account = grouped n m.account }

-- the moves between the dates of accounts that pass the filter, by their metadata now and their balance of all moves
abbrev pub is_listed : List Entry → Query → Placed → Bool
is_listed g q m = is_between q.span.from q.span.to q.span.by_insertion m.what && account_passes g None q.filter m.account

abbrev pub listed_moves : List Entry → Query → List Placed
listed_moves g q = map (regrouped q.span.group) (filter (is_listed g q) (moves g))

-- what moves add up to, over the pairs of account and asset that they have
abbrev pub totals : List Placed → AccountMap
totals ms = pair_map (total ms) (map pair_of ms)

abbrev pub volume_item : List ℕ → List ℕ × Volumes → VolumeItem
volume_item account pair = record { account = account; asset = pair.0; input = pair.1.input; output = pair.1.output; balance = balance_of pair.1 }

abbrev pub account_volume_items : List ℕ × AssetMap → List VolumeItem
account_volume_items pair = map (volume_item pair.0) (table.pairs_of pair.1)

-- by account and then by asset, in byte order
abbrev pub volume_items : AccountMap → List VolumeItem
volume_items m = flat_map account_volume_items (table.pairs_of m)

abbrev pub whole_volumes : List Entry → Query → List VolumeItem
whole_volumes g q = volume_items (totals (listed_moves g q))

-- the first asset in byte order of which a sum passes the limit
abbrev pub is_past : VolumeItem → Bool
is_past v = passes_limit v.input || passes_limit v.output

abbrev pub item_asset : VolumeItem → List ℕ
item_asset v = v.asset

abbrev pub first_name : List (List ℕ) → Option (List ℕ)
first_name [] = None
first_name (name ∷ names) = Some name

abbrev pub past_limit : List VolumeItem → Option (List ℕ)
past_limit vs = first_name (in_byte_order (map item_asset (filter is_past vs)))

abbrev pub unless_past : Option (List ℕ) → Content → Content
unless_past None found = found
unless_past (Some asset) found = content.Refused (SumLimit asset)

abbrev pub volume_place : VolumeItem → After
volume_place v = Pair v.account v.asset

abbrev pub is_after_pair : After → VolumeItem → Bool
is_after_pair (Place n) v = false
is_after_pair (AddressPlace address) v = false
is_after_pair (Pair account asset) v = is_lt (name_order account v.account) || (is_eq (name_order account v.account) && is_lt (name_order asset v.asset))

abbrev pub volumes_page_of : Query → List VolumeItem → Content
volumes_page_of q vs = unless_past (past_limit vs) (page kind.Volumes q is_after_pair volume_place items.Volumes vs)

abbrev pub volumes_page : List Entry → Query → Content
volumes_page g q = volumes_page_of q (whole_volumes g q)

-- the moves up to a date of accounts that pass the filter, by their metadata at that date, all on one account
abbrev pub counted_by : Bool → Option ℤ → Move → Bool
counted_by by_insertion pit m = is_between None pit by_insertion m

abbrev pub is_summed : List Entry → Filter → Option ℤ → Bool → Placed → Bool
is_summed g filter pit by_insertion m = counted_by by_insertion pit m.what && account_passes g pit filter m.account

abbrev pub on_one : Placed → Placed
on_one m = record m { account = [] }

abbrev pub summed_moves : List Entry → Filter → Option ℤ → Bool → List Placed
summed_moves g f pit by_insertion = map on_one (filter (is_summed g f pit by_insertion) (moves g))

abbrev pub balance_item : VolumeItem → BalanceItem
balance_item v = record { asset = v.asset; balance = v.balance }

abbrev pub balances_of : List VolumeItem → Content
balances_of vs = unless_past (past_limit vs) (content.Balances (map balance_item vs))

abbrev pub aggregate : List Entry → Filter → Option ℤ → Bool → Content
aggregate g filter pit by_insertion = balances_of (volume_items (totals (summed_moves g filter pit by_insertion)))

-- ---- one account, one transaction

abbrev pub account_content : List Entry → List ℕ → Option ℤ → Expand → Content
account_content g address pit expand = if is_account_at g pit address then content.Account (account_view g pit expand address) else content.Refused (NoAccount address)

abbrev pub transaction_content_of : List Entry → ℕ → Option ℤ → Expand → Option Dated → Content
transaction_content_of g id pit expand None = content.Refused (NoTransaction id)
transaction_content_of g id pit expand (Some d) = if is_effective_at pit d then content.Transaction (transaction_view g pit expand d) else content.Refused (NoTransaction id)

abbrev pub transaction_content : List Entry → ℕ → Option ℤ → Expand → Content
transaction_content g id pit expand = transaction_content_of g id pit expand (find_transaction g id)

-- ---- a read of one ledger, by its log; the ledger itself is answered from the event that made it

abbrev pub log_content : List Entry → Read → Content
log_content g read.Ledger = content.Empty
log_content g (read.Account address pit expand) = account_content g address pit expand
log_content g (read.Transaction id expand pit) = transaction_content g id pit expand
log_content g (read.Accounts q) = accounts_page g q
log_content g (read.Transactions q) = transactions_page g q
log_content g (read.Logs q) = entries_page g q
log_content g (read.Volumes q) = volumes_page g q
log_content g (read.Aggregate filter pit by_insertion) = aggregate g filter pit by_insertion
log_content g read.Stats = content.Stats (length (in_byte_order (accounts g))) (length (transactions g))
log_content g read.Export = content.Export g

-- ---- ledgers

-- a ledger with the place of its event
abbrev pub made_at : ℕ × Event → List (ℕ × LedgerInfo)
made_at placed = elim placed.1 [ Made info ↦ (placed.0, info) ∷ [] | Logged ledger e ↦ [] ]

abbrev pub ledger_passes : Filter → ℕ × LedgerInfo → Bool
ledger_passes filter placed = passes ledger_atom no_name filter

-- the ledgers with the places of their events, in the order in which they were made
abbrev pub whole_ledgers : List Event → Query → List (ℕ × LedgerInfo)
whole_ledgers events q = filter (ledger_passes q.filter) (flat_map made_at (enumerate_from 0 events))

abbrev pub ledger_place : ℕ × LedgerInfo → After
ledger_place placed = Place placed.0

abbrev pub is_after_ledger : After → ℕ × LedgerInfo → Bool
is_after_ledger (Place n) placed = nat_lt n placed.0
is_after_ledger (AddressPlace address) placed = false
is_after_ledger (Pair account asset) placed = false

abbrev pub info_of : ℕ × LedgerInfo → LedgerInfo
info_of placed = placed.1

abbrev pub ledger_items : List (ℕ × LedgerInfo) → Items
ledger_items placed = items.Ledgers (map info_of placed)

abbrev pub ledgers_page : List Event → Query → Content
ledgers_page events q = page kind.Ledgers q is_after_ledger ledger_place ledger_items (whole_ledgers events q)
