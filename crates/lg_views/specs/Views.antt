-- What replies show of transactions and accounts.
use Rattle.std.specs.Prelude.{ℕ, ℤ, Bool, false, ◌&&◌, if◌then◌else◌, List, map, Option, Some, None, is_some}
use Rattle.std.specs.Option.{option_map}
use Rattle.std.specs.List.{filter, find}
use Rattle.std.specs.Str.{bytes_eq}
use Rattle.lg_types.specs.declared.moves.Move.{Move}
use Rattle.lg_types.specs.declared.queries.Expand.{Expand}
use Rattle.lg_types.specs.declared.records.Entry.{Entry}
use Rattle.lg_types.specs.declared.records.Transaction.{Transaction}
use Rattle.lg_types.specs.declared.records.Target.TheVariants.{Account, Transaction as TransactionOf}
use Rattle.lg_types.specs.Tally.{is_of_transaction_to, is_of_transaction_before, is_ranked_to, is_ranked_before, is_to}
use Rattle.lg_types.specs.Moves.{Placed, moves, volumes, transaction_moves}
use Rattle.lg_types.specs.Changes.{metadata_at}
use Rattle.lg_types.specs.Known.{Dated, Undoing, undoings, undoes}
use Rattle.lg_views.specs.declared.views.TransactionView.{TransactionView}
use Rattle.lg_views.specs.declared.views.AccountView.{AccountView}
use Rattle.lg_views.specs.Pairs.{AccountMap, AssetMap, pair_of, pair_map, asset_map}

-- the pairs of account and asset of a transaction's moves
abbrev pub transaction_pairs : ℤ → Transaction → List (List ℕ × List ℕ)
transaction_pairs inserted t = map pair_of (transaction_moves inserted (Some t))

abbrev pub transaction_volumes : List Placed → (Move → Bool) → ℤ → Transaction → AccountMap
transaction_volumes ms test inserted t = pair_map (volumes ms test) (transaction_pairs inserted t)

-- the volumes of a transaction over moves: without and with its own, by id and by the pair of timestamp and id
abbrev pub pre_commit : List Placed → ℤ → Transaction → AccountMap
pre_commit ms inserted t = transaction_volumes ms (is_of_transaction_before t.id) inserted t

abbrev pub post_commit : List Placed → ℤ → Transaction → AccountMap
post_commit ms inserted t = transaction_volumes ms (is_of_transaction_to t.id) inserted t

abbrev pub pre_commit_effective : List Placed → ℤ → Transaction → AccountMap
pre_commit_effective ms inserted t = transaction_volumes ms (is_ranked_before t.timestamp t.id) inserted t

abbrev pub post_commit_effective : List Placed → ℤ → Transaction → AccountMap
post_commit_effective ms inserted t = transaction_volumes ms (is_ranked_to t.timestamp t.id) inserted t

-- a new transaction with all four volumes, its own metadata, and not reverted
abbrev pub new_view : List Placed → Dated → TransactionView
new_view ms d = record {
  id = d.transaction.id;
  postings = d.transaction.postings;
  metadata = d.transaction.metadata;
  reference = d.transaction.reference;
  timestamp = d.transaction.timestamp;
  inserted_at = d.date;
  reverted = false;
  reverted_at = None;
  pre_commit_volumes = Some (pre_commit ms d.date d.transaction);
  post_commit_volumes = Some (post_commit ms d.date d.transaction);
  pre_commit_effective_volumes = Some (pre_commit_effective ms d.date d.transaction);
  post_commit_effective_volumes = Some (post_commit_effective ms d.date d.transaction);
}

abbrev pub shown_if : {A : Type 0} → Bool → A → Option A
shown_if wanted a = if wanted then Some a else None

-- what reverted the transaction by the date
abbrev pub is_undone_by : ℕ → Option ℤ → Undoing → Bool
is_undone_by id pit u = undoes id u && is_to pit u.date

abbrev pub undone_by : List Entry → ℕ → Option ℤ → Option Undoing
undone_by g id pit = find (is_undone_by id pit) (undoings g)

abbrev pub undoing_date : Undoing → ℤ
undoing_date u = u.date

-- a transaction at a date
abbrev pub transaction_view : List Entry → Option ℤ → Expand → Dated → TransactionView
transaction_view g pit expand d = record {
  id = d.transaction.id;
  postings = d.transaction.postings;
  metadata = metadata_at g (TransactionOf d.transaction.id) pit;
  reference = d.transaction.reference;
  timestamp = d.transaction.timestamp;
  inserted_at = d.date;
  reverted = is_some (undone_by g d.transaction.id pit);
  reverted_at = option_map undoing_date (undone_by g d.transaction.id pit);
  pre_commit_volumes = shown_if expand.volumes (pre_commit (moves g) d.date d.transaction);
  post_commit_volumes = shown_if expand.volumes (post_commit (moves g) d.date d.transaction);
  pre_commit_effective_volumes = shown_if expand.effective (pre_commit_effective (moves g) d.date d.transaction);
  post_commit_effective_volumes = shown_if expand.effective (post_commit_effective (moves g) d.date d.transaction);
}

-- the moves that a reading at a date counts, by insertion or by effective date
abbrev pub inserted_by : Option ℤ → Move → Bool
inserted_by pit m = is_to pit m.inserted

abbrev pub effective_by : Option ℤ → Move → Bool
effective_by pit m = is_to pit m.effective

-- the assets of an account's moves that are counted
abbrev pub is_counted : (Move → Bool) → List ℕ → Placed → Bool
is_counted test account m = bytes_eq m.account account && test m.what

abbrev pub asset_of : Placed → List ℕ
asset_of m = m.asset

abbrev pub assets : List Placed → (Move → Bool) → List ℕ → List (List ℕ)
assets ms test account = map asset_of (filter (is_counted test account) ms)

-- the volumes of an account, over the assets with a counted move
abbrev pub account_volumes : List Placed → (Move → Bool) → List ℕ → AssetMap
account_volumes ms test account = asset_map (volumes ms test account) (assets ms test account)

-- an account at a date
abbrev pub account_view : List Entry → Option ℤ → Expand → List ℕ → AccountView
account_view g pit expand address = record {
  address = address;
  metadata = metadata_at g (Account address) pit;
  volumes = shown_if expand.volumes (account_volumes (moves g) (inserted_by pit) address);
  effective_volumes = shown_if expand.effective (account_volumes (moves g) (effective_by pit) address);
}
