-- The moves of a log: each posting gives an output move of its source, then an input move of its destination.
use Rattle.std.specs.Prelude.{ℕ, ℤ, Bool, true, false, ◌&&◌, List, [], ◌∷◌, map, Option, Some, None}
use Rattle.std.specs.List.{flat_map, filter}
use Rattle.std.specs.Str.{bytes_eq}
use Rattle.lg_base.specs.declared.amounts.Volumes.{Volumes}
use Rattle.lg_types.specs.declared.records.Posting.{Posting}
use Rattle.lg_types.specs.declared.records.Transaction.{Transaction}
use Rattle.lg_types.specs.declared.records.Entry.{Entry}
use Rattle.lg_types.specs.declared.records.EntryBody.{EntryBody}
use Rattle.lg_types.specs.declared.records.EntryBody.TheVariants.{NewTransaction, SetMetadata, Reverted, DeleteMetadata}
use Rattle.lg_types.specs.declared.moves.Move.{Move}
use Rattle.lg_types.specs.Tally.{tally}

-- a move with the account and the asset that it moves
pub record Placed : Type 0 where
  pub account : List ℕ
  pub asset : List ℕ
  pub what : Move

-- the transaction that an entry made
abbrev pub body_transaction : EntryBody → Option Transaction
body_transaction (NewTransaction t accounts) = Some t
body_transaction (SetMetadata target metadata) = None
body_transaction (Reverted id t) = Some t
body_transaction (DeleteMetadata target name) = None

-- the two moves of a posting of the transaction `id`
abbrev pub out_move : ℕ → ℤ → ℤ → Posting → Placed
out_move id inserted effective p = record { account = p.source; asset = p.asset; what = record { transaction = id; inserted = inserted; effective = effective; incoming = false; amount = p.amount } }

abbrev pub in_move : ℕ → ℤ → ℤ → Posting → Placed
in_move id inserted effective p = record { account = p.destination; asset = p.asset; what = record { transaction = id; inserted = inserted; effective = effective; incoming = true; amount = p.amount } }

abbrev pub posting_moves : ℕ → ℤ → ℤ → Posting → List Placed
posting_moves id inserted effective p = out_move id inserted effective p ∷ in_move id inserted effective p ∷ []

abbrev pub transaction_moves : ℤ → Option Transaction → List Placed
transaction_moves inserted None = []
transaction_moves inserted (Some t) = flat_map (posting_moves t.id inserted t.timestamp) t.postings

abbrev pub entry_moves : Entry → List Placed
entry_moves e = transaction_moves e.date (body_transaction e.body)

-- the moves of a log, in the order of its entries
abbrev pub moves : List Entry → List Placed
moves g = flat_map entry_moves g

-- whether a move is of the account and the asset
abbrev pub is_of : List ℕ → List ℕ → Placed → Bool
is_of account asset m = bytes_eq m.account account && bytes_eq m.asset asset

abbrev pub what_of : Placed → Move
what_of m = m.what

-- the moves of one account and one asset
abbrev pub pair_moves : List Placed → List ℕ → List ℕ → List Move
pair_moves ms account asset = map what_of (filter (is_of account asset) ms)

-- the sum of the inputs and the sum of the outputs of the pair's moves that pass the test
abbrev pub volumes : List Placed → (Move → Bool) → List ℕ → List ℕ → Volumes
volumes ms test account asset = tally test (pair_moves ms account asset)

-- the same of all its moves
abbrev pub total : List Placed → List ℕ → List ℕ → Volumes
total ms account asset = volumes ms (λ _. true) account asset
