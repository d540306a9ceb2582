-- The laws of moves and volumes.
use Rattle.std.specs.Prelude.{◌≡◌, ℕ, ℤ, Bool, false, ◌&&◌, if◌then◌else◌, nat_eq, int_le, List, [], ◌∷◌, ◌++◌, Some}
use Rattle.std.specs.Ordering.{int_eq}
use Rattle.std.specs.List.{sum_by}
use Rattle.std.specs.Str.{bytes_eq}
use Rattle.lg_base.specs.declared.amounts.Volumes.{Volumes}
use Rattle.lg_base.specs.Volumes.{sum_of, IsWithinLimit}
use Rattle.lg_types.specs.declared.moves.Move.{Move}
use Rattle.lg_types.specs.declared.records.Entry.{Entry}
use Rattle.lg_types.specs.declared.records.Posting.{Posting}
use Rattle.lg_types.specs.declared.records.Transaction.{Transaction}
use Rattle.lg_types.specs.Moves.{Placed, moves, volumes, total, body_transaction}
use Rattle.lg_types.specs.Tally.{amount_in, amount_out, is_inserted_to, is_effective_to, is_of_transaction_to, is_of_transaction_before, is_ranked_to, is_ranked_before}

-- what comes in of an asset, over all accounts, and what goes out of it
abbrev pub asset_in : List ℕ → Placed → ℕ
asset_in asset m = if bytes_eq m.asset asset then amount_in m.what else 0

abbrev pub asset_out : List ℕ → Placed → ℕ
asset_out asset m = if bytes_eq m.asset asset then amount_out m.what else 0

-- in every log, inputs and outputs of one asset over all accounts are equal
abbrev pub Balanced : Type 0
Balanced = (g : List Entry) (asset : List ℕ) → sum_by (asset_in asset) (moves g) ≡ sum_by (asset_out asset) (moves g)

-- an entry dated later than p changes no volume by insertion at p
abbrev pub LaterEntry : Type 0
LaterEntry = (g : List Entry) (e : Entry) (p : ℤ) (account asset : List ℕ) → int_le e.date p ≡ false → volumes (moves (g ++ e ∷ [])) (is_inserted_to p) account asset ≡ volumes (moves g) (is_inserted_to p) account asset

-- a transaction with a timestamp later than p changes no volume by effective date at p
abbrev pub LaterTransaction : Type 0
LaterTransaction = (g : List Entry) (e : Entry) (t : Transaction) (p : ℤ) (account asset : List ℕ) → body_transaction e.body ≡ Some t → int_le t.timestamp p ≡ false
    → volumes (moves (g ++ e ∷ [])) (is_effective_to p) account asset ≡ volumes (moves g) (is_effective_to p) account asset

-- the moves of a transaction, by its id, and by its timestamp with its id
abbrev pub is_of_transaction : ℕ → Move → Bool
is_of_transaction id m = nat_eq m.transaction id

abbrev pub is_of_rank : ℤ → ℕ → Move → Bool
is_of_rank date id m = int_eq m.effective date && nat_eq m.transaction id

-- the volumes with a transaction are those without it and its own postings together
abbrev pub WithOwnPostings : Type 0
WithOwnPostings = (ms : List Placed) (id : ℕ) (account asset : List ℕ)
    → volumes ms (is_of_transaction_to id) account asset ≡ sum_of (volumes ms (is_of_transaction_before id) account asset) (volumes ms (is_of_transaction id) account asset)

abbrev pub WithOwnPostingsByRank : Type 0
WithOwnPostingsByRank = (ms : List Placed) (date : ℤ) (id : ℕ) (account asset : List ℕ)
    → volumes ms (is_ranked_to date id) account asset ≡ sum_of (volumes ms (is_ranked_before date id) account asset) (volumes ms (is_of_rank date id) account asset)

-- inputs and outputs of each account and asset are within the limit
pub record IsWithin (ms : List Placed) : Type 0 where
  pub each : (account asset : List ℕ) → IsWithinLimit (total ms account asset)

-- what one posting adds to the volumes of an account and an asset
abbrev pub posting_volumes : List ℕ → List ℕ → Posting → Volumes
posting_volumes account asset p = record { input = if bytes_eq p.destination account && bytes_eq p.asset asset then p.amount else 0; output = if bytes_eq p.source account && bytes_eq p.asset asset then p.amount else 0 }
