-- What lent shards, and earlier entries of the same list of writes, know of the accounts of a transaction.
use Rattle.std.specs.Prelude.{◌≡◌, ◌<◌, ℕ, List, [], ◌∷◌, ◌++◌, All, Option, Some, None, IsSome, IsSomeAnd}
use Rattle.std.specs.List.{flat_map}
use Rattle.lg_base.specs.Volumes.{sum_of, IsWithinLimit}
use Rattle.lg_types.specs.declared.classes.Class.TheVariants.{Account as AccountClass}
use Rattle.lg_types.specs.declared.moves.Move.{Move}
use Rattle.lg_types.specs.declared.records.Entry.{Entry}
use Rattle.lg_types.specs.declared.records.Event.{Event}
use Rattle.lg_types.specs.declared.records.Posting.{Posting}
use Rattle.lg_types.specs.declared.records.Transaction.{Transaction}
use Rattle.lg_types.specs.Known.{Dated, transactions, transaction_accounts}
use Rattle.lg_types.specs.Moves.{moves, pair_moves, total}
use Rattle.lg_types.specs.Parts.{part_of}
use Rattle.lg_types.specs.Stripes.{stripe}
use Rattle.lg_types.specs.Tally.{total_of}
use Rattle.lg_types.specs.Trial.{tried_moves}
use Rattle.lg_shard.specs.Shown.{account_moves}
use Rattle.lg_shard.specs.State.{StripeState}

-- a shard that is lent, and it is the part of the stripe in the events
abbrev pub IsPart : ℕ → List Event → Option StripeState → Type 0
IsPart s events o = IsSomeAnd o (λ state. state.shares ≡ part_of s events)

-- the moves of an account and an asset that a lent shard knows
abbrev pub shard_moves : Option StripeState → List ℕ → List ℕ → List ℕ → List Move
shard_moves None ledger account asset = []
shard_moves (Some state) ledger account asset = account_moves state.shares ledger account asset

-- the account and the asset of each of the two moves of a posting
abbrev pub posting_pairs : Posting → List (List ℕ × List ℕ)
posting_pairs p = (p.source, p.asset) ∷ (p.destination, p.asset) ∷ []

module _ (lent : ℕ → Option StripeState) (ledger : List ℕ) where
  abbrev pub shard_of : List ℕ → Option StripeState
  shard_of account = lent (stripe AccountClass ledger account)

  abbrev pub IsLent : List ℕ → Type 0
  IsLent account = IsSome (shard_of account)

  abbrev pub IsPartOf : List Event → List ℕ → Type 0
  IsPartOf events account = IsPart (stripe AccountClass ledger account) events (shard_of account)

  -- the shards of the transaction's accounts are lent
  abbrev pub AreLent : Transaction → Type 0
  AreLent t = All IsLent (transaction_accounts (Some t))

  -- and they are the parts of the events
  abbrev pub AreParts : List Event → Transaction → Type 0
  AreParts events t = All (IsPartOf events) (transaction_accounts (Some t))

  -- the moves of an account and an asset that the shards know, and then those of the earlier entries
  abbrev pub moves_before : List Entry → List ℕ → List ℕ → List Move
  moves_before earlier account asset = shard_moves (shard_of account) ledger account asset ++ pair_moves (moves earlier) account asset

  -- with the transaction, inputs and outputs of the pair are within the limit
  abbrev pub IsPairWithin : List Entry → Transaction → List ℕ × List ℕ → Type 0
  IsPairWithin earlier t pair = IsWithinLimit (sum_of (total_of (moves_before earlier pair.0 pair.1)) (total (flat_map tried_moves t.postings) pair.0 pair.1))

  -- so they are for all accounts and assets of the transaction
  abbrev pub ArePairsWithin : List Entry → Transaction → Type 0
  ArePairsWithin earlier t = All (IsPairWithin earlier t) (flat_map posting_pairs t.postings)

-- the transactions of the log have smaller ids
abbrev pub HasSmallerId : ℕ → Dated → Type 0
HasSmallerId id d = d.transaction.id < id

abbrev pub HasSmallerIds : List Entry → ℕ → Type 0
HasSmallerIds g id = All (HasSmallerId id) (transactions g)
