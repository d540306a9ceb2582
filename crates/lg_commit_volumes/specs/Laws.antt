-- How a caller comes to what the call asks and supposes.
use Rattle.std.specs.Prelude.{◌≡◌, ℕ, List, ◌++◌, All, Option, None}
use Rattle.std.specs.List.{flat_map}
use Rattle.lg_base.specs.Volumes.{IsWithinLimit}
use Rattle.lg_types.specs.declared.records.Entry.{Entry}
use Rattle.lg_types.specs.declared.records.Event.{Event}
use Rattle.lg_types.specs.declared.records.Transaction.{Transaction}
use Rattle.lg_types.specs.Known.{next_transaction}
use Rattle.lg_types.specs.Log.{log}
use Rattle.lg_types.specs.Moves.{moves}
use Rattle.lg_types.specs.Tally.{total_of}
use Rattle.lg_types.specs.Trial.{limit_from}
use Rattle.lg_shard.specs.State.{StripeState}
use Rattle.lg_book.specs.Following.{IsGrown}
use Rattle.lg_commit_volumes.specs.Lent.{AreParts, ArePairsWithin, HasSmallerIds, moves_before, posting_pairs}

-- without the transaction, inputs and outputs of the pair are within the limit
abbrev pub IsPairWithinBefore : (ℕ → Option StripeState) → List ℕ → List Entry → List ℕ × List ℕ → Type 0
IsPairWithinBefore lent ledger earlier pair = IsWithinLimit (total_of (moves_before lent ledger earlier pair.0 pair.1))

-- where the shards are parts of events, postings that don't pass the limit over the log leave the accounts of their transaction within it
abbrev pub TriedIsWithin : Type 0
TriedIsWithin = (lent : ℕ → Option StripeState) (ledger : List ℕ) (earlier : List Entry) (t : Transaction) (events : List Event)
    → AreParts lent ledger events t → All (IsPairWithinBefore lent ledger earlier) (flat_map posting_pairs t.postings)
    → limit_from (moves (log events ledger ++ earlier)) 0 t.postings ≡ None → ArePairsWithin lent ledger earlier t

-- where each event may follow those before it, the transactions of a log have smaller ids than the next
abbrev pub NextIsGreater : Type 0
NextIsGreater = (events : List Event) (ledger : List ℕ) → IsGrown events → HasSmallerIds (log events ledger) (next_transaction (log events ledger))
