-- The reads of a ledger that are answered, and what the others are.
use Rattle.std.specs.Prelude.{◌≡◌, ℕ, ℤ, List, [], Option, None}
use Rattle.lg_types.specs.declared.calls.Call.{Call}
use Rattle.lg_types.specs.declared.calls.Call.TheVariants.{Unreadable, Read as ReadCall}
use Rattle.lg_types.specs.declared.queries.Read.{Read}
use Rattle.lg_types.specs.declared.queries.Read.TheVariants as read
use Rattle.lg_types.specs.declared.records.Entry.{Entry}
use Rattle.lg_types.specs.declared.records.Event.{Event}
use Rattle.lg_types.specs.declared.records.Transaction.{Transaction}
use Rattle.lg_types.specs.declared.refusals.Refusal.TheVariants.{NotBuilt}
use Rattle.lg_types.specs.Log.{log}
use Rattle.lg_shard.specs.State.{StripeState}
use Rattle.lg_book.specs.Reading.{transaction_at}
use Rattle.lg_weigh.specs.Lent.{AreLent, AreParts}
use Rattle.lg_weigh.specs.Reach.{needs}
use Rattle.lg_views.specs.declared.replies.Reply.{Reply}
use Rattle.lg_views.specs.Outcome.{outcome}

-- the reading of a ledger as it is answered: lists of accounts, transactions and volumes aren't built yet
abbrev pub as_asked : List ℕ → Read → Call
as_asked ledger read.Ledger = ReadCall ledger read.Ledger
as_asked ledger (read.Account address pit expand) = ReadCall ledger (read.Account address pit expand)
as_asked ledger (read.Transaction id expand pit) = Unreadable NotBuilt
as_asked ledger (read.Accounts q) = Unreadable NotBuilt
as_asked ledger (read.Transactions q) = Unreadable NotBuilt
as_asked ledger (read.Logs q) = ReadCall ledger (read.Logs q)
as_asked ledger (read.Volumes q) = Unreadable NotBuilt
as_asked ledger (read.Aggregate filter pit by_insertion) = Unreadable NotBuilt
as_asked ledger read.Stats = Unreadable NotBuilt
as_asked ledger read.Export = ReadCall ledger read.Export

-- the reply is the outcome of a call at every moment, and the call adds nothing
abbrev pub IsReadAs : List Event → Call → Reply → Type 0
IsReadAs events call reply = (now : ℤ) → (reply, []) ≡ outcome events call now

-- the transaction of the id that a reading names
abbrev pub named_transaction : List Entry → Read → Option Transaction
named_transaction g (read.Transaction id expand pit) = transaction_at g id
named_transaction g read.Ledger = None
named_transaction g (read.Account address pit expand) = None
named_transaction g (read.Accounts q) = None
named_transaction g (read.Transactions q) = None
named_transaction g (read.Logs q) = None
named_transaction g (read.Volumes q) = None
named_transaction g (read.Aggregate filter pit by_insertion) = None
named_transaction g read.Stats = None
named_transaction g read.Export = None

-- the stripes that a reading of a ledger needs are lent, and each holds its part of the events
pub record AreReady (lent : ℕ → Option StripeState) (events : List Event) (ledger : List ℕ) (read : Read) : Type 0 where
  pub all : AreLent (needs (ReadCall ledger read) (named_transaction (log events ledger) read)) lent
  pub parts : AreParts (needs (ReadCall ledger read) (named_transaction (log events ledger) read)) lent events
