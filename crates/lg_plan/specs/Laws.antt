-- Which events may be prepared on the shards of a list.
use Rattle.std.specs.Prelude.{◌≡◌, ℕ, Bool, false, List, [], ◌∷◌, ◌++◌, length, Option, Some, None}
use Rattle.lg_base.specs.Volumes.{IsWithinLimit}
use Rattle.lg_types.specs.declared.classes.Class.TheVariants.{Account as AccountClass}
use Rattle.lg_types.specs.declared.records.Entry.{Entry}
use Rattle.lg_types.specs.declared.records.Event.{Event}
use Rattle.lg_types.specs.declared.records.Event.TheVariants.{Made, Logged}
use Rattle.lg_types.specs.declared.records.LedgerInfo.{LedgerInfo}
use Rattle.lg_types.specs.declared.records.Posting.{Posting}
use Rattle.lg_types.specs.declared.records.Transaction.{Transaction}
use Rattle.lg_types.specs.Lists.{Each}
use Rattle.lg_types.specs.Log.{log}
use Rattle.lg_types.specs.Moves.{Placed, moves, total, body_transaction}
use Rattle.lg_types.specs.Parts.{shares_of, part_of}
use Rattle.lg_types.specs.Stripes.{stripe}
use Rattle.lg_types.specs.Tally.{total_of}
use Rattle.lg_types.specs.Trial.{trial_from, limit_from}
use Rattle.lg_views.specs.Import.{has_used_key, is_referred, is_over_limit, fault}
use Rattle.lg_book.specs.declared.volumes.FirstVolumes.{FirstVolumes}
use Rattle.lg_book.specs.Following.{MayFollowLog, IsGrown}
use Rattle.lg_shard.specs.Following.{Follows}
use Rattle.lg_shard.specs.Shown.{account_moves}
use Rattle.lg_plan.specs.Events.{MayPrepare}
use Rattle.lg_plan.specs.Plans.{PlanState, Fits, with_event}

-- the totals of both accounts of a posting are within the limit
pub record IsPostingWithin (ms : List Placed) (p : Posting) : Type 0 where
  pub source : IsWithinLimit (total ms p.source p.asset)
  pub destination : IsWithinLimit (total ms p.destination p.asset)

-- so are those of all postings of a transaction
abbrev pub AreAccountsWithin : List Placed → Option Transaction → Type 0
AreAccountsWithin ms None = Unit {0}
AreAccountsWithin ms (Some t) = Each (IsPostingWithin ms) t.postings

-- an entry may be the next of a log: its number, its date, its key, its reference, and the totals before it and with it
pub record MayEnter (g : List Entry) (e : Entry) : Type 0 where
  pub follows : MayFollowLog g e
  pub key : has_used_key g e.mark ≡ false
  pub reference : is_referred g (body_transaction e.body) ≡ false
  pub limit : is_over_limit g (body_transaction e.body) ≡ false
  pub within : AreAccountsWithin (moves g) (body_transaction e.body)

-- an entry that may be the next of its ledger's log may be prepared on each shard
abbrev pub EntryFollows : Type 0
EntryFollows = (events : List Event) (ledger : List ℕ) (e : Entry) (k : ℕ) → IsGrown events → MayEnter (log events ledger) e → Follows (part_of k events) (shares_of k (length events) (Logged ledger e))

-- a ledger that is made may be prepared on each shard
abbrev pub MadeFollows : Type 0
MadeFollows = (events : List Event) (info : LedgerInfo) (k : ℕ) → Follows (part_of k events) (shares_of k (length events) (Made info))

-- an entry that an import takes as the next of a log may be the next
abbrev pub FaultlessEnters : Type 0
FaultlessEnters = (g : List Entry) (e : Entry) → fault g e ≡ None → AreAccountsWithin (moves g) (body_transaction e.body) → MayEnter g e

-- what a stripe's part of a list adds up to for an account of the stripe is what the log adds up to
abbrev pub PartTotals : Type 0
PartTotals = (events : List Event) (ledger account asset : List ℕ) → total_of (account_moves (part_of (stripe AccountClass ledger account) events) ledger account asset) ≡ total (moves (log events ledger)) account asset

-- a total within the limit stays within it with an entry that doesn't pass the limit
abbrev pub TotalsStayWithin : Type 0
TotalsStayWithin = (g : List Entry) (e : Entry) (account asset : List ℕ) → IsWithinLimit (total (moves g) account asset) → is_over_limit g (body_transaction e.body) ≡ false → IsWithinLimit (total (moves (g ++ e ∷ [])) account asset)

-- postings that pass the trial don't pass the limit
abbrev pub TriedWithinLimit : Type 0
TriedWithinLimit = (ms : List Placed) (k : ℕ) (ps : List Posting) (force : Bool) → trial_from ms k ps force ≡ None → limit_from ms k ps ≡ None

-- a plan that fits a list fits it with an event more, where the event may be prepared at the end of the list with the plan's events
abbrev pub FitsMore : Type 0
FitsMore = (plan : PlanState) (events : List Event) (event : Event) (volumes : FirstVolumes) → Fits plan events → MayPrepare (events ++ plan.events) event volumes → Fits (with_event plan event volumes) events
