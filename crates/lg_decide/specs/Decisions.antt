-- What a decision says of the outcome of a call.
use Rattle.std.specs.Prelude.{◌≡◌, ◌≢◌, ℕ, ℤ, Bool, true, List, [], Option, Some, None}
use Rattle.lg_types.specs.declared.calls.Call.{Call}
use Rattle.lg_types.specs.declared.calls.Call.TheVariants as call
use Rattle.lg_types.specs.declared.calls.Write.{Write}
use Rattle.lg_types.specs.declared.calls.Write.TheVariants.{Create, Revert, SetMeta, DropMeta}
use Rattle.lg_types.specs.declared.records.Entry.{Entry}
use Rattle.lg_types.specs.declared.records.Event.{Event}
use Rattle.lg_types.specs.declared.records.Transaction.{Transaction}
use Rattle.lg_types.specs.Log.{log}
use Rattle.lg_views.specs.declared.replies.Reply.{Reply}
use Rattle.lg_views.specs.Laws.{IsRefusal}
use Rattle.lg_views.specs.Outcome.{outcome}
use Rattle.lg_views.specs.Replies.{refused, repeated}
use Rattle.lg_views.specs.Writes.{first_reply, up_to}
use Rattle.lg_book.specs.Reading.{find_entry}
use Rattle.lg_weigh.specs.Reach.{needs}
use Rattle.lg_plan.specs.Events.{any_touches}
use Rattle.lg_plan.specs.Plans.{PlanState, Fits}
use Rattle.lg_decide.specs.declared.decisions.Decision.{Decision}
use Rattle.lg_decide.specs.declared.decisions.Decision.TheVariants.{Refused, Kept, Answered, Planned}
use Rattle.lg_decide.specs.Looking.{transaction_at}

-- the calls that are decided: one that makes a ledger, and one that writes to a ledger
abbrev pub IsDecided : Call → Type 0
IsDecided (call.Unreadable refusal) = ⊥
IsDecided (call.MakeLedger ledger bucket metadata) = Unit {0}
IsDecided (call.Write ledger key write) = Unit {0}
IsDecided (call.Bulk ledger elements atomic go_on) = ⊥
IsDecided (call.Import ledger batch) = ⊥
IsDecided (call.Ledgers query) = ⊥
IsDecided (call.Read ledger read) = ⊥

-- the ledger that a call names
abbrev pub named_ledger : Call → List ℕ
named_ledger (call.Unreadable refusal) = []
named_ledger (call.MakeLedger ledger bucket metadata) = ledger
named_ledger (call.Write ledger key write) = ledger
named_ledger (call.Bulk ledger elements atomic go_on) = ledger
named_ledger (call.Import ledger batch) = ledger
named_ledger (call.Ledgers query) = []
named_ledger (call.Read ledger read) = ledger

-- the transaction that a revert names, where the log has it
abbrev pub known_in : List Entry → Write → Option Transaction
known_in g (Create postings reference timestamp metadata accounts force) = None
known_in g (Revert id force at_effective_date) = transaction_at g id
known_in g (SetMeta target metadata) = None
known_in g (DropMeta target name) = None

abbrev pub known_to : List Event → Call → Option Transaction
known_to events (call.Unreadable refusal) = None
known_to events (call.MakeLedger ledger bucket metadata) = None
known_to events (call.Write ledger key write) = known_in (log events ledger) write
known_to events (call.Bulk ledger elements atomic go_on) = None
known_to events (call.Import ledger batch) = None
known_to events (call.Ledgers query) = None
known_to events (call.Read ledger read) = None

-- the stripes that a call needs after these events
abbrev pub needed : List Event → Call → ℕ → Bool
needed events c = needs c (known_to events c)

abbrev pub IsList : Call → Type 0
IsList (call.Unreadable refusal) = ⊥
IsList (call.MakeLedger ledger bucket metadata) = ⊥
IsList (call.Write ledger key write) = ⊥
IsList (call.Bulk ledger elements atomic go_on) = Unit {0}
IsList (call.Import ledger batch) = ⊥
IsList (call.Ledgers query) = ⊥
IsList (call.Read ledger read) = ⊥

-- the answer is the first reply of the log's entry of the id
pub record IsKept (g : List Entry) (answer : Reply × List Event) (id : ℕ) : Type 0 where
  pub entry : Entry
  pub found : find_entry g id ≡ Some entry
  pub first : answer ≡ (repeated (first_reply (up_to g entry) entry), [])

-- the answer is the reply of a list, which adds nothing and is no refusal
pub record IsAnswered (c : Call) (answer : Reply × List Event) (reply : Reply) : Type 0 where
  pub is_list : IsList c
  pub accepted : IsRefusal reply.content → ⊥
  pub whole : answer ≡ (reply, [])

-- a plan has events, but that of an import may have none
abbrev pub HasEvents : Call → List Event → Type 0
HasEvents (call.Unreadable refusal) events = events ≢ []
HasEvents (call.MakeLedger ledger bucket metadata) events = events ≢ []
HasEvents (call.Write ledger key write) events = events ≢ []
HasEvents (call.Bulk ledger elements atomic go_on) events = events ≢ []
HasEvents (call.Import ledger batch) events = Unit {0}
HasEvents (call.Ledgers query) events = events ≢ []
HasEvents (call.Read ledger read) events = events ≢ []

-- the answer is the plan's reply and its events; the plan fits the events, and touches no stripe beside those that the call needs
pub record IsPlanned (events : List Event) (c : Call) (answer : Reply × List Event) (plan : PlanState) : Type 0 where
  pub whole : answer ≡ (plan.reply, plan.events)
  pub some : HasEvents c plan.events
  pub fits : Fits plan events
  pub within : (k : ℕ) → any_touches plan.events k ≡ true → needed events c k ≡ true

-- a decision stands for an answer to a call
abbrev pub StandsFor : List Event → Call → Reply × List Event → Decision → Type 0
StandsFor events c answer (Refused refusal) = answer ≡ (refused refusal, [])
StandsFor events c answer (Kept entry) = IsKept (log events (named_ledger c)) answer entry
StandsFor events c answer (Answered reply) = IsAnswered c answer reply
StandsFor events c answer (Planned plan) = IsPlanned events c answer plan

-- a decision is the outcome of a call after these events
abbrev pub IsOutcome : List Event → Call → ℤ → Decision → Type 0
IsOutcome events c now d = StandsFor events c (outcome events c now) d
