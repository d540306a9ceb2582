-- What is decided of a write, step by step.
use Rattle.std.specs.Prelude.{◌<◌, ◌^◌, ℕ, ℤ, if◌then◌else◌, List, [], ◌∷◌, ◌++◌, length, Option, Some, None, IfSome}
use Rattle.std.specs.Str.{bytes_eq}
use Rattle.lg_base.specs.Volumes.{IsWithinLimit}
use Rattle.lg_types.specs.declared.calls.Write.{Write}
use Rattle.lg_types.specs.declared.records.Entry.{Entry}
use Rattle.lg_types.specs.declared.records.EntryBody.{EntryBody}
use Rattle.lg_types.specs.declared.records.Event.{Event}
use Rattle.lg_types.specs.declared.records.Event.TheVariants.{Made, Logged}
use Rattle.lg_types.specs.declared.records.LedgerInfo.{LedgerInfo}
use Rattle.lg_types.specs.declared.records.Transaction.{Transaction}
use Rattle.lg_types.specs.declared.refusals.Refusal.TheVariants.{NoLedger, LedgerThere, KeyInput}
use Rattle.lg_types.specs.Log.{log, is_there}
use Rattle.lg_types.specs.Moves.{body_transaction}
use Rattle.lg_types.specs.Tally.{total_of}
use Rattle.lg_types.specs.declared.calls.Call.TheVariants as call
use Rattle.lg_keys.specs.declared.kept.Kept.{Kept}
use Rattle.lg_views.specs.declared.decided.Written.{Written}
use Rattle.lg_views.specs.declared.decided.Written.TheVariants.{Refuses, Finds, Appends}
use Rattle.lg_views.specs.declared.replies.Content.TheVariants.{Empty}
use Rattle.lg_views.specs.Replies.{plain}
use Rattle.lg_views.specs.Writes.{first_reply, written}
use Rattle.lg_book.specs.FirstVolumes.{no_volumes, entry_volumes}
use Rattle.lg_book.specs.Following.{IsGrown}
use Rattle.lg_shard.specs.Shown.{account_moves}
use Rattle.lg_shard.specs.State.{StripeState}
use Rattle.lg_weigh.specs.Lent.{AreParts as LentParts}
use Rattle.lg_commit_volumes.specs.Lent.{AreParts, ArePairsWithin, HasSmallerIds}
use Rattle.lg_plan.specs.Plans.{PlanState, first_plan, with_event}
use Rattle.lg_decide.specs.declared.decisions.Decision.{Decision}
use Rattle.lg_decide.specs.declared.decisions.Decision.TheVariants as decision
use Rattle.lg_decide.specs.Decisions.{needed}

-- the plan of a new ledger
abbrev pub ledger_plan : List Event → LedgerInfo → PlanState
ledger_plan events info = with_event (first_plan (length events) (plain Empty)) (Made info) no_volumes

-- the plan of a new entry
abbrev pub entry_plan : List Event → List ℕ → Entry → PlanState
entry_plan events ledger e = with_event (first_plan (length events) (plain (first_reply (log events ledger ++ e ∷ []) e))) (Logged ledger e) (entry_volumes (log events ledger ++ e ∷ []) e)

-- the decision of what a write comes to
abbrev pub write_decision : List Event → List ℕ → Written → Decision
write_decision events ledger (Refuses refusal) = decision.Refused refusal
write_decision events ledger (Finds e) = decision.Kept e.id
write_decision events ledger (Appends e) = decision.Planned (entry_plan events ledger e)

-- the decision of a call that writes to a ledger
abbrev pub logged_decision : List Event → List ℕ → Option (List ℕ) → Write → ℤ → Decision
logged_decision events ledger key write now =
    if is_there events ledger then write_decision events ledger (written (log events ledger) key write now) else decision.Refused (NoLedger ledger)

-- the decision of a call that makes a ledger
abbrev pub made_decision : List Event → LedgerInfo → Decision
made_decision events info = if is_there events info.name then decision.Refused (LedgerThere info.name) else decision.Planned (ledger_plan events info)

-- the decision of a write whose key is kept
abbrev pub kept_decision : List ℕ → List ℕ → Kept → Decision
kept_decision key given kept = if bytes_eq kept.input_hash given then decision.Kept kept.entry else decision.Refused (KeyInput key kept.input_hash given)

-- the volumes of a transaction can be shown: the shards of its accounts are lent and are the parts of the events, with it
-- they stay within the limit, and its id is greater than those of the log
pub record MayShow (lent : ℕ → Option StripeState) (events : List Event) (ledger : List ℕ) (t : Transaction) : Type 0 where
  pub parts : AreParts lent ledger events t
  pub limit : ArePairsWithin lent ledger [] t
  pub ids : HasSmallerIds (log events ledger) t.id

abbrev pub MayShowBody : (ℕ → Option StripeState) → List Event → List ℕ → EntryBody → Type 0
MayShowBody lent events ledger body = IfSome (body_transaction body) (MayShow lent events ledger)

-- the totals of all accounts that a shard knows are within the limit
abbrev pub IsLimited : StripeState → Type 0
IsLimited state = (ledger account asset : List ℕ) → IsWithinLimit (total_of (account_moves state.shares ledger account asset))

-- so they are for all shards that are lent
abbrev pub AreLimited : (ℕ → Option StripeState) → Type 0
AreLimited lent = (k : ℕ) → k < 16 → IfSome (lent k) IsLimited

-- what is known where a call writes to a ledger: each event may follow those before it, the needed shards are lent and are
-- the parts of the events, and what they know is within the limit
pub record Ground (lent : ℕ → Option StripeState) (events : List Event) (ledger : List ℕ) (key : Option (List ℕ)) (write : Write) : Type 0 where
  pub grown : IsGrown events
  pub room : length events < 2 ^ 64
  pub parts : LentParts (needed events (call.Write ledger key write)) lent events
  pub limits : AreLimited lent
