-- What the elements of a list of writes come to, one after the other, and what is decided of it.
use Rattle.std.specs.Prelude.{◌≡◌, ◌<◌, ◌+◌, ℕ, ℤ, Bool, true, List, [], ◌∷◌, ◌++◌, map, length, Option, Some, None, IsSomeAnd}
use Rattle.lg_types.specs.declared.calls.Element.{Element}
use Rattle.lg_types.specs.declared.records.Entry.{Entry}
use Rattle.lg_types.specs.declared.records.Event.{Event}
use Rattle.lg_types.specs.declared.records.Event.TheVariants.{Logged}
use Rattle.lg_types.specs.declared.refusals.Refusal.{Refusal}
use Rattle.lg_types.specs.Log.{log, is_there}
use Rattle.lg_types.specs.Parts.{part_of}
use Rattle.lg_views.specs.declared.decided.Written.{Written}
use Rattle.lg_views.specs.declared.decided.Written.TheVariants.{Refuses, Finds, Appends}
use Rattle.lg_views.specs.declared.replies.BulkItem.{BulkItem}
use Rattle.lg_views.specs.declared.replies.Reply.{Reply}
use Rattle.lg_views.specs.Bulk.{Batched, batched, bulk_answer, bulk_reply, good_result}
use Rattle.lg_views.specs.Import.{FollowsFrom, fault}
use Rattle.lg_views.specs.Writes.{up_to}
use Rattle.lg_book.specs.declared.volumes.FirstVolumes.{FirstVolumes}
use Rattle.lg_book.specs.FirstVolumes.{entry_volumes}
use Rattle.lg_book.specs.Following.{IsGrown}
use Rattle.lg_book.specs.Index.{all_volumes}
use Rattle.lg_shard.specs.State.{StripeState}
use Rattle.lg_plan.specs.Plans.{PlanState, no_mark}
use Rattle.lg_decide.specs.declared.decisions.Decision.{Decision}
use Rattle.lg_decide.specs.declared.decisions.Decision.TheVariants.{Answered, Planned}
use Rattle.lg_decide.specs.Deciding.{AreLimited}
use Rattle.lg_bulk.specs.declared.gathered.Gathered.{Gathered}
use Rattle.lg_bulk.specs.declared.gathered.Gathering.{Gathering}
use Rattle.lg_bulk.specs.declared.gathered.Gathering.TheVariants.{Failed, Complete}
use Rattle.lg_bulk.specs.declared.gathered.Turn.{Turn}
use Rattle.lg_bulk.specs.declared.gathered.Turn.TheVariants.{GoOn, End, Fail}

-- ---- what is known

-- what is known where a list is tried: the ledger is there, each event may follow those before it, the shards of all
-- sixteen stripes are lent and are the parts of the events, and what they know is within the limit
pub record Ground (lent : ℕ → Option StripeState) (events : List Event) (ledger : List ℕ) : Type 0 where
  pub there : is_there events ledger ≡ true
  pub grown : IsGrown events
  pub parts : (k : ℕ) → k < 16 → IsSomeAnd (lent k) (λ state. state.shares ≡ part_of k events)
  pub limits : AreLimited lent

-- an entry may be appended after the entries that the list has appended to the ledger
pub record MayAppend (lent : ℕ → Option StripeState) (events : List Event) (ledger : List ℕ) (earlier : List Entry) (e : Entry) : Type 0 where
  pub ground : Ground lent events ledger
  pub follows : FollowsFrom (log events ledger) earlier
  pub next : fault (log events ledger ++ earlier) e ≡ None

-- ---- what is gathered

abbrev pub nothing_gathered : Gathered
nothing_gathered = record { results = []; entries = []; volumes = [] }

abbrev pub with_result : Gathered → BulkItem → Gathered
with_result gathered result = record { results = gathered.results ++ result ∷ []; entries = gathered.entries; volumes = gathered.volumes }

abbrev pub with_entry : Gathered → BulkItem → Entry → FirstVolumes → Gathered
with_entry gathered result e volumes = record { results = gathered.results ++ result ∷ []; entries = gathered.entries ++ e ∷ []; volumes = gathered.volumes ++ volumes ∷ [] }

-- what is gathered over a log: each entry may follow the log and those before it, and each has the volumes that its first
-- reply shows
pub record IsGathered (g : List Entry) (gathered : Gathered) : Type 0 where
  pub follows : FollowsFrom g gathered.entries
  pub volumes : gathered.volumes ≡ all_volumes g gathered.entries

-- ---- one element

abbrev pub refusal_in : Written → Option Refusal
refusal_in (Refuses refusal) = Some refusal
refusal_in (Finds e) = None
refusal_in (Appends e) = None

-- what is gathered with an element that is tried over a log: the result of a good one, and the entry that it appends
abbrev pub gathered_with : List Entry → Element → Gathered → Written → Gathered
gathered_with h x gathered (Refuses refusal) = gathered
gathered_with h x gathered (Finds e) = with_result gathered (good_result x (up_to h e) e)
gathered_with h x gathered (Appends e) = with_entry gathered (good_result x (h ++ e ∷ []) e) e (entry_volumes (h ++ e ∷ []) e)

-- ---- the whole list

-- what was gathered, before what becomes of the rest of the list
abbrev pub put_before : Gathered → Batched → Batched
put_before gathered rest = record { results = gathered.results ++ rest.results; entries = gathered.entries ++ rest.entries; failure = rest.failure }

-- the answer to a list, where so much was gathered over the log and these elements are left
abbrev pub answer_after : List Entry → Bool → Bool → ℤ → Gathered → ℕ → List Element → Reply × List Entry
answer_after g atomic go_on now gathered k xs = bulk_answer atomic (put_before gathered (batched (g ++ gathered.entries) k go_on now xs))

-- the answer to a list by all that was gathered
abbrev pub gathered_answer : Gathered → Reply × List Entry
gathered_answer gathered = (bulk_reply gathered.results, gathered.entries)

-- the answer to an atomic list by the first failure
abbrev pub failed_answer : BulkItem → Reply × List Entry
failed_answer result = (bulk_reply (result ∷ []), [])

-- what one element does to a list, whatever elements follow: the list goes on, it ends with what was gathered, or it fails
abbrev pub IsTurn : List Entry → Bool → Bool → ℤ → Gathered → ℕ → Element → Gathered → Turn → Type 0
IsTurn g atomic go_on now before k x after GoOn =
    IsGathered g after × ((xs : List Element) → answer_after g atomic go_on now before k (x ∷ xs) ≡ answer_after g atomic go_on now after (k + 1) xs)
IsTurn g atomic go_on now before k x after End =
    IsGathered g after × ((xs : List Element) → answer_after g atomic go_on now before k (x ∷ xs) ≡ gathered_answer after)
IsTurn g atomic go_on now before k x after (Fail result) = (xs : List Element) → answer_after g atomic go_on now before k (x ∷ xs) ≡ failed_answer result

-- what the elements came to is the answer to a list over a log
abbrev pub ComesTo : List Entry → Reply × List Entry → Gathering → Type 0
ComesTo g answer (Failed result) = answer ≡ failed_answer result
ComesTo g answer (Complete gathered) = IsGathered g gathered × (answer ≡ gathered_answer gathered)

-- ---- the decision

-- the plan that appends all entries that were gathered
abbrev pub list_plan : ℕ → List ℕ → Gathered → PlanState
list_plan place ledger gathered = record { place = place; events = map (Logged ledger) gathered.entries; volumes = gathered.volumes; reply = bulk_reply gathered.results; mark = no_mark }

-- where no entry was gathered, the list is answered alone
abbrev pub gathered_decision : ℕ → List ℕ → Gathered → List Entry → Decision
gathered_decision place ledger gathered [] = Answered (bulk_reply gathered.results)
gathered_decision place ledger gathered (e ∷ es) = Planned (list_plan place ledger gathered)

abbrev pub gathering_decision : ℕ → List ℕ → Gathering → Decision
gathering_decision place ledger (Failed result) = Answered (bulk_reply (result ∷ []))
gathering_decision place ledger (Complete gathered) = gathered_decision place ledger gathered gathered.entries

-- as many volumes as entries
abbrev pub IsPaired : Gathering → Type 0
IsPaired (Failed result) = Unit {0}
IsPaired (Complete gathered) = length gathered.volumes ≡ length gathered.entries
